-- The pairs of a command's environment are determined by what is given.
use Rattle.std.proofs.Common.{◌≡◌, ℕ, Bool, true, false, ◌&&◌, List, [], ◌∷◌, map, refl, sym, ap, ◌∙◌, subst}
use Rattle.std.proofs.Math.Dec.{T}
use Rattle.std.specs.Cmp.Lexicographic.{slice_cmp}
use Rattle.std.specs.FinMap.{nat_cmp-IsAntisymmetric, slice_cmp-IsAntisymmetric}
use Rattle.std.specs.FinMap.Entries.{find, below_all, is_sorted, same_entries}
use Rattle.std.specs.List.{AllByRecursion}
use Rattle.std.specs.List.Sorted.{IsStrictlySortedBy}
use Rattle.std.specs.Ordering.{is_lt, nat_cmp}
use Rattle.std.specs.declared.cmp.Ordering.TheVariants.{Less}
use Rattle.std.proofs.lemmas.Cmp.{nat_list_cmp_total}
use Rattle.just_host.specs.declared.job.Pair.{Pair}
use Rattle.just_value.specs.Frames.{Frames}
use Rattle.evaluate_context.specs.Environment.{IsEnvironment, last_of, given_pairs, texts, pair_at}
use Rattle.evaluate_context.specs.Environments.{IsEnvironmentIn}
use Rattle.evaluate_context.specs.declared.context.ExecutionContext.{ExecutionContext}
use Rattle.evaluate_context.specs.Surroundings.{entry_of, entries_by_name, by_name}
use Rattle.evaluate_context.proofs.ByName.{order, found, sorted_after, last_sorted}

both : (a b : Bool) → T a → T b → T (a && b)
both true true h g = tt
both true false h g = g
both false b h g = h

below : (name : List ℕ) (pairs : List Pair) → AllByRecursion (λ other. order name other ≡ Less) (map (λ pair. pair.name) pairs) → T (below_all order name (map entry_of pairs))
below name [] h = tt
below name (p ∷ ps) h = both _ _ (subst (λ o. T (is_lt o)) (sym h.0) tt) (below name ps h.1)

sorted_entries : (pairs : List Pair) → IsStrictlySortedBy order (map (λ pair. pair.name) pairs) → T (is_sorted order (map entry_of pairs))
unfolding IsStrictlySortedBy
sorted_entries [] h = tt
sorted_entries (p ∷ ps) h = both _ _ (below p.name ps h.0) (sorted_entries ps h.1)

back : (pairs : List Pair) → map pair_at (map entry_of pairs) ≡ pairs
back [] = refl
back (p ∷ ps) = ap (λ rest. p ∷ rest) (back ps)

-- of names that differ the last is the only one
last_only : (name : List ℕ) (pairs : List Pair) → IsStrictlySortedBy order (map (λ pair. pair.name) pairs) → last_of name pairs ≡ find order name (map entry_of pairs)
last_only name pairs h = ap (last_of name) (sym (back pairs)) ∙ last_sorted name (map entry_of pairs) (sorted_entries pairs h)

-- so the job's pairs are those of the definition
pub environment_by_name : (given pairs : List Pair) (unexports removed : List (List ℕ)) → IsEnvironment given unexports pairs removed → pairs ≡ by_name given
environment_by_name given pairs unexports removed h =
    let same : map entry_of pairs ≡ entries_by_name [] given
    = same_entries order nat_list_cmp_total (λ x y e. slice_cmp-IsAntisymmetric nat_cmp-IsAntisymmetric x y e) (map entry_of pairs) (entries_by_name [] given) (sorted_entries pairs h.sorted) (sorted_after [] given tt)
    (λ q. sym (last_only q pairs h.sorted) ∙ (h.values q ∙ sym (found q given))) in
    sym (back pairs) ∙ ap (map pair_at) same

pub environment_in_context : (context : ExecutionContext) (env : List Pair) (frames : Frames) (pairs : List Pair) (removed : List (List ℕ))
    → IsEnvironment (given_pairs context.dotenv.now.entries context.module.now.settings.now.export (texts context.module.now.unexports.now) env frames.outer) (texts context.module.now.unexports.now) pairs removed
    → IsEnvironmentIn context env frames pairs removed
environment_in_context context env frames pairs removed h = record { pairs_are = environment_by_name _ pairs _ removed h; removed_are = h.lacking }
