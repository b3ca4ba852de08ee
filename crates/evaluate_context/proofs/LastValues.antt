-- Values of names, of which the last counts.
use Rattle.std.proofs.Common.{◌≡◌, ℕ, Bool, true, false, cond, not, List, [], ◌∷◌, map, filter, is_some, Option, Some, None, refl, sym, ap, subst, ◌∙◌}
use Rattle.std.specs.BTreeMap.{BTreeMap, IsOrdered, get, is_at}
use Rattle.std.specs.Cmp.{IsEquivalence}
use Rattle.std.specs.Cmp.Lexicographic.{slice_cmp}
use Rattle.std.specs.List.Sorted.{IsStrictlySortedBy}
use Rattle.std.specs.Map.{keys_of, lookup}
use Rattle.std.specs.Option.{option_or}
use Rattle.std.specs.Ordering.{eq_by_cmp, nat_cmp}
use Rattle.std.specs.Str.{bytes_eq}
use Rattle.std.proofs.lemmas.Cmp.{eq_by_cmp_equiv, nat_list_cmp_total}
use Rattle.std.proofs.lemmas.Map.{lookup-none}
use Rattle.std.proofs.lemmas.Map.Entries.{none_past_head}
use Rattle.std.proofs.lemmas.Map.Keys.{IsDistinct-from_sorted}
use Rattle.std.proofs.lemmas.Map.Text.{is_eq-slice_cmp}
use Rattle.just_host.specs.declared.job.Pair.{Pair}
use Rattle.evaluate_context.specs.Environment.{IsEnvironment, last_of, pair_at}

or_assoc : {A : Type 0} (a b c : Option A) → option_or (option_or a b) c ≡ option_or a (option_or b c)
or_assoc None b c = refl
or_assoc (Some x) b c = refl

or_cond : {A : Type 0} (t : Bool) (v : A) (c : Option A) → option_or (cond t (Some v) None) c ≡ cond t (Some v) c
or_cond true v c = refl
or_cond false v c = refl

-- one more pair is taken, and the rest is left
pub one_more : (name : List ℕ) (pair : Pair) (left rest : List Pair) (old new whole : Option (List ℕ)) → left ≡ pair ∷ rest → option_or (last_of name left) old ≡ whole
    → new ≡ cond (is_at (slice_cmp nat_cmp pair.name) name) (Some pair.value) old → option_or (last_of name rest) new ≡ whole
one_more name pair left rest old new whole taken so_far is =
    let same : new ≡ option_or (cond (bytes_eq pair.name name) (Some pair.value) None) old = is ∙ ap (λ t. cond t (Some pair.value) old) (is_eq-slice_cmp pair.name name) ∙ sym (or_cond (bytes_eq pair.name name) pair.value old) in
    ap (option_or (last_of name rest)) same ∙ sym (or_assoc (last_of name rest) (cond (bytes_eq pair.name name) (Some pair.value) None) old)
    ∙ ap (λ pairs. option_or (last_of name pairs) old) (sym taken) ∙ so_far

no_later : (v : Option (List ℕ)) → option_or v None ≡ v
no_later None = refl
no_later (Some x) = refl

by_key : IsEquivalence (eq_by_cmp (slice_cmp nat_cmp))
by_key = eq_by_cmp_equiv nat_list_cmp_total

tests_same : (name key : List ℕ) → bytes_eq key name ≡ is_at (slice_cmp nat_cmp name) key
tests_same name key = sym (is_eq-slice_cmp key name) ∙ by_key.symm key name

first_or_later : (t : Bool) (v : List ℕ) (later : Option (List ℕ)) → (t ≡ true → later ≡ None) → option_or later (cond t (Some v) None) ≡ cond t (Some v) later
first_or_later true v later only = rw (only refl) refl
first_or_later false v later only = no_later later

-- the entries of a map, whose keys differ
last_is_only : (name : List ℕ) (es : List (List ℕ × List ℕ)) → IsStrictlySortedBy (slice_cmp nat_cmp) (keys_of es) → last_of name (map pair_at es) ≡ lookup (is_at (slice_cmp nat_cmp name)) es
unfolding IsStrictlySortedBy
last_is_only name [] sorted = refl
last_is_only name (e ∷ es) sorted =
    let at = is_at (slice_cmp nat_cmp name) in
    ap (λ v. option_or v (cond (bytes_eq e.0 name) (Some e.1) None)) (last_is_only name es sorted.1)
    ∙ ap (λ t. option_or (lookup at es) (cond t (Some e.1) None)) (tests_same name e.0)
    ∙ first_or_later (at e.0) e.1 (lookup at es) (λ same. lookup-none at es (none_past_head by_key name e es (IsDistinct-from_sorted (slice_cmp nat_cmp) (keys_of (e ∷ es)) sorted) same))

names_are : (es : List (List ℕ × List ℕ)) → map (λ pair. pair.name) (map pair_at es) ≡ keys_of es
names_are [] = refl
names_are (e ∷ es) = ap (λ names. e.0 ∷ names) (names_are es)

filtered_same : (f g : List ℕ → Bool) (xs : List (List ℕ)) → ((x : List ℕ) → f x ≡ g x) → filter f xs ≡ filter g xs
filtered_same f g [] same = refl
filtered_same f g (x ∷ xs) same = rw (same x, filtered_same f g xs same) refl

-- what a map of the last values gives
pub environment_is : (given pairs : List Pair) (values : BTreeMap (List ℕ) (List ℕ)) (unexports removed : List (List ℕ))
    → ((name : List ℕ) → get (slice_cmp nat_cmp) values name ≡ last_of name given) → IsOrdered (slice_cmp nat_cmp) values
    → pairs ≡ map pair_at values.entries → removed ≡ filter (λ name. not (is_some (get (slice_cmp nat_cmp) values name))) unexports
    → IsEnvironment given unexports pairs removed
environment_is given pairs values unexports removed found ordered pairs_are removed_are = record {
  values = λ name. ap (last_of name) pairs_are ∙ last_is_only name values.entries ordered ∙ found name;
  sorted = subst (λ ps. IsStrictlySortedBy (slice_cmp nat_cmp) (map (λ pair. pair.name) ps)) (sym pairs_are) (subst (IsStrictlySortedBy (slice_cmp nat_cmp)) (sym (names_are values.entries)) ordered);
  lacking = removed_are ∙ filtered_same (λ name. not (is_some (get (slice_cmp nat_cmp) values name))) (λ name. not (is_some (last_of name given))) unexports (λ name. ap (λ v. not (is_some v)) (found name));
}
