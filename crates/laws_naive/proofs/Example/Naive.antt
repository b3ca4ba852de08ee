-- What the laws say of the two runs.
use Rattle.std.proofs.Common.{◌≡◌, ◌∙◌, ap, subst, sym, cond, Bool, true, false, ℕ, List, [], ◌∷◌, Some, None, refl}
use Rattle.std.proofs.lemmas.Option.{same_Some, none-some}
use Rattle.tree_attributes.specs.Sets.Order.{sorted}
use Rattle.tree_expressions.specs.Shape.{Shape}
use Rattle.meaning_runs.specs.Laws.{events_of}
use Rattle.meaning_runs.specs.Meant.{is_event}
use Rattle.meaning_runs.specs.Naive.{went}
use Rattle.meaning_rules.proofs.Worlds.Places.{contains_none}
use Rattle.meaning_evaluation.specs.Named.{ModuleRow, RecipeRow}
use Rattle.just_meaning.specs.Meanings.{IsNaive}
use Rattle.just_meaning.specs.Steady.{AreSteady, EvaluatesFirst, default, key, value, prompt, argument, looked}
use Rattle.laws_naive.proofs.Naive.Runs.{written_steady}
use Rattle.just_meaning.proofs.Naively.{refused_exactly}
use Rattle.just_host.specs.declared.entry.Entry.TheVariants.{Line}
use Rattle.just_host.specs.declared.host.Status.TheVariants.{Code}
use Rattle.just_meaning.specs.Naively.{GoesNaively, IsRefused, refused, hands_over}
use Rattle.laws_naive.proofs.Naive.Ranks.{dependencies_fall}
use Rattle.laws_naive.proofs.Naive.Worlds.{invoked_go_naively}
use Rattle.just_meaning.specs.Runs.{Outcome, not_opened, ran}
use Rattle.meaning_evaluation.specs.Requests.{opening}
use Rattle.just_meaning.specs.Planned.{WritesNaively}
use Rattle.laws_naive.proofs.Plans.Planned.{plans_are_naive}
use Rattle.run_plan.specs.Plans.{plan_text}
use Rattle.laws_naive.specs.Example.Justfile.{answers, call, configuration, defined, failed, of_root, row, told, world}
use Rattle.laws_naive.proofs.Example.Defined.{clear, invokes}
use Rattle.laws_naive.proofs.Example.Runs.{a_refusal, a_refusal_agrees, a_run, a_run_agrees, asked, ends, record_of, refuses}

abbrev pub all_ran : Outcome ⊥
all_ran = ran

abbrev pub none_opened : Outcome ⊥
none_opened = not_opened (opening refuses.0)

-- the run goes naively
pub run_goes : GoesNaively (answers told) configuration defined (call ∷ []) [] (record_of ends.0) all_ran
run_goes = invoked_go_naively dependencies_fall ⊥ world [] clear.none clear.read clear.order _ _ defined clear.are clear.rows configuration _ _ invokes (answers told) [] (record_of ends.0) _ ran a_run a_run_agrees

-- and so does the one whose opening is refused
pub refusal_goes : GoesNaively (answers failed) configuration defined (call ∷ []) [] (asked failed ∷ []) none_opened
refusal_goes = invoked_go_naively dependencies_fall ⊥ world [] clear.none clear.read clear.order _ _ defined clear.are clear.rows configuration _ _ invokes (answers failed) [] (asked failed ∷ []) _ (not_opened (opening refuses.0)) a_refusal a_refusal_agrees

-- a plan of the run writes the text of the naive run
pub plan_goes : WritesNaively (answers told) configuration defined (call ∷ []) (plan_text (record_of ends.0)) all_ran
plan_goes = plans_are_naive ⊥ world [] _ _ defined clear configuration _ _ invokes (answers told) (record_of ends.0) _ ran a_run a_run_agrees

-- ---- all is steady

row_is : (path : List (List ℕ)) (b : Bool) (r : RecipeRow) → of_root path (cond b (Some row) None) ≡ Some r → r ≡ row
row_is [] true r e = sym (same_Some _ _ e)
row_is [] false r e = absurd (none-some _ e)
row_is (p ∷ ps) b r e = absurd (none-some _ e)

cond_none : (b : Bool) → cond b row.subsequents [] ≡ []
cond_none true = refl
cond_none false = refl

evaluates_none : (r : RecipeRow) (inside : ModuleRow) (e : Shape) → r ≡ row → EvaluatesFirst r inside e → ⊥
unfolding sorted
evaluates_none r inside e same (default c h) = contains_none r.parameters _ (ap (λ (q : RecipeRow). q.parameters) same) c
evaluates_none r inside e same (key c) = contains_none r.env _ (ap (λ (q : RecipeRow). q.env) same) c
evaluates_none r inside e same (value c) = contains_none r.env _ (ap (λ (q : RecipeRow). q.env) same) c
evaluates_none r inside e same (prompt h) = none-some _ (sym (ap (λ (q : RecipeRow). q.confirm) same) ∙ h)
evaluates_none r inside e same (argument c k) = contains_none (looked r inside) _ (ap (λ (q : RecipeRow). looked q inside) same ∙ cond_none inside.shares) c

steady : AreSteady defined
steady = record {
  unasked = λ r given inside e there in_there first. absurd (evaluates_none given inside e (row_is r.path _ given there) first);
  unvalued = λ r given parameter there c. absurd (contains_none given.parameters parameter (ap (λ (q : RecipeRow). q.parameters) (row_is r.path _ given there)) c);
}

-- the naive run hands over the one command, and goes through
pub run_is_naive : IsNaive configuration defined (answers told) (call ∷ []) (record { events = Line ends.0 (Code 0) ∷ []; end = went tt })
run_is_naive = by_end run_goes
  where
    by_end : GoesNaively (answers told) configuration defined (call ∷ []) [] (record_of ends.0) all_ran → IsNaive configuration defined (answers told) (call ∷ []) (record { events = Line ends.0 (Code 0) ∷ []; end = went tt })
    by_end (refused fault e given quiet) = absurd cc
    by_end (hands_over (Some failure) e opens hands) = absurd cc
    by_end (hands_over None e opens hands) = let n = hands (written_steady (answers told) configuration defined (call ∷ []) steady) in
        subst (λ p. IsNaive configuration defined (answers told) (call ∷ []) (record { events = events_of is_event p; end = went tt })) (sym n.entries) n.naive

-- the answers refuse the other one's opening
pub refusal_is_refused : IsRefused (answers failed) configuration defined (call ∷ [])
refusal_is_refused = (refused_exactly ⊥ (answers failed) configuration defined (call ∷ []) [] (asked failed ∷ []) (not_opened (opening refuses.0)) refusal_goes).1 (_, refl)
