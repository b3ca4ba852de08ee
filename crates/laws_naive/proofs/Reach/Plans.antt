-- Plans of runs that go alike have the same text.
use Rattle.std.proofs.Common.{◌≡◌, refl, sym, ap, ◌∙◌, subst, [], ◌∷◌, ◌++◌, Option, Some, None, Err}
use Rattle.run_plan.specs.Plans.{plan_text}
use Rattle.meaning_runs.specs.Failures.{Failure}
use Rattle.meaning_runs.specs.Tallies.{Tally}
use Rattle.meaning_evaluation.specs.Named.{paths_of}
use Rattle.just_meaning.specs.Runs.{Runs, refused, opened, not_opened, outcome_of}
use Rattle.just_meaning.specs.Determined.{both_ran, both_refused, nothing}
use Rattle.just_meaning.proofs.Naively.{of_piece}
use Rattle.laws_agreement.proofs.Determined.Openings.{all_quiet}
use Rattle.laws_naive.specs.Reach.Plans.{RefusedPlansAreEmpty, PlansAreSame, End}

-- Where modules could not open nothing is written.
pub refused_plans_are_empty : RefusedPlansAreEmpty
refused_plans_are_empty c defined calls entries t fault run = by_run run refl
  where
    by_run : {end : End} {t' : Tally} → Runs c defined calls [] nothing entries t' end → end ≡ not_opened fault → plan_text entries ≡ []
    by_run (refused {fault = other} o) e = let quiet = all_quiet c defined _ (paths_of defined.modules) [] entries (Err other) o in of_piece entries quiet.piece quiet.entries ∙ ap plan_text quiet.quiet
    by_run (opened {failure = failure} o run) e = absurd (by_failure failure e)
      where
        by_failure : (failure : Option Failure) → outcome_of {Rule = ⊥} failure ≡ not_opened fault → ⊥
        by_failure None e = cc
        by_failure (Some f) e = cc

-- Plans of runs that go alike have the same text.
pub plans_are_same : PlansAreSame
plans_are_same c a b calls others entries entries' t t' end end' run run' (both_refused fault fault' e e') =
    refused_plans_are_empty c a calls entries t fault (subst (λ x. Runs c a calls [] nothing entries t x) e run) ∙ sym (refused_plans_are_empty c b others entries' t' fault' (subst (λ x. Runs c b others [] nothing entries' t' x) e' run'))
plans_are_same c a b calls others entries entries' t t' end end' run run' (both_ran piece piece' failure grown grown' same tallies e e') =
    of_piece entries piece grown ∙ (ap plan_text same ∙ sym (of_piece entries' piece' grown'))
