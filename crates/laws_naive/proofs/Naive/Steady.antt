-- Steady justfiles' runs are naive runs.
use Rattle.std.proofs.Common.{◌≡◌, List, ◌++◌, map, Option, Some, None, refl, sym, ap, ◌∙◌, subst}
use Rattle.std.proofs.lemmas.List.{append_cancel_left}
use Rattle.just_host.specs.declared.entry.Entry.{Entry}
use Rattle.meaning_runs.specs.Failures.{Failure}
use Rattle.meaning_runs.specs.Laws.{events_of, end_by}
use Rattle.meaning_runs.specs.Meant.{is_event}
use Rattle.meaning_runs.specs.Told.{Answers}
use Rattle.meaning_evaluation.specs.Named.{Call, Definitions}
use Rattle.meaning_evaluation.specs.Scopes.{Configuration}
use Rattle.meaning_evaluation.specs.Requests.{OpeningFailure}
use Rattle.just_meaning.specs.Meanings.{IsNaive}
use Rattle.just_meaning.specs.Runs.{Outcome, call_in, not_opened, outcome_of}
use Rattle.just_meaning.specs.Naively.{AreAllSteady, GoesNaively}
use Rattle.laws_naive.specs.Naive.Laws.{SteadyRunsAreNaive}
use Rattle.just_meaning.specs.Naively as naively
use Rattle.laws_naive.proofs.Naive.Ranks.{dependencies_fall}
use Rattle.laws_naive.proofs.Naive.Records.{records_agree}
use Rattle.laws_naive.proofs.Naive.Runs.{written_steady}
use Rattle.laws_naive.proofs.Naive.Worlds.{invoked_go_naively}

same_failure : {Rule : Type 0} (a b : Option Failure) → (let r : Outcome Rule = outcome_of a in r) ≡ outcome_of b → a ≡ b
same_failure None None e = refl
same_failure None (Some b) e = absurd (cc)
same_failure (Some a) None e = absurd (cc)
same_failure (Some a) (Some b) e = let same : a ≡ b = cc in ap Some same

never_refused : {Rule : Type 0} (a : Option Failure) (fault : OpeningFailure) → (let r : Outcome Rule = outcome_of a in r) ≡ not_opened fault → ⊥
never_refused None fault e = absurd (cc)
never_refused (Some a) fault e = absurd (cc)

by_case : {Rule : Type 0} (f : Answers) (c : Configuration) (defined : Definitions) (calls : List Call) (old new : List Entry) (failure : Option Failure) (outcome : Outcome Rule) → outcome ≡ outcome_of failure → GoesNaively f c defined calls old new outcome → AreAllSteady f c defined calls
    → (piece : List Entry) → new ≡ old ++ piece → IsNaive c defined f calls (record { events = events_of is_event piece; end = end_by failure })
by_case f c defined calls old new failure outcome is (naively.refused fault e given quiet) steady piece grows = absurd (never_refused failure fault (sym is ∙ e))
by_case f c defined calls old new failure outcome is (naively.hands_over other e none naive) steady piece grows =
    let h = naive steady in
    let pieces : h.piece ≡ piece = append_cancel_left old h.piece piece (sym h.entries ∙ grows) in
    let failures : other ≡ failure = same_failure other failure (sym e ∙ is) in
    subst (λ l. IsNaive c defined f calls (record { events = events_of is_event l; end = end_by failure })) pieces
    (subst (λ x. IsNaive c defined f calls (record { events = events_of is_event h.piece; end = end_by x })) failures h.naive)

pub steady_runs_are_naive : (Rule : Type 0) → SteadyRunsAreNaive Rule
steady_runs_are_naive Rule w o none read order base working defined are rows steady c words invocations invoke f old new t failure run piece grows told =
    by_case f c defined (map call_in invocations) old new failure (outcome_of failure) refl
    (invoked_go_naively dependencies_fall Rule w o none read order base working defined are rows c words invocations invoke f old new t (outcome_of failure) run
    (records_agree Rule f c defined (map call_in invocations) old new t (outcome_of failure) run piece grows told))
    (written_steady f c defined (map call_in invocations) steady) piece grows
