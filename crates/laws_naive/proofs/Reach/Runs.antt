-- Runs by inputs that agree on reach.
use Rattle.std.proofs.Common.{ℕ, List, Option, ap, subst}
use Rattle.std.proofs.Math.Path.{fun_ext}
use Rattle.std.specs.Prelude.{Contains}
use Rattle.std.specs.List.{AllByRecursion}
use Rattle.just_host.specs.declared.entry.Entry.{Entry}
use Rattle.just_host.specs.declared.job.Pair.{Pair}
use Rattle.evaluate_context.specs.Surroundings.{by_name}
use Rattle.meaning_runs.specs.Failures.{Failure}
use Rattle.meaning_runs.specs.Tallies.{Tally}
use Rattle.meaning_evaluation.specs.Calling.{Ground}
use Rattle.meaning_evaluation.specs.Named.{Call, Definitions, paths_of}
use Rattle.meaning_evaluation.specs.Scopes.{Configuration}
use Rattle.just_meaning.specs.Opening.{Opened, IsReached, by_words, pairs_of}
use Rattle.just_meaning.specs.Runs.{HasRun, ground_of, reading_at, pairs_at, values_at}
use Rattle.just_meaning.specs.Runs as runs
use Rattle.laws_agreement.proofs.Agreement.Closed.{reached_closed}
use Rattle.laws_agreement.proofs.Agreement.Lists.{all_more, all_contained, contains_map}
use Rattle.just_meaning.specs.Determined.{nothing}
use Rattle.laws_agreement.proofs.Determined.Runs.{runs_are_determined}
use Rattle.laws_naive.specs.Reach.Alike.{AgreementIsMutual, SameIsReached, ActsAlike, RunsMove, RunsAreReached}
use Rattle.just_meaning.specs.Reach.{AgreeOnCalls}
use Rattle.just_meaning.specs.Runs.{recipes_of}
use Rattle.laws_naive.proofs.Reach.Reached.{mutual_agreement, reached_there, reached_back}
use Rattle.laws_naive.proofs.Reach.Exports.{pairs_alike}
use Rattle.laws_naive.proofs.Reach.Openings.{all_there, MovedAll}
use Rattle.laws_naive.proofs.Reach.Acts.{acts_alike}
use Rattle.laws_naive.proofs.Reach.Going.{run_there}

pub agreement_is_mutual : AgreementIsMutual
agreement_is_mutual no_dependencies invoked a b h = mutual_agreement no_dependencies invoked a b h

pub same_is_reached : SameIsReached
same_is_reached no_dependencies invoked a b h = (λ r. (reached_there no_dependencies invoked a b h r, reached_back no_dependencies invoked a b h r), h.opened)

module _ (c : Configuration) (a b : Definitions) (calls : List Call) (h : AgreeOnCalls c calls a b) where
  calls_reached : AllByRecursion (λ call. IsReached a c.no_dependencies (recipes_of calls) call.recipe) calls
  calls_reached = all_more (λ call. Contains calls call) _ (λ call stands. by_words (contains_map (λ other. other.recipe) calls call stands)) calls (all_contained calls)

  -- over what was opened calls rest on grounds whose acts are alike
  module _ (opened : List Opened) where
    abbrev out : List (List ℕ) → List Pair
    out path = by_name (pairs_of a path (values_at path opened))

    grounds : ActsAlike (ground_of c a opened) (ground_of c b opened) (λ call. IsReached a c.no_dependencies (recipes_of calls) call.recipe)
    grounds = subst (λ e. ActsAlike (ground_of c a opened) (let g : Ground = record { configuration = c; defined = b; dotenv = λ path. pairs_at path opened; exported = e } in g) (λ call. IsReached a c.no_dependencies (recipes_of calls) call.recipe))
        (fun_ext (λ path. ap by_name (pairs_alike c.no_dependencies (recipes_of calls) a b h path (values_at path opened))))
        (acts_alike c (recipes_of calls) a b h (λ path. pairs_at path opened) out)

    run_over : {old new : List Entry} {t t' : Tally} {failure : Option Failure} → HasRun c a opened calls old t new t' failure → HasRun c b opened calls old t new t' failure
    run_over run =
        let moved = run_there (ground_of c a opened) (ground_of c b opened) (reading_at c a opened) (λ call. IsReached a c.no_dependencies (recipes_of calls) call.recipe) grounds (reached_closed (ground_of c a opened) (recipes_of calls) (reading_at c a opened)) run.run calls_reached in
        record { done = run.done; run = moved.goes; counted = moved.counted run.counted }

-- A run by the one is a run by the other.
pub runs_move : (Rule : Type 0) → RunsMove Rule
runs_move Rule c a b calls h listed listed' old new t t' outcome (runs.refused o) =
    let x = subst (λ m. MovedAll c (recipes_of calls) a b h listed listed' o (paths_of m)) h.modules (all_there c (recipes_of calls) a b h listed listed' o) in
    record { run = runs.refused x.there; agrees = λ f k. x.agrees f k }
runs_move Rule c a b calls h listed listed' old new t t' outcome (runs.opened {opened = opened} o run) =
    let x = subst (λ m. MovedAll c (recipes_of calls) a b h listed listed' o (paths_of m)) h.modules (all_there c (recipes_of calls) a b h listed listed' o) in
    record { run = runs.opened x.there (run_over c a b calls h opened run); agrees = λ f k. (x.agrees f k.0, k.1) }

-- Two runs by inputs that agree on reach go alike, where both agree with one set of answers.
pub runs_are_reached : (Rule : Type 0) → RunsAreReached Rule
runs_are_reached Rule f c a b calls h listed listed' fit old new t outcome run agrees old' new' t' outcome' run' agrees' =
    let back = runs_move Rule c b a calls (mutual_agreement c.no_dependencies (recipes_of calls) a b h) listed' listed old' new' nothing t' outcome' run' in
    runs_are_determined Rule f c a calls listed fit old new t outcome run agrees old' new' t' outcome' back.run (back.agrees f agrees')
