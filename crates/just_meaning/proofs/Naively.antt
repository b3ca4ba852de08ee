-- What goes naively, and what plans write by it.
use Rattle.std.proofs.Common.{◌≡◌, ℕ, List, [], ◌∷◌, ◌++◌, Option, Some, None, refl, sym, ap, ◌∙◌}
use Rattle.std.specs.Prelude.{Contains}
use Rattle.just_host.specs.declared.entry.Entry.{Entry}
use Rattle.just_host.specs.declared.entry.Entry.TheVariants.{Asked, Line, Script, Confirm, Show, Dotenv}
use Rattle.meaning_runs.specs.Failures.{Failure}
use Rattle.meaning_runs.specs.Laws.{events_of}
use Rattle.meaning_runs.specs.Meant.{is_event}
use Rattle.meaning_runs.specs.Told.{Answers}
use Rattle.meaning_evaluation.specs.Named.{Call, Definitions, paths_of}
use Rattle.meaning_evaluation.specs.Requests.{OpeningFailure, dotenv, opening}
use Rattle.meaning_evaluation.specs.Scopes.{Configuration}
use Rattle.run_plan.specs.Plans.{entry_text, plan_text}
use Rattle.just_meaning.specs.Laws.{GivenFaultsRefuse, PlansTellEvents, PlansTellNaively, RefusedExactly}
use Rattle.just_meaning.specs.Meanings.{by_request, by_variable}
use Rattle.just_meaning.specs.Naively.{of_request, of_variable, refused, hands_over}
use Rattle.just_meaning.specs.Planned as planned
use Rattle.just_meaning.specs.Runs.{not_opened, outcome_of}

-- A fault that the answers give refuses the opening.
pub given_faults_refuse : GivenFaultsRefuse
given_faults_refuse f c defined calls (dotenv fault) (of_request at inside asks told_so) = by_request at inside asks told_so
given_faults_refuse f c defined calls (opening fault) (of_variable {x = x} at opens means) = by_variable {x = x} at opens means

-- an end behind an opening is no refusal of one
no_refusal : {Rule : Type 0} (failure : Option Failure) (fault : OpeningFailure) → outcome_of {Rule = Rule} failure ≡ not_opened fault → ⊥
no_refusal None fault e = cc
no_refusal (Some failure) fault e = cc

-- What goes naively is refused before any recipe exactly where the answers refuse the opening.
pub refused_exactly : (Rule : Type 0) → RefusedExactly Rule
refused_exactly Rule f c defined calls old new outcome (refused fault ended given quiet) = (λ is. (fault, ended), λ ends. given_faults_refuse f c defined calls fault given)
refused_exactly Rule f c defined calls old new outcome (hands_over failure ended opens hands) = (λ is. absurd (opens is), λ ends. absurd (no_refusal failure ends.0 (sym ended ∙ ends.1)))

-- The text of a plan is that of the events.
pub plans_tell_events : PlansTellEvents
plans_tell_events [] = refl
plans_tell_events (Asked question answer ∷ entries) = plans_tell_events entries
plans_tell_events (Dotenv request answer ∷ entries) = plans_tell_events entries
plans_tell_events (Line job status ∷ entries) = ap (λ l. entry_text (Line job status) ++ l) (plans_tell_events entries)
plans_tell_events (Script job status ∷ entries) = ap (λ l. entry_text (Script job status) ++ l) (plans_tell_events entries)
plans_tell_events (Confirm prompt answer ∷ entries) = ap (λ l. entry_text (Confirm prompt answer) ++ l) (plans_tell_events entries)
plans_tell_events (Show text ∷ entries) = plans_tell_events entries

-- The text of a plan of what grew from nothing is that of the events of the piece by which it grew.
pub of_piece : (entries piece : List Entry) → entries ≡ [] ++ piece → plan_text entries ≡ plan_text (events_of is_event piece)
of_piece entries piece e = ap plan_text e ∙ sym (plans_tell_events piece)

-- The plan of a run that goes naively is the text of the naive run.
pub plans_tell_naively : (Rule : Type 0) → PlansTellNaively Rule
plans_tell_naively Rule f c defined calls entries outcome (refused fault ended given quiet) =
    planned.refused (given_faults_refuse f c defined calls fault given) (of_piece entries quiet.piece quiet.entries ∙ ap plan_text quiet.quiet)
plans_tell_naively Rule f c defined calls entries outcome (hands_over failure ended opens hands) =
    planned.tells failure ended opens (λ steady. let h = hands steady in record { events = events_of is_event h.piece; naive = h.naive; text = of_piece entries h.piece h.entries })
