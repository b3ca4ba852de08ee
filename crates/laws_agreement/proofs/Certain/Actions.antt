-- No evaluation of values and no handing over of a command ends with `internal`.
use Rattle.std.proofs.Common.{ℕ, zero, suc, List, [], ◌∷◌, Bool, true, false, Result, Ok, Err}
use Rattle.just_host.specs.declared.entry.Entry.{Entry}
use Rattle.just_host.specs.declared.host.Status.{Status}
use Rattle.just_host.specs.declared.host.Status.TheVariants.{Code, NotStarted, Signal}
use Rattle.tree_items.specs.Lines.{no_sigils}
use Rattle.meaning_dialogues.specs.Dialogue.{Lookup, Variable}
use Rattle.meaning_dialogues.proofs.Soundness.{Any}
use Rattle.meaning_evaluation.specs.Requests.{OpeningFailure, dotenv, opening}
use Rattle.meaning_runs.specs.Failures.{Failure, next_by}
use Rattle.meaning_evaluation.specs.Named.{VariableName, ModuleRow, Definitions, paths_of}
use Rattle.meaning_evaluation.specs.Calling.{without_next}
use Rattle.meaning_evaluation.specs.Scopes.{Configuration}
use Rattle.just_meaning.specs.Opening.{IsOpened, Opened, OpensAll, reading_in}
use Rattle.just_meaning.specs.Actions.{IsKept, by_opening, by_word, command_by, command_task, commanded, end_of, evaluated, writing}
use Rattle.laws_agreement.specs.Certain.Certain.{AreCertainVariables, EvaluationsEndCertainly, CommandsEndCertainly}
use Rattle.just_meaning.specs.Certain.{IsCertainOpeningFailure, IsCertainActionEnd}
use Rattle.laws_agreement.proofs.Certain.Tasks.{Certain, ResultsIn, task_ends}
use Rattle.laws_agreement.proofs.Certain.Openings.{opening_certain}

-- no opening of such variables fails with `internal`
opening_fails : (c : Configuration) (defined : Definitions) (Open : VariableName → Type 0) → AreCertainVariables defined Open → (failure : OpeningFailure) {old new : List Entry}
    → OpensAll c defined Open (paths_of defined.modules) old new (Err failure) → IsCertainOpeningFailure failure
opening_fails c defined Open are (dotenv fault) opens = tt
opening_fails c defined Open are (opening fault) opens = opening_certain c defined Open (paths_of defined.modules) _ _ fault are opens

-- the text is written, or the output doesn't take it
writing_certain : (writes : Bool) (text : List ℕ) → IsCertainActionEnd (writing writes text)
writing_certain true text = tt
writing_certain false text = tt

-- No evaluation of values ends with `internal`.
pub evaluations_end_certainly : EvaluationsEndCertainly
evaluations_end_certainly c defined writes words old new end are (by_word broken) = tt
evaluations_end_certainly c defined writes words old new end are (by_opening {fault = fault} is opens) = opening_fails c defined (IsKept defined) are fault opens
evaluations_end_certainly c defined writes words old new end are (evaluated opened is opens) = writing_certain writes _

-- it reads no variable
abbrev ReadsNothing : Lookup → Variable → Type 0
ReadsNothing place x = ⊥

-- whatever status comes back of a command, it fails with no `internal`
status_certain : (command : List ℕ) (status : Status) → ResultsIn Any (without_next (next_by command no_sigils status))
status_certain command (Code zero) = tt
status_certain command (Code (suc zero)) = tt
status_certain command (Code (suc (suc code))) = tt
status_certain command (Signal signal) = tt
status_certain command NotStarted = tt

module _ (c : Configuration) (defined : Definitions) (row : ModuleRow) (opened : List Opened) where
  -- a command is handed over without an evaluation
  handed_certain : (dry : Bool) (words : List (List ℕ)) → Certain ReadsNothing Any (command_by c defined row opened dry words)
  handed_certain dry [] = tt
  handed_certain true (command ∷ words) = tt
  handed_certain false (command ∷ words) = λ status. status_certain command status

-- an end that is no failure with `internal`
end_certain : (end : Result (Unit {0}) Failure) → ResultsIn Any end → IsCertainActionEnd (end_of end)
end_certain (Ok done) h = tt
end_certain (Err failure) h = h

-- No handing over of a command ends with `internal`.
pub commands_end_certainly : CommandsEndCertainly
commands_end_certainly c defined words old new end are (by_word broken) = tt
commands_end_certainly c defined words old new end are (by_opening {fault = fault} is opens) = opening_fails c defined (IsOpened defined c.no_dependencies []) are fault opens
commands_end_certainly c defined words old new end are (commanded {row = row} {end = result} opened is inside opens leads) =
    end_certain result (task_ends ReadsNothing Any (reading_in []) (λ place x none. absurd none) (command_task c defined row opened words) leads.piece result (handed_certain c defined row opened c.dry_run words) leads.goes)
