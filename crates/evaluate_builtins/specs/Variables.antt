-- Variables of the environment that are looked up one after another.
use Rattle.std.specs.Prelude.{◌≡◌, ⊤, ℕ, List, [], ◌∷◌, Option, Some, None, Result, Ok, Err}
use Rattle.just_host.specs.declared.entry.Entry.{Entry}
use Rattle.just_host.specs.declared.host.HostFault.{HostFault}
use Rattle.just_host.specs.declared.host.Question.TheVariants.{Environment}
use Rattle.just_host.specs.declared.job.Pair.{Pair}
use Rattle.evaluate_context.specs.Environment.{last_of}
use Rattle.evaluate_functions.specs.declared.fault.FunctionFault.{FunctionFault}
use Rattle.evaluate_functions.specs.declared.fault.FunctionFault.TheVariants.{OutOfMemory, Message}
use Rattle.meaning_dialogues.specs.Answers.{optional_in}
use Rattle.meaning_dialogues.specs.Dialogue.{Dialogue, Asks, Begins, DialogueGoes, Reading}
use Rattle.meaning_dialogues.specs.Evaluation.{Value}
use Rattle.meaning_dialogues.specs.Faults.{Fault, function_failed}
use Rattle.evaluate_builtins.specs.Builtins.{in_files, looked_up, not_present, untold}

-- the environment is asked for a variable, and where it has none the rest follows
abbrev pub asked_variable : List ℕ → List ℕ → Dialogue Value → Dialogue Value
asked_variable name variable rest = Asks (Environment variable) (λ answer. looked_up name variable rest (optional_in answer))

-- a variable that the files or else the environment may have
abbrev pub one_variable : List ℕ → List Pair → List ℕ → Dialogue Value → Dialogue Value
one_variable name dotenv variable rest = in_files (last_of variable dotenv) (asked_variable name variable rest)

-- a text ends the dialogue, so does a refusal, and where there is neither the rest leads on; where memory ran out, the dialogue begins by what was recorded
abbrev pub LeadsOn : List ℕ → Reading → Dialogue Value → Dialogue Value → List Entry → List Entry → Result (Option (List ℕ)) FunctionFault → Type 0
LeadsOn name reading all rest old new (Ok (Some text)) = DialogueGoes reading all old new (Ok (text ∷ []))
LeadsOn name reading all rest old new (Ok None) = (last : List Entry) (end : Result Value Fault) → DialogueGoes reading rest new last end → DialogueGoes reading all old last end
LeadsOn name reading all rest old new (Err (Message text)) = DialogueGoes reading all old new (Err (function_failed name text))
LeadsOn name reading all rest old new (Err OutOfMemory) = Begins reading all old new

-- the environment was asked for a variable, with this result
pub record IsAskedFor (variable : List ℕ) (old new : List Entry) (result : Result (Option (List ℕ)) FunctionFault) : Type 0 where
  pub leads : (name : List ℕ) (reading : Reading) (rest : Dialogue Value) → LeadsOn name reading (asked_variable name variable rest) rest old new result

-- a variable was looked up in the files and the environment, with this result
pub record IsLookedUp (dotenv : List Pair) (variable : List ℕ) (old new : List Entry) (result : Result (Option (List ℕ)) FunctionFault) : Type 0 where
  pub leads : (name : List ℕ) (reading : Reading) (rest : Dialogue Value) → LeadsOn name reading (one_variable name dotenv variable rest) rest old new result

-- the environment's value is given, or the refusal that says why it can't be printed, unless memory runs out
abbrev pub Finds : List ℕ → Result (Option (List ℕ)) HostFault → Result (Option (List ℕ)) FunctionFault → Type 0
Finds variable answer (Ok found) = answer ≡ Ok found
Finds variable (Ok found) (Err (Message text)) = ⊥
Finds variable (Err fault) (Err (Message text)) = untold variable fault ≡ text
Finds variable answer (Err OutOfMemory) = ⊤

-- the default, or the refusal where there is none
abbrev pub default_told : List ℕ → Value → Option Value → Result Value Fault
default_told name variables (Some default) = Ok default
default_told name variables None = Err (function_failed name (not_present variables))
