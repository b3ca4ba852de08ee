-- What built-in functions say, with their names.
use Rattle.std.specs.Prelude.{◌≡◌, ◌≢◌, ℕ, List, Result, Ok, Err}
use Rattle.evaluate_functions.specs.declared.fault.FunctionFault.{FunctionFault}
use Rattle.evaluate_functions.specs.declared.fault.FunctionFault.TheVariants.{OutOfMemory, Message}
use Rattle.meaning_dialogues.specs.Evaluation.{Value}
use Rattle.meaning_dialogues.specs.Faults.{Fault, function_failed, memory}

-- the fault of the function with this name
abbrev pub fault_named : List ℕ → FunctionFault → Fault
fault_named name OutOfMemory = memory
fault_named name (Message text) = function_failed name text

-- the value, or the fault of the function with this name
abbrev pub named : List ℕ → Result Value FunctionFault → Result Value Fault
named name (Ok value) = Ok value
named name (Err fault) = Err (fault_named name fault)

-- with its name the function gives just this, unless memory runs out
pub record IsNamed (name : List ℕ) (given : Result Value FunctionFault) (said : Result Value Fault) : Type 0 where
  pub is : named name given ≢ Err memory → named name given ≡ said
