-- Refusals on their way up, seen without places.
use Rattle.std.specs.Prelude.{ℕ, List, [], ◌∷◌, Result, Ok, Err}
use Rattle.just_host.specs.declared.host.HostFault.{HostFault}
use Rattle.evaluate_context.specs.Refusals.{fault_of}
use Rattle.evaluate_expressions.specs.declared.failure.Failure.{Failure}
use Rattle.evaluate_expressions.specs.declared.failure.Failure.TheVariants.{OutOfMemory, Refused}
use Rattle.meaning_dialogues.specs.Evaluation.{Value}
use Rattle.meaning_dialogues.specs.Faults.{Fault, memory, command_failed}

abbrev pub fault_in : Failure → Fault
fault_in OutOfMemory = memory
fault_in (Refused error) = fault_of error.value

-- a result without places, its value seen so
abbrev pub seen_above_as : {A B : Type 0} → (A → B) → Result A Failure → Result B Fault
seen_above_as view (Ok a) = Ok (view a)
seen_above_as view (Err failure) = Err (fault_in failure)

abbrev pub seen_above : {A : Type 0} → Result A Failure → Result A Fault
seen_above (Ok a) = Ok a
seen_above (Err failure) = Err (fault_in failure)

-- what a command printed, as one text, or why it printed nothing, for a command that is written so
abbrev pub printed_value : List ℕ → Result (List ℕ) HostFault → Result Value Fault
printed_value written (Ok text) = Ok (text ∷ [])
printed_value written (Err fault) = Err (command_failed fault written)
