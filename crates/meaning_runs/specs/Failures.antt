-- How a recipe of a run fails, and what follows a command.
use Rattle.std.proofs.Common.{zero, suc}
use Rattle.std.specs.Prelude.{ℕ, List, cond, Result, Ok, Err}
use Rattle.just_host.specs.declared.host.Status.{Status}
use Rattle.just_host.specs.declared.host.Status.TheVariants.{Code, Signal, NotStarted}
use Rattle.just_host.specs.declared.host.Confirmation.{Confirmation}
use Rattle.just_host.specs.declared.host.Confirmation.TheVariants.{Yes, No, Failed as NoAnswer}
use Rattle.tree_items.specs.declared.line.Sigils.{Sigils}
use Rattle.meaning_dialogues.specs.Faults.{Fault}

-- the recipe's name alone, without the path of its module
pub data Failure : Type 0 where
  by_code : List ℕ → ℕ → Failure
  by_signal : List ℕ → ℕ → Failure
  not_started : List ℕ → Failure
  not_confirmed : List ℕ → Failure
  evaluation : Fault → Failure

-- the body goes on, or ends with success
pub data Next : Type 0 where
  goes_on : Next
  stops : Next

-- code 0 goes on; code 1 under a guard ends the body; a mark of infallible passes over each code and signal
abbrev pub next_by : List ℕ → Sigils → Status → Result Next Failure
next_by name s (Code zero) = Ok goes_on
next_by name s (Code (suc zero)) = cond s.guard (Ok stops) (cond s.infallible (Ok goes_on) (Err (by_code name 1)))
next_by name s (Code (suc (suc n))) = cond s.infallible (Ok goes_on) (Err (by_code name (suc (suc n))))
next_by name s (Signal n) = cond s.infallible (Ok goes_on) (Err (by_signal name n))
next_by name s NotStarted = Err (not_started name)

-- the user's answer
abbrev pub confirmed : List ℕ → Confirmation → Result (Unit {0}) Failure
confirmed name Yes = Ok tt
confirmed name No = Err (not_confirmed name)
confirmed name NoAnswer = Err (not_confirmed name)
