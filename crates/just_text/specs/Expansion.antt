-- What an expander answers.
use Rattle.std.specs.Prelude.{◌≡◌, ℕ, List, Result, Ok, Err}
use Rattle.just_text.specs.declared.expander.ExpandFault.{ExpandFault}
use Rattle.just_text.specs.declared.expander.ExpandFault.TheVariants as faults

-- the given expansion is answered, unless memory ran out
abbrev pub IsExpansion : Result (List ℕ) (List ℕ) → Result (List ℕ) ExpandFault → Type 0
IsExpansion given (Ok text) = given ≡ Ok text
IsExpansion given (Err (faults.Refused text)) = given ≡ Err text
IsExpansion given (Err faults.OutOfMemory) = Unit {0}
