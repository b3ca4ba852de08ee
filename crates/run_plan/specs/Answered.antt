-- How a planning host answers what is handed over.
use Rattle.std.specs.Prelude.{◌≡◌, List, [], ◌∷◌, ◌++◌}
use Rattle.std.specs.List.{AllByRecursion}
use Rattle.just_host.specs.declared.entry.Entry.{Entry}
use Rattle.just_host.specs.declared.entry.Entry.TheVariants.{Asked, Line, Script, Confirm, Show, Dotenv}
use Rattle.just_host.specs.declared.host.Status.TheVariants.{Code}
use Rattle.just_host.specs.declared.host.Confirmation.TheVariants.{Yes}

-- a command or a script was answered by code 0, a prompt by yes
abbrev pub IsWellAnswered : Entry → Type 0
IsWellAnswered (Asked question answer) = Unit {0}
IsWellAnswered (Dotenv request answer) = Unit {0}
IsWellAnswered (Line job status) = status ≡ Code 0
IsWellAnswered (Script job status) = status ≡ Code 0
IsWellAnswered (Confirm prompt answer) = answer ≡ Yes
IsWellAnswered (Show text) = Unit {0}

abbrev pub AreWellAnswered : List Entry → Type 0
AreWellAnswered entries = AllByRecursion IsWellAnswered entries

-- two rows that are, are so in order
pub answered_then : (p q : List Entry) → AreWellAnswered p → AreWellAnswered q → AreWellAnswered (p ++ q)
answered_then [] q h k = k
answered_then (entry ∷ p) q h k = (h.0, answered_then p q h.1 k)
