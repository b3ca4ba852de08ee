-- Numbers that were handed out one after another.
use Rattle.std.specs.Prelude.{ℕ, ◌≡◌, List, length}
use Rattle.parse_recipes.specs.Numbering.{count_from}

-- they are the numbers from start on, one after another
abbrev pub IsInOrder : ℕ → List ℕ → Type 0
IsInOrder start numbers = numbers ≡ count_from start (length numbers)
