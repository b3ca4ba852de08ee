-- The printed text of a count.
use Rattle.std.specs.Prelude.{ℕ, List, [], ◌++◌, Option, Some, None, ◌==◌, codes, if◌then◌else◌}
use Rattle.std.specs.Fmt.{decimal}
use Rattle.just_text.specs.declared.count.Count.{Count}

-- a regular noun for so many: with `s`, unless there is one
abbrev pub counted : List ℕ → ℕ → List ℕ
counted noun count = if count == 1 then noun else noun ++ codes "s"

-- the number and a space, if it is to be printed
abbrev pub number_text : Option ℕ → List ℕ
number_text None = []
number_text (Some number) = decimal number ++ codes " "

abbrev pub count_text : Count → List ℕ
count_text count = number_text count.number ++ (count.noun.now ++ count.ending.now)
