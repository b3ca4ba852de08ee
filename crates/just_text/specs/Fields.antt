-- The printed text of a refusal: its name, and its fields between backticks.
use Rattle.std.specs.Prelude.{ℕ, List, [], ◌∷◌, ◌++◌, codes}
use Rattle.std.specs.List.{flat_map}

abbrev pub ticked : List ℕ → List ℕ
ticked field = codes "`" ++ field ++ codes "`"

-- the fields after the first one
abbrev pub ticked_more : List (List ℕ) → List ℕ
ticked_more fields = flat_map (λ field. codes ", " ++ ticked field) fields

abbrev pub ticked_list : List (List ℕ) → List ℕ
ticked_list [] = []
ticked_list (field ∷ fields) = ticked field ++ ticked_more fields

abbrev pub with_fields : List ℕ → List (List ℕ) → List ℕ
with_fields name fields = name ++ codes ": " ++ ticked_list fields

-- the fields after a name, where there are any
abbrev pub fields_behind : List (List ℕ) → List ℕ
fields_behind [] = []
fields_behind fields = codes ": " ++ ticked_list fields
