-- Items in a row, and what stands between them.
use Rattle.std.specs.Prelude.{◌⊎◌, List, [], ◌∷◌, Option, Some, None}
use Rattle.just_text.specs.Tokens.{Word}

-- up to rest these items follow, each after what stands between two, and the end after the last
abbrev pub Follow : {A : Type 0} → (A → List Word → List Word → Type 0) → (List Word → List Word → Type 0) → (List Word → List Word → Type 0) → List A → List Word → List Word → Type 0
Follow Is Between End [] words rest = End words rest
Follow Is Between End (x ∷ xs) words rest = (a b : List Word) × Between words a × Is x a b × Follow Is Between End xs b rest

-- there is an item, and the words spell it
abbrev pub IfGiven : {A : Type 0} → (A → List Word → List Word → Type 0) → Option A → List Word → List Word → Type 0
IfGiven Is None words rest = ⊥
IfGiven Is (Some x) words rest = Is x words rest
