-- Names that stand for something are read with values, where variables are held.
use Rattle.std.proofs.Common.{◌≡◌, ℕ, List, [], ◌∷◌, Bool, true, false, cond, map, Option, Some, None, Ok, refl, ap, ◌∙◌}
use Rattle.std.specs.Prelude.{Contains}
use Rattle.std.specs.List.{AllByRecursion}
use Rattle.std.specs.Str.{bytes_eq}
use Rattle.just_value.specs.Constants.{constant_rows}
use Rattle.meaning_dialogues.specs.Evaluation.{Value}
use Rattle.meaning_evaluation.specs.Named.{VariableRow, Definitions}
use Rattle.just_meaning.specs.Opening.{Held, named, text_named, held, read_by}
use Rattle.laws_agreement.specs.Agreement.Opened.{StandsFor, a_variable, a_constant}
use Rattle.laws_agreement.proofs.Agreement.Lists.{all_more, of_contained}
use Rattle.laws_agreement.proofs.Agreement.Names.{same_bytes}

-- it is read with a value in what is held
pub record IsReadIn (values : List Held) (name : List ℕ) : Type 0 where
  pub value : Value
  pub read : read_by (held name values) (text_named name constant_rows) name ≡ Ok value

-- it is held with a value
abbrev pub IsHeld : List Held → List ℕ → Type 0
IsHeld values name = (value : Value) × (held name values ≡ Some value)

-- what may be a constant is read with a value
read_some : (o : Option Value) (name text : List ℕ) → (value : Value) × (read_by o (Some text) name ≡ Ok value)
read_some (Some value) name text = (value, refl)
read_some None name text = (text ∷ [], refl)

-- a name that stands for something is read with a value where it is held if it is a variable
pub stands_read : (defined : Definitions) (path : List (List ℕ)) (values : List Held) (name : List ℕ) → ((row : VariableRow) → defined.variable (named path name) ≡ Some row → IsHeld values name) → StandsFor defined path name → IsReadIn values name
stands_read defined path values name go (a_variable {row = row} there) =
    let h = go row there in
    record { value = h.0; read = ap (λ o. read_by o (text_named name constant_rows) name) h.1 }
stands_read defined path values name go (a_constant {text = text} absent free is) =
    let r = read_some (held name values) name text in
    record { value = r.0; read = ap (λ o. read_by (held name values) o name) is ∙ r.1 }

-- what is held is held with one more before it
held_more : (h : Held) (hs : List Held) (name : List ℕ) → IsHeld hs name → IsHeld (h ∷ hs) name
held_more h hs name k = by_test (bytes_eq h.name name)
  where
    by_test : (b : Bool) → (value : Value) × (cond b (Some h.value) (held name hs) ≡ Some value)
    by_test true = (h.value, refl)
    by_test false = k

-- the first name is held
held_first : (h : Held) (hs : List Held) → IsHeld (h ∷ hs) h.name
held_first h hs = (h.value, ap (λ b. cond b (Some h.value) (held h.name hs)) (same_bytes h.name))

-- all names are held
all_held : (hs : List Held) → AllByRecursion (IsHeld hs) (map (λ h. h.name) hs)
all_held [] = tt
all_held (h ∷ hs) = (held_first h hs, all_more (IsHeld hs) (IsHeld (h ∷ hs)) (λ name k. held_more h hs name k) (map (λ x. x.name) hs) (all_held hs))

-- So each of the names is held.
pub named_held : (hs : List Held) (name : List ℕ) → Contains (map (λ h. h.name) hs) name → IsHeld hs name
named_held hs name c = of_contained (IsHeld hs) (map (λ h. h.name) hs) name (all_held hs) c
