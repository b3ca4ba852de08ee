-- The rows of a module's graph of reads: first its variables, and after them its functions.
use Rattle.std.specs.Prelude.{◌≡◌, ℕ, ◌+◌, List, ◌∷◌, Some, length, slice_get, Contains, []}
use Rattle.tree_items.specs.Files.{ItemShape}
use Rattle.meaning_rules.specs.Worlds.Given.{Text, World}
use Rattle.meaning_rules.specs.Fixed.{value_of}
use Rattle.meaning_rules.specs.Naming.{Occurrence, Part, occurrences, parts_of}
use Rattle.meaning_rules.specs.Naming as naming

module _ (variables functions : List Text) where
  -- an occurrence names the variable or function at a place; a name that a parameter hides names none, and a constant or built-in has no place
  pub data IsPlaceOf (p : Part) : Occurrence → ℕ → Type 0 where
    of_variable : {name : Text} (place : ℕ) → (Contains p.sees name → ⊥) → slice_get variables place ≡ Some name → IsPlaceOf p (naming.a_variable name) place
    of_function : {name : Text} {count : ℕ} (place : ℕ) → slice_get functions place ≡ Some name → IsPlaceOf p (naming.a_call name count) (length variables + place)

  -- the places that occurrences name, in order
  pub data AreReadBy (p : Part) : List Occurrence → List ℕ → Type 0 where
    none : AreReadBy p [] []
    names : {o : Occurrence} {os : List Occurrence} {place : ℕ} {places : List ℕ} → IsPlaceOf p o place → AreReadBy p os places → AreReadBy p (o ∷ os) (place ∷ places)
    passes : {o : Occurrence} {os : List Occurrence} {places : List ℕ} → ((place : ℕ) → IsPlaceOf p o place → ⊥) → AreReadBy p os places → AreReadBy p (o ∷ os) places

  -- the row of each item: an assignment or a function, which has one part
  pub record AreReads (w : World) (items : List ItemShape) (rows : List (List ℕ)) : Type 0 where
    pub many : length rows ≡ length items
    pub whole : length items ≡ length variables + length functions
    pub each : (k : ℕ) (item : ItemShape) (row : List ℕ) → slice_get items k ≡ Some item → slice_get rows k ≡ Some row → (p : Part) × (parts_of (value_of w.expansion) item ≡ p ∷ []) × AreReadBy p (occurrences p.said) row
