-- What definitions of a module read, also through called functions.
use Rattle.std.specs.Prelude.{◌≡◌, ◌<◌, ◌-◌, ℕ, List, ◌∷◌, length, slice_get, Contains, []}
use Rattle.tree_items.specs.Files.{ItemShape, function_item}
use Rattle.tree_items.specs.Items.{FunctionShape}
use Rattle.meaning_rules.specs.Worlds.Given.{Text, World}
use Rattle.meaning_rules.specs.Fixed.{value_of}
use Rattle.meaning_rules.specs.Worlds.Keeping.{a_function, a_variable, Keeps}
use Rattle.meaning_rules.specs.Naming.{Part, Occurrence, occurrences, parts_of}
use Rattle.meaning_rules.specs.Naming as naming

module _ (w : World) where
  abbrev pub IsIn : Occurrence → Part → Type 0
  IsIn o p = Contains (occurrences p.said) o

  -- a part names a variable that none of its parameters hides, and the module keeps it
  pub record NamesVariable (own : Text) (p : Part) (name : Text) : Type 0 where
    pub occurs : IsIn (naming.a_variable name) p
    pub seen : Contains p.sees name → ⊥
    pub item : ItemShape
    pub kept : Keeps w own a_variable name item

  -- a part calls a function that the module defines
  pub record CallsFunction (own : Text) (p : Part) (f : FunctionShape) : Type 0 where
    pub count : ℕ
    pub occurs : IsIn (naming.a_call f.name count) p
    pub kept : Keeps w own a_function f.name (function_item f)

  -- a part reads a variable: it names it, or a function that it calls, through any chain of calls, names it
  pub data PartReads (own : Text) : Part → Text → Type 0 where
    named : {p : Part} {name : Text} → NamesVariable own p name → PartReads own p name
    called : {p : Part} {f : FunctionShape} {name : Text} → CallsFunction own p f → PartReads own (naming.part f.parameters f.body) name → PartReads own p name

  -- a definition reads a variable by one of its parts
  abbrev pub ItemReads : Text → ItemShape → Text → Type 0
  ItemReads own item name = (p : Part) × Contains (parts_of (value_of w.expansion) item) p × PartReads own p name

  -- a variable that is kept reads another
  pub record KeptReads (own name other : Text) : Type 0 where
    pub item : ItemShape
    pub kept : Keeps w own a_variable name item
    pub reads : ItemReads own item other

  abbrev pub VariableWalk : Text → List Text → Type 0
  VariableWalk own [] = Unit {0}
  VariableWalk own (a ∷ []) = Unit {0}
  VariableWalk own (a ∷ b ∷ names) = KeptReads own a b × VariableWalk own (b ∷ names)

  -- each reads the next one, and the last is the first again
  pub record IsVariableCycle (own : Text) (names : List Text) : Type 0 where
    pub long : 1 < length names
    pub closed : slice_get names 0 ≡ slice_get names (length names - 1)
    pub walk : VariableWalk own names
