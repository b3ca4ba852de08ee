-- Which of the definitions of a name a module keeps, and which names have too many.
use Rattle.std.specs.Prelude.{◌≡◌, ◌≢◌, ◌⊎◌, ◌↔◌, ◌≤◌, ◌<◌, ℕ, Bool, false, ◌&&◌, List, ◌∷◌, Some, slice_get, Contains, []}
use Rattle.std.specs.Cmp.Lexicographic.{slice_cmp}
use Rattle.std.specs.List.Sorted.{IsSorted}
use Rattle.std.specs.Ordering.{nat_cmp, ordering_then}
use Rattle.std.specs.declared.cmp.Ordering.{Ordering}
use Rattle.modules_definitions.specs.declared.definition.Definition.{Definition}
use Rattle.modules_compilation.specs.declared.error.Error.{Error}
use Rattle.modules_compilation.specs.declared.error.Error.TheVariants.{OutOfMemory, Redefinition, DuplicateSet, DuplicateUnexport, DuplicateVariable}
use Rattle.modules_definitions.specs.declared.definition.Kind.{Kind}
use Rattle.modules_definitions.specs.declared.definition.Kind.TheVariants.{Alias, Disabled as DisabledKind, Function as FunctionKind, Module, Recipe, Set as SetKind, Unexport as UnexportKind, Variable as VariableKind}
use Rattle.modules_compilation.specs.declared.place.Place.{Place}
use Rattle.modules_definitions.specs.declared.definition.Space.{Space}
use Rattle.modules_definitions.specs.declared.definition.Space.TheVariants.{Common, Disabled, Function, Set, Unexport, Variable}
use Rattle.modules_definitions.specs.declared.keep.Allowed.{Allowed}

-- the order of the spaces
abbrev pub rank : Space → ℕ
rank Common = 0
rank Disabled = 1
rank Function = 2
rank Set = 3
rank Unexport = 4
rank Variable = 5

-- names by space, and in a space byte by byte
abbrev pub name_cmp : Definition → Definition → Ordering
name_cmp a b = ordering_then (nat_cmp (rank a.space) (rank b.space)) (slice_cmp nat_cmp a.text.now b.text.now)

-- places by file, and in a file by item
abbrev pub place_cmp : Place → Place → Ordering
place_cmp a b = ordering_then (nat_cmp a.file b.file) (nat_cmp a.item b.item)

-- by name, and those of one name in reading order
abbrev pub definition_cmp : Definition → Definition → Ordering
definition_cmp a b = ordering_then (name_cmp a b) (place_cmp a.place b.place)

-- the same by fronts first, which tell most names apart
abbrev pub front_cmp : Definition → Definition → Ordering
front_cmp a b = ordering_then (nat_cmp (rank a.space) (rank b.space)) (ordering_then (nat_cmp a.front b.front) (ordering_then (slice_cmp nat_cmp a.text.now b.text.now) (place_cmp a.place b.place)))

abbrev pub AreInOrder : List Definition → Type 0
AreInOrder ds = IsSorted definition_cmp ds

-- both define one name of a space in which names are told apart: all but that of disabled recipes
pub record ShareName (a b : Definition) : Type 0 where
  pub space : a.space ≡ b.space
  pub text : a.text.now ≡ b.text.now
  pub told_apart : a.space ≢ Disabled

-- no definition of the name stands in an earlier file, and none of the same file behind it
pub record IsKept (ds : List Definition) (d : Definition) : Type 0 where
  pub at : ℕ
  pub found : slice_get ds at ≡ Some d
  pub first : (e : Definition) → Contains ds e → ShareName e d → d.place.file ≤ e.place.file
  pub last : (j : ℕ) (e : Definition) → slice_get ds j ≡ Some e → ShareName e d → e.place.file ≡ d.place.file → j ≤ at

-- a definition of the kind may stand beside others of its name
abbrev pub may_repeat : Allowed → Kind → Bool
may_repeat allowed Recipe = allowed.duplicate_recipes
may_repeat allowed VariableKind = allowed.duplicate_variables
may_repeat allowed other = false

abbrev pub may_both : Allowed → Definition → Definition → Bool
may_both allowed a b = may_repeat allowed a.kind && may_repeat allowed b.kind

-- the definition has the name of one before it, and may not stand beside that
pub record IsDuplicate (allowed : Allowed) (ds : List Definition) (second : Definition) : Type 0 where
  pub first : Definition
  pub i : ℕ
  pub j : ℕ
  pub before : i < j
  pub found : slice_get ds i ≡ Some first
  pub is : slice_get ds j ≡ Some second
  pub shared : ShareName first second
  pub forbidden : may_both allowed first second ≡ false

-- the rest of a list when some are left out
pub data IsPart {X : Type 0} : List X → List X → Type 0 where
  none : IsPart [] []
  keeps : {x : X} {xs ys : List X} → IsPart xs ys → IsPart (x ∷ xs) (x ∷ ys)
  leaves : {y : X} {xs ys : List X} → IsPart xs ys → IsPart xs (y ∷ ys)

-- those that are kept, in the order given, and of a name one
pub record AreKept (ds kept : List Definition) : Type 0 where
  pub each : (d : Definition) → Contains kept d ↔ IsKept ds d
  pub part : IsPart kept ds
  pub once : (i j : ℕ) (a b : Definition) → i < j → slice_get kept i ≡ Some a → slice_get kept j ≡ Some b → ShareName a b → ⊥

-- the refusal of a second definition: by its kind, and with its name
abbrev pub refusal_of : Definition → Error
refusal_of d = by d.kind
  where
    by : Kind → Error
    by Alias = Redefinition d.name.now
    by DisabledKind = Redefinition d.name.now
    by FunctionKind = Redefinition d.name.now
    by (Module place) = Redefinition d.name.now
    by Recipe = Redefinition d.name.now
    by SetKind = DuplicateSet d.name.now
    by UnexportKind = DuplicateUnexport d.name.now
    by VariableKind = DuplicateVariable d.name.now

-- memory ran out, or a definition has a name that another has
pub data IsRefused (allowed : Allowed) (ds : List Definition) : Error → Type 0 where
  memory : IsRefused allowed ds OutOfMemory
  duplicate : {second : Definition} → IsDuplicate allowed ds second → IsRefused allowed ds (refusal_of second)
