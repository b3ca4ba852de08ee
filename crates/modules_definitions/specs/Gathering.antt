-- Definitions that are found one after the other.
use Rattle.std.specs.Prelude.{◌≡◌, ◌≢◌, ◌⊎◌, ◌<◌, ℕ, List, Some, Contains, slice_get}
use Rattle.just_text.specs.declared.name.Name.{Name}
use Rattle.modules_compilation.specs.declared.place.Place.{Place}
use Rattle.modules_definitions.specs.declared.definition.Definition.{Definition}
use Rattle.modules_definitions.specs.declared.definition.Kind.{Kind}
use Rattle.modules_compilation.specs.declared.module_node.File.{File}
use Rattle.modules_compilation.specs.declared.module_node.ModuleNode.{ModuleNode}
use Rattle.modules_definitions.specs.Defining.{IsNew, submodule_at}

-- what stands there was found after the earlier ones
pub record Gathers (Stands : Kind → Name → Place → Type 0) (earlier found : List Definition) : Type 0 where
  pub kept : (d : Definition) → Contains earlier d → Contains found d
  pub sound : (d : Definition) → Contains found d → Contains earlier d ⊎ (Stands d.kind d.name.now d.place × IsNew d.kind d.name.now d.place d)
  pub complete : (kind : Kind) (name : Name) (place : Place) → Stands kind name place → (d : Definition) × Contains found d × IsNew kind name place d

-- no two of these stand at one place
abbrev pub AreApart : List Definition → Type 0
AreApart ds = (i j : ℕ) (a b : Definition) → i < j → slice_get ds i ≡ Some a → slice_get ds j ≡ Some b → a.place ≢ b.place

-- where none of the earlier ones stands at such a place, and they stand apart, so do those that were found
abbrev pub StaysApart : (Place → Type 0) → List Definition → List Definition → Type 0
StaysApart At earlier found = ((d : Definition) → Contains earlier d → At d.place → ⊥) → AreApart earlier → AreApart found

module _ (files : List File) (modules : List ModuleNode) where
  -- the item of the submodule at a place of all modules stands here
  abbrev pub IsItemOf : ℕ → Place → Type 0
  IsItemOf inner place = (name : Name) × (submodule_at files modules inner ≡ Some (name, place))

  -- so does that of one of these submodules
  abbrev pub IsItemAmong : List ℕ → Place → Type 0
  IsItemAmong submodules place = (i inner : ℕ) × (slice_get submodules i ≡ Some inner) × IsItemOf inner place

  -- no two of these submodules have one item
  abbrev pub HaveOwnItems : List ℕ → Type 0
  HaveOwnItems submodules = (i j inner other : ℕ) (place : Place) → slice_get submodules i ≡ Some inner → slice_get submodules j ≡ Some other → IsItemOf inner place → IsItemOf other place → i ≡ j
