-- Whether the lists of a module are on.
use Rattle.std.specs.Prelude.{◌≡◌, ℕ, Bool, false, List, Option, Some, None}
use Rattle.std.specs.Option.{unwrap_or}
use Rattle.tree_attributes.specs.declared.setting.Setting.TheVariants.{Truth}
use Rattle.tree_attributes.specs.declared.truth_setting.TruthSetting.TheVariants.{Lists}
use Rattle.tree_items.specs.declared.set.Set.{Set}
use Rattle.modules_compilation.specs.declared.compilation.Compilation.{Compilation}
use Rattle.modules_compilation.specs.declared.module_node.ModuleNode.{ModuleNode}
use Rattle.meaning_rules.specs.Worlds.Given.{Overrides, Text, World}
use Rattle.meaning_rules.specs.Constants.{AreLists}
use Rattle.laws_names.specs.Constants.Sought.{IsListedSet, IsSettledModule}

-- a setting of lists that the module lists says so, or it lists none
abbrev pub IsSaidOfLists : Compilation → ModuleNode → Option Bool → Type 0
IsSaidOfLists compilation node (Some value) = (s : Set) × IsListedSet compilation node s × (s.value ≡ Truth Lists value)
IsSaidOfLists compilation node None = (s : Set) (value : Bool) → IsListedSet compilation node s → s.value ≡ Truth Lists value → ⊥

-- they are on where such a setting sets them
abbrev pub ListsAreSaid : Type 0
ListsAreSaid = (w : World) (compilation : Compilation) (k : ℕ) (node : ModuleNode) (path : List Text) → IsSettledModule w compilation k node path → (o : Overrides) (said : Option Bool) → IsSaidOfLists compilation node said
    → AreLists w o path node.source.now (unwrap_or said false)
