-- Why items that a module keeps are refused.
use Rattle.std.specs.Prelude.{◌≡◌, ◌⊎◌, ℕ, Some, Err, Contains}
use Rattle.tree_items.specs.declared.ast.Item.{Item}
use Rattle.modules_compilation.specs.Places.{item_at}
use Rattle.modules_compilation.specs.declared.compilation.Compilation.{Compilation}
use Rattle.modules_compilation.specs.declared.module_node.ModuleNode.{ModuleNode}
use Rattle.modules_compilation.specs.declared.place.Place.{Place}
use Rattle.resolve_references.specs.Places.{places_of}
use Rattle.resolve_references.specs.declared.read_fault.ReadFault.{ReadFault}
use Rattle.resolve_references.specs.declared.variable_resolver.VariableResolver.{VariableResolver}
use Rattle.resolve_analysis.specs.Lists.{kept_by}
use Rattle.resolve_analysis.specs.Reads.{IsRefusal, IsResolverOf}
use Rattle.meaning_rules.specs.Worlds.Given.{Overrides, World}
use Rattle.laws_modules.specs.Names.Names.{HasNode}
use Rattle.laws_names.specs.Reading.Meant.{IsNumberedWorld, IsTold}
use Rattle.laws_names.specs.Reading.Parts.{references_in}

-- a module keeps what stands at a place: a variable, a function, a recipe or a setting
abbrev pub IsKeptAt : ModuleNode → Place → Type 0
IsKeptAt node place = Contains node.assignments.items place ⊎ Contains node.functions.items place ⊎ Contains node.recipes.items place ⊎ Contains node.sets.items place

-- a module keeps an item
pub record KeepsItem (compilation : Compilation) (node : ModuleNode) (item : Item) : Type 0 where
  pub place : Place
  pub kept : IsKeptAt node place
  pub there : item_at compilation place ≡ Some item

-- the fault of an item that a module keeps tells a rule that is broken
abbrev pub ReadsAreTold : Type 0
ReadsAreTold = (w : World) (o : Overrides) (compilation : Compilation) → IsNumberedWorld w compilation → (k : ℕ) (node : ModuleNode) → HasNode w compilation k node
    → (resolver : VariableResolver) → IsResolverOf (kept_by compilation node) resolver
    → (item : Item) → KeepsItem compilation node item → (fault : ReadFault) → places_of resolver (references_in item) ≡ Err fault → IsTold w o fault

-- the same of a fault that refuses the expressions of the variables and functions
abbrev pub RefusalsAreTold : Type 0
RefusalsAreTold = (w : World) (o : Overrides) (compilation : Compilation) → IsNumberedWorld w compilation → (k : ℕ) (node : ModuleNode) → HasNode w compilation k node
    → (fault : ReadFault) → IsRefusal (kept_by compilation node) fault → IsTold w o fault
