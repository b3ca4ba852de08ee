-- What the aliases that modules keep stand for.
use Rattle.std.specs.Prelude.{◌≡◌, ◌≢◌, ◌<◌, ℕ, List, Some, slice_get}
use Rattle.just_text.specs.declared.name.Name.{Name}
use Rattle.tree_items.specs.declared.item.Alias.{Alias}
use Rattle.modules_compilation.specs.declared.compilation.Compilation.{Compilation}
use Rattle.modules_compilation.specs.declared.compilation.Target.TheVariants.{Nothing}
use Rattle.modules_compilation.specs.declared.error.Error.{Error}
use Rattle.modules_compilation.specs.declared.error.Error.TheVariants.{UnknownAliasTarget}
use Rattle.modules_compilation.specs.declared.module_node.ModuleNode.{ModuleNode}
use Rattle.modules_compilation.specs.declared.place.Place.{Place}
use Rattle.resolve_recipes.specs.Aliases.{alias_at}
use Rattle.resolve_recipes.specs.Leading.{target_in}

module _ (compilation : Compilation) where
  module _ (place : ℕ) where
    -- an alias of the module at the place stands for a recipe or for a module
    abbrev pub Leads : Alias (List Name) → Type 0
    Leads alias = target_in compilation place alias.target ≢ Nothing

    -- so does that which may stand at another place
    abbrev pub LeadsAt : Place → Type 0
    LeadsAt at = (alias : Alias (List Name)) → alias_at compilation at ≡ Some alias → Leads alias

    -- an alias stands there that stands for nothing, and is refused
    pub record IsUnknownAt (at : Place) (error : Error) : Type 0 where
      pub alias : Alias (List Name)
      pub there : alias_at compilation at ≡ Some alias
      pub nowhere : target_in compilation place alias.target ≡ Nothing
      pub told : error ≡ UnknownAliasTarget alias.name alias.target

    abbrev pub AllLead : List Place → Type 0
    AllLead items = (i : ℕ) (at : Place) → slice_get items i ≡ Some at → LeadsAt at

    -- the first of these that stands for nothing is refused
    pub record IsUnknownAmong (items : List Place) (error : Error) : Type 0 where
      pub i : ℕ
      pub at : Place
      pub there : slice_get items i ≡ Some at
      pub earlier : (j : ℕ) (other : Place) → j < i → slice_get items j ≡ Some other → LeadsAt other
      pub unknown : IsUnknownAt at error

  -- each alias that a module keeps stands for a recipe or for a module
  abbrev pub AllAliasesLead : Type 0
  AllAliasesLead = (place : ℕ) (node : ModuleNode) → slice_get compilation.modules.items place ≡ Some node → AllLead place node.aliases.items

  -- the first module that keeps one that doesn't is refused
  pub record IsAliasUnknown (error : Error) : Type 0 where
    pub place : ℕ
    pub node : ModuleNode
    pub there : slice_get compilation.modules.items place ≡ Some node
    pub earlier : (k : ℕ) (other : ModuleNode) → k < place → slice_get compilation.modules.items k ≡ Some other → AllLead k other.aliases.items
    pub unknown : IsUnknownAmong place node.aliases.items error
