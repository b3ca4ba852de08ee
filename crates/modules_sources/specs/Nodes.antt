-- Modules as they are loaded.
use Rattle.std.specs.Prelude.{◌≡◌, ◌≢◌, ℕ, List, [], ◌∷◌, ◌++◌, length, Option, Some, None, slice_get}
use Rattle.std.specs.Global.{Vec}
use Rattle.modules_compilation.specs.declared.module_node.ModuleNode.{ModuleNode}
use Rattle.modules_sources.specs.declared.queue.Pending.{Pending}

-- a module keeps nothing yet
pub record KeepsNothing (node : ModuleNode) : Type 0 where
  pub aliases : node.aliases.items ≡ []
  pub assignments : node.assignments.items ≡ []
  pub disabled : node.disabled.items ≡ []
  pub functions : node.functions.items ≡ []
  pub recipes : node.recipes.items ≡ []
  pub recipe_names : node.recipe_names.items ≡ []
  pub sets : node.sets.items ≡ []
  pub unexports : node.unexports.items ≡ []

-- the node of a module that was to be loaded, whose files stand from a place to before another
pub record IsNodeOf (pending : Pending) (first end : ℕ) (node : ModuleNode) : Type 0 where
  pub parent : node.parent ≡ pending.parent
  pub name : node.name ≡ pending.name
  pub item : node.item ≡ pending.item
  pub source : node.source ≡ pending.source.key
  pub first_file : node.first_file ≡ first
  pub end_file : node.end_file ≡ end
  pub empty : KeepsNothing node
  pub submodules : node.submodules.items ≡ []

-- the module has one submodule more, and is else as it was
pub record HasOneMore (submodule : ℕ) (old new : ModuleNode) : Type 0 where
  pub submodules : Vec ℕ
  pub items : submodules.items ≡ old.submodules.items ++ submodule ∷ []
  pub others : new ≡ record old { submodules = submodules }

-- the module at a place has one submodule more, and all else is as it was
pub record IsNotedAt (parent submodule : ℕ) (old new : List ModuleNode) : Type 0 where
  pub many : length new ≡ length old
  pub others : (place : ℕ) → place ≢ parent → slice_get new place ≡ slice_get old place
  pub noted : (node : ModuleNode) → slice_get old parent ≡ Some node → (after : ModuleNode) × (slice_get new parent ≡ Some after) × HasOneMore submodule node after

-- a submodule is noted at its parent, if it has one
abbrev pub IsNoted : Option ℕ → ℕ → List ModuleNode → List ModuleNode → Type 0
IsNoted None submodule old new = new ≡ old
IsNoted (Some parent) submodule old new = IsNotedAt parent submodule old new
