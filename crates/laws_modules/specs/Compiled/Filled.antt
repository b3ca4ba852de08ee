-- Modules that keep what they define, as a compilation of a world.
use Rattle.std.specs.Prelude.{◌≡◌, ◌<◌, ◌≤◌, ℕ, List, [], Some, length, map, slice_get}
use Rattle.std.specs.List.{flat_map}
use Rattle.std.specs.List.Sorted.{IsStrictlySortedBy}
use Rattle.std.specs.Ordering.{nat_cmp}
use Rattle.just_text.specs.declared.os.Os.{Os}
use Rattle.modules_compilation.specs.declared.module_node.File.{File}
use Rattle.modules_compilation.specs.declared.module_node.ModuleNode.{ModuleNode}
use Rattle.modules_definitions.specs.Lists.{Gains}
use Rattle.modules_definitions.specs.declared.definition.Definition.{Definition}
use Rattle.modules_sources.specs.Loaded.{AreApart}
use Rattle.meaning_rules.specs.Worlds.Given.{World}
use Rattle.meaning_rules.specs.Worlds.Compiled.{IsCompiled}
use Rattle.meaning_rules.specs.Worlds.Views.{file_view, node_view}
use Rattle.laws_modules.specs.Definitions.Laws.{AreChildren, AreSame, AreSettled, IsEmpty}
use Rattle.laws_modules.specs.Modules.Modules.{AreModules}

-- the module at a place kept nothing, and now keeps what it defines
pub record IsFilled (w : World) (os : Os) (files : List File) (modules : List ModuleNode) (k : ℕ) (before after : ModuleNode) : Type 0 where
  pub definitions : List Definition
  pub kept : List Definition
  pub settled : AreSettled w os files modules k before definitions kept
  pub empty : IsEmpty before
  pub gains : Gains [] before after kept

-- a module has the file at a place
pub record IsCovered (modules : List ModuleNode) (n : ℕ) : Type 0 where
  pub k : ℕ
  pub node : ModuleNode
  pub there : slice_get modules k ≡ Some node
  pub from : node.first_file ≤ n
  pub to : n < node.end_file

-- The modules of a world keep what they define; each file is one module's, and numbers rise.
pub record AreFilled (w : World) (os : Os) (files : List File) (before after : List ModuleNode) : Type 0 where
  pub modules : AreModules w files before
  pub children : (k : ℕ) (node : ModuleNode) → slice_get before k ≡ Some node → AreChildren w files before k node
  pub within : (k : ℕ) (node : ModuleNode) → slice_get before k ≡ Some node → node.end_file ≤ length files
  pub apart : AreApart before
  pub covered : (n : ℕ) → n < length files → IsCovered before n
  pub bindings : IsStrictlySortedBy nat_cmp (flat_map (λ f. f.bindings) (map file_view files))
  pub recipes : IsStrictlySortedBy nat_cmp (flat_map (λ f. f.recipes) (map file_view files))
  pub same : AreSame before after
  pub each : (k : ℕ) (node filled : ModuleNode) → slice_get before k ≡ Some node → slice_get after k ≡ Some filled → IsFilled w os files before k node filled

-- such modules are a compilation of the world
abbrev pub FilledAreCompiled : Type 0
FilledAreCompiled = (w : World) (os : Os) (files : List File) (before after : List ModuleNode) → AreFilled w os files before after → IsCompiled w (map file_view files) (map node_view after)
