-- The modules of a compilation by their paths are those of each world that it stands for.
use Rattle.std.specs.Prelude.{◌≡◌, ◌↔◌, ℕ, List, Some, Contains}
use Rattle.modules_compilation.specs.Modulepaths.{path_in}
use Rattle.modules_compilation.specs.declared.compilation.Compilation.{Compilation}
use Rattle.modules_compilation.specs.declared.module_node.ModuleNode.{ModuleNode}
use Rattle.meaning_rules.specs.Worlds.Compiled.{HasPath}
use Rattle.meaning_rules.specs.Worlds.Given.{Text, World}
use Rattle.meaning_rules.specs.Worlds.Modules.{IsModule}
use Rattle.laws_modules.specs.Names.Names.{AreSingle, HasNode, IsOfWorld, nodes, views}
use Rattle.meaning_evaluation.specs.Named.{paths_of}
use Rattle.just_meaning.specs.Defining.{AreSorted}
use Rattle.laws_runs.specs.Resolved.Definitions.{all_modules, place_of}

-- the module at a path is the node at the place that the path's names lead to
pub record IsPlaced (w : World) (compilation : Compilation) (path : List Text) (own : Text) : Type 0 where
  pub k : ℕ
  pub node : ModuleNode
  pub found : place_of compilation path ≡ Some k
  pub here : HasNode w compilation k node
  pub is : node.source.now ≡ own

-- names lead to a place exactly where it has the path
abbrev pub PathsLead : Type 0
PathsLead = (w : World) (compilation : Compilation) → IsOfWorld w compilation → AreSingle w compilation
    → (path : List Text) (k : ℕ) → (place_of compilation path ≡ Some k) ↔ HasPath w (views w compilation) (nodes w compilation) k path

-- and that is the path that its own name and those of the modules above it make
abbrev pub PathsAreOwn : Type 0
PathsAreOwn = (w : World) (compilation : Compilation) → IsOfWorld w compilation → AreSingle w compilation
    → (path : List Text) (k : ℕ) → place_of compilation path ≡ Some k → path_in compilation.modules.items k ≡ path

-- each place has one
abbrev pub PlacesHavePaths : Type 0
PlacesHavePaths = (w : World) (compilation : Compilation) → IsOfWorld w compilation → AreSingle w compilation
    → (k : ℕ) (node : ModuleNode) → HasNode w compilation k node → place_of compilation (path_in compilation.modules.items k) ≡ Some k

-- a module of the world is the node at its path
abbrev pub ModulesStand : Type 0
ModulesStand = (w : World) (compilation : Compilation) → IsOfWorld w compilation → AreSingle w compilation
    → (path : List Text) (own : Text) → IsModule w path own ↔ IsPlaced w compilation path own

-- the tree has just the paths of modules
abbrev pub TreesHaveModules : Type 0
TreesHaveModules = (w : World) (compilation : Compilation) → IsOfWorld w compilation → AreSingle w compilation
    → (path : List Text) → Contains (paths_of (all_modules compilation)) path ↔ ((own : Text) × IsModule w path own)

-- in byte order of their names
abbrev pub TreesAreSorted : Type 0
TreesAreSorted = (w : World) (compilation : Compilation) → IsOfWorld w compilation → AreSingle w compilation → AreSorted (all_modules compilation)
