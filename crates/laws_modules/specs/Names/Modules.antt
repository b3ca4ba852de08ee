-- Modules of a world, and those of a compilation that stands for it.
use Rattle.std.specs.Prelude.{◌≡◌, ℕ, List}
use Rattle.modules_compilation.specs.declared.compilation.Compilation.{Compilation}
use Rattle.modules_compilation.specs.declared.module_node.ModuleNode.{ModuleNode}
use Rattle.meaning_rules.specs.Worlds.Given.{Text, World}
use Rattle.meaning_rules.specs.Worlds.Sources.{AreSaid}
use Rattle.meaning_rules.specs.Worlds.Modules.{IsModule}
use Rattle.meaning_rules.specs.Worlds.Keeping.{IsTwice, Kind}
use Rattle.meaning_rules.specs.Worlds.Compiled.{HasPath}
use Rattle.meaning_rules.specs.Rules.{IsTwiceOf}
use Rattle.laws_modules.specs.Names.Names.{AreSingle, HasNode, IsOfWorld, nodes, views}

-- a module at a path is the node of the path, and has its file
abbrev pub ModulesAreNodes : Type 0
ModulesAreNodes = (w : World) (compilation : Compilation) → IsOfWorld w compilation → AreSingle w compilation → (path : List Text) (own : Text) → IsModule w path own
    → (k : ℕ) × (node : ModuleNode) × HasNode w compilation k node × HasPath w (views w compilation) (nodes w compilation) k path × (node.source.now ≡ own)

-- where no node has two definitions of a kind and name, no module has
abbrev pub NoneIsTwice : Type 0
NoneIsTwice = (w : World) (compilation : Compilation) → IsOfWorld w compilation → AreSingle w compilation
    → (kind : Kind) (name : Text) → ((k : ℕ) (node : ModuleNode) → HasNode w compilation k node → IsTwice w node.source.now kind name → ⊥) → IsTwiceOf w kind name → ⊥

-- each file that is reached says something
abbrev pub ReachedAreSaid : Type 0
ReachedAreSaid = (w : World) (compilation : Compilation) → IsOfWorld w compilation → AreSingle w compilation → AreSaid w
