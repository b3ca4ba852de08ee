-- The order in which modules open.
use Rattle.std.specs.Prelude.{ℕ, zero, suc, List, [], ◌∷◌, ◌++◌, Option, Some, None, slice_get}
use Rattle.modules_compilation.specs.declared.module_node.ModuleNode.{ModuleNode}

abbrev pub submodules_of : Option ModuleNode → List ℕ
submodules_of None = []
submodules_of (Some node) = node.submodules.items

-- so many modules: the first of those that wait opens, and its submodules wait before the others
abbrev pub opening_from : ℕ → List ModuleNode → List ℕ → List ℕ
opening_from zero modules waiting = []
opening_from (suc more) modules [] = []
opening_from (suc more) modules (place ∷ waiting) = place ∷ opening_from more modules (submodules_of (slice_get modules place) ++ waiting)
