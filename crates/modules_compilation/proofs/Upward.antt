-- From a module to the one above it.
use Rattle.std.proofs.Common.{◌≡◌, ◌∙◌, ◌++◌, ℕ, suc, List, Some}
use Rattle.std.proofs.lemmas.List.{append_assoc}
use Rattle.std.specs.declared.option.Option.{Option}
use Rattle.modules_compilation.specs.Modulepaths.{own_names, node_at, names_up}
use Rattle.modules_compilation.specs.declared.module_node.ModuleNode.{ModuleNode}

-- with a module's own name after them the names so far lack those above it
pub goes_up : (modules : List ModuleNode) (names more all : List (List ℕ)) (node : ModuleNode) (here : Option ModuleNode) (n m : ℕ) → here ≡ Some node → n ≡ suc m → more ≡ names ++ own_names node → names ++ names_up modules here n ≡ all → more ++ names_up modules (node_at modules node.parent) m ≡ all
goes_up modules names more all node here n m there next grown so =
    rw grown (append_assoc names (own_names node) (names_up modules (node_at modules node.parent) m) ∙ (rw (there, next) at so))
