-- The node stands after the others, and is noted.
use Rattle.std.proofs.Common.{◌≡◌, ◌++◌, ◌∷◌, [], length, subst, rules}
use Rattle.modules_sources.specs.Nodes.{IsNodeOf, IsNoted}
use Rattle.modules_sources.proofs.Outcomes.{on_ok}
use Rattle.modules_sources.proofs.nodes.add_node.Goals as goal

pub returns-clause-node : goal.returns-clause-node
returns-clause-node c =
    let old = c.args.compilation.now in
    let node = c.new_node-node.result in
    let place : c.len-place.result ≡ length old.modules.items = search rules in
    let end : c.len.result ≡ length old.files.items = search rules in
    on_ok c.note_submodule.result c.note_submodule.ensures.noted (λ noted. (
      node,
      subst (λ n. IsNodeOf c.args.pending.now c.args.first_file n node) end c.new_node-node.ensures,
      subst (λ n. IsNoted c.args.pending.now.parent n (old.modules.items ++ node ∷ []) c.note_submodule.new.compilation.modules.items) place
          (subst (λ nodes. IsNoted c.args.pending.now.parent c.len-place.result nodes c.note_submodule.new.compilation.modules.items) c.in_ok-add_module.ensures.modules noted),
    ))
