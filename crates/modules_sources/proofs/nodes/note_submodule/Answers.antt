-- The parent, if there is one, has one submodule more.
use Rattle.std.proofs.Common.{◌<◌, length, set, sym, subst, refl, arith}
use Rattle.modules_sources.specs.Nodes.{IsNoted}
use Rattle.modules_sources.proofs.Noting.{noted_nowhere, noted_there}
use Rattle.modules_sources.proofs.nodes.note_submodule.Goals as goal

pub returns-in_default-clause-noted : goal.returns-in_default-clause-noted
returns-in_default-clause-noted c = subst (λ parent. IsNoted parent c.args.submodule c.args.compilation.now.modules.items c.args.compilation.now.modules.items) (sym c.in_default.is) refl

pub returns-then-parent-len-clause-noted : goal.returns-then-parent-len-clause-noted
returns-then-parent-len-clause-noted c =
    let nodes = c.args.compilation.now.modules in
    subst (λ parent. IsNoted parent c.args.submodule nodes.items nodes.items) (sym c.in-Some.is)
    (noted_nowhere c.in-Some.parent c.args.submodule nodes.items (omega (arith, c.if-parent-len.true, nodes.ok.0)))

pub returns-clause-noted : goal.returns-clause-noted
returns-clause-noted c =
    let nodes = c.args.compilation.now.modules in
    let node = c.index_mut.result.now in
    let lt : c.in-Some.parent < length nodes.items = omega (arith, c.if-parent-len.false, nodes.ok.0) in
    subst (λ parent. IsNoted parent c.args.submodule nodes.items (set nodes.items c.in-Some.parent (record node { submodules = c.push.new.self }))) (sym c.in-Some.is)
    (noted_there c.in-Some.parent c.args.submodule nodes.items node (record node { submodules = c.push.new.self }) lt c.index_mut.ensures.value
    (record { submodules = c.push.new.self; items = c.in_ok-push.ensures.items; others = refl }))
