-- What is left is the chain that is cut.
use Rattle.std.proofs.Common.{ap, sym, ◌∙◌, arith}
use Rattle.modules_sources.specs.Queue.{cut_to}
use Rattle.modules_sources.proofs.Chains.{none_of_length}
use Rattle.modules_sources.proofs.queue.Queue.cut_behind.Goals as goal

pub returns-clause-chain : goal.returns-clause-chain
returns-clause-chain c =
    let short = c.loop.invariant.shorter in
    let over = c.loop-test.false in
    let none = none_of_length c.loop.self.chain.items (omega arith) in
    none ∙ ap (cut_to c.args.parent) (sym none) ∙ c.loop.invariant.cut
