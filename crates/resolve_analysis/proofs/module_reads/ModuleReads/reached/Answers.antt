-- By the module's graph and its overridden variables.
use Rattle.std.proofs.Common.{subst}
use Rattle.resolve_order.specs.Flooded.{AreReached}
use Rattle.resolve_order.specs.Needs.{rows}
use Rattle.resolve_order.proofs.Contraction.{if_ok}
use Rattle.resolve_analysis.proofs.module_reads.ModuleReads.reached.Goals as goal

pub returns : goal.returns
returns c = if_ok c.reached.result c.reached.ensures (λ marks a.
    subst (λ g. AreReached (rows g) c.args.self.now.overridden.items c.args.places.now marks.items) c.as_slice.ensures.value
    (subst (λ s. AreReached (rows c.as_slice.result.now) s c.args.places.now marks.items) c.as_slice-2.ensures.value a))
