-- One more pair is held, and at the end all are.
use Rattle.analyze_calls.proofs.Openings.{holds_more, holds_all}
use Rattle.analyze_calls.proofs.opening.by_name.Goals as goal

pub loop-pair-preserved : goal.loop-pair-preserved
loop-pair-preserved c =
    holds_more c.in-Some.pair _ _ c.loop-pair.values.entries c.insert.new.self.entries _ _ c.args.pairs c.in-Some.ensures.steps.0 c.into_string.ensures c.into_string-in-loop-pair.ensures c.in_ok-insert.ensures.entries
    c.loop-pair.invariant

pub loop-pair-preserved-in_ok-insert : goal.loop-pair-preserved-in_ok-insert
loop-pair-preserved-in_ok-insert c =
    holds_more c.in-Some.pair _ _ c.loop-pair.values.entries c.insert.new.self.entries _ _ c.args.pairs c.in-Some.ensures.steps.0 c.into_string.ensures c.into_string-in-loop-pair.ensures c.in_ok-insert.ensures.entries
    c.loop-pair.invariant

pub returns : goal.returns
returns c =
    holds_all c.loop-pair.values.entries c.loop-pair.pair-iterator.rest.items c.args.pairs c.loop-pair.pair-iterator.rest.len c.loop-pair.pair-iterator.rest.ok.0 c.in-None.ensures.steps.0 c.loop-pair.invariant
