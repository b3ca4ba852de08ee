-- What was asked so far, and what the dependencies that are left bring about after these calls.
use Rattle.std.specs.Slice.Iter.{iter_rest}
use Rattle.just_host.specs.Kinds.{AsksQuestions}
use Rattle.evaluate_expressions.specs.Situations.{reading_at, stage_at}
use Rattle.analyze_calls.specs.Calls.{rows}
use Rattle.analyze_calls.proofs.Blocks.{LeadsCalls}
use Rattle.analyze_calls.proofs.block.block.Given as goal

abbrev pub invariant-loop-dependency : goal.invariant-loop-dependency
invariant-loop-dependency g l = record {
  asks : AsksQuestions g.H.Host.goes l.initial.host l.host;
  leads : LeadsCalls (reading_at l.fn.evaluator) l.fn.runner (stage_at l.fn.evaluator) l.fn.dependencies (iter_rest l.dependency-iterator.a) l.fn.places (iter_rest l.dependency-iterator.b) l.fn.host.entries l.host.entries (rows l.calls.items);
}
