-- What was asked so far, and what the arguments that are left give after these values.
use Rattle.std.proofs.Common.{◌≡◌, drop, length, map}
use Rattle.just_host.specs.Kinds.{AsksQuestions}
use Rattle.evaluate_expressions.specs.Situations.{reading_at, stage_at}
use Rattle.meaning_dialogues.specs.Evaluation.{dialogues, row}
use Rattle.meaning_dialogues.specs.Terms.{terms_of}
use Rattle.meaning_dialogues.proofs.Rows.{Leads}
use Rattle.analyze_calls.specs.Blocks.{values_of}
use Rattle.analyze_calls.proofs.block.arguments.Given as goal

abbrev pub invariant-loop-argument : goal.invariant-loop-argument
invariant-loop-argument g l = record {
  asks : AsksQuestions g.H.Host.goes l.initial.host l.host;
  leads : Leads (reading_at l.evaluator) (values_of (stage_at l.evaluator) l.arguments) (row (dialogues (stage_at l.evaluator) (terms_of (drop l.argument-index (map (λ a. a.expression) l.arguments))))) l.initial.host.entries l.host.entries l.values.items;
  each : length l.values.items ≡ l.argument-index;
}
