-- What was asked so far, and what the rest gives.
use Rattle.std.proofs.Common.{drop, map, []}
use Rattle.std.specs.String.{string_bytes}
use Rattle.just_host.specs.Kinds.{AsksQuestions}
use Rattle.meaning_dialogues.proofs.Rows.{Fills}
use Rattle.meaning_evaluation.specs.Stages.Lines.{line_dialogue, piece_of}
use Rattle.evaluate_expressions.specs.Situations.{stage_at, reading_at}
use Rattle.justfile_evaluator.proofs.line.line_text.Given as goal

abbrev pub invariant-loop-fragment : goal.invariant-loop-fragment
invariant-loop-fragment g l =
    let line = line_dialogue (stage_at l.evaluator) in
    record {
      asks : AsksQuestions g.H.Host.goes l.initial.host l.host;
      fills : Fills (reading_at l.evaluator) (line l.continued [] (map piece_of l.line.fragments.items)) (line l.is_trimmed (string_bytes l.text) (map piece_of (drop l.fragment-index l.line.fragments.items))) l.initial.host.entries l.host.entries;
    }
