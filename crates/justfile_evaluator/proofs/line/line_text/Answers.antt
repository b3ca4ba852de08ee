use Rattle.std.proofs.Common.{rules, ◌≡◌, ◌<◌, [], get_or, length, map, arith}
use Rattle.std.proofs.lemmas.Result.{err_from_is_err_and}
use Rattle.std.specs.String.{string_bytes}
use Rattle.meaning_evaluation.specs.Stages.Lines.{line_dialogue, piece_of}
use Rattle.evaluate_expressions.specs.Situations.{stage_at, reading_at}
use Rattle.justfile_evaluator.proofs.LineParts.{parts_more, parts_stop, parts_memory, parts_end}
use Rattle.justfile_evaluator.proofs.line.line_text.Goals as goal

pub loop-fragment-preserved : goal.loop-fragment-preserved
loop-fragment-preserved g c =
    let evaluator = c.args.evaluator.now in
    let es = c.args.line.now.fragments.items in
    let lt : c.loop-fragment.fragment-index < length es = omega arith in
    let is : c.fragment-item.result ≡ get_or es c.loop-fragment.fragment-index c.fragment-item.result = search rules in
    let more = parts_more (reading_at evaluator) (line_dialogue (stage_at evaluator) c.args.continued [] (map piece_of es)) (stage_at evaluator) es c.args.host.now.entries c.loop-fragment.host.entries _ c.loop-fragment.is_trimmed (string_bytes c.loop-fragment.text) (string_bytes c.in_ok-piece.piece) c.loop-fragment.fragment-index c.fragment-item.result c.loop-fragment.invariant.fills lt is c.in_ok-piece.ensures.evaluates in
    record { asks = λ kinds has start asked. c.in_ok-piece.ensures.asks kinds has start (c.loop-fragment.invariant.asks kinds has start asked); fills = search (rules, more) }

pub returns-in_err-piece-clause-evaluates : goal.returns-in_err-piece-clause-evaluates
returns-in_err-piece-clause-evaluates g c =
    let evaluator = c.args.evaluator.now in
    let es = c.args.line.now.fragments.items in
    let lt : c.loop-fragment.fragment-index < length es = omega arith in
    let is : c.fragment-item.result ≡ get_or es c.loop-fragment.fragment-index c.fragment-item.result = search rules in
    let p = err_from_is_err_and c.from_residual.result c.from_residual.ensures.1 in
    rw (p.1, p.2) (parts_stop (reading_at evaluator) (line_dialogue (stage_at evaluator) c.args.continued [] (map piece_of es)) (stage_at evaluator) es c.args.host.now.entries c.loop-fragment.host.entries _ c.loop-fragment.is_trimmed (string_bytes c.loop-fragment.text) c.loop-fragment.fragment-index c.fragment-item.result _ c.loop-fragment.invariant.fills lt is c.in_err-piece.ensures.evaluates)

pub returns-in_err-put-clause-evaluates : goal.returns-in_err-put-clause-evaluates
returns-in_err-put-clause-evaluates g c =
    let evaluator = c.args.evaluator.now in
    let es = c.args.line.now.fragments.items in
    let lt : c.loop-fragment.fragment-index < length es = omega arith in
    let is : c.fragment-item.result ≡ get_or es c.loop-fragment.fragment-index c.fragment-item.result = search rules in
    let p = err_from_is_err_and c.from_residual-in_err-put.result c.from_residual-in_err-put.ensures.1 in
    rw (p.1, p.2) (parts_memory (reading_at evaluator) (line_dialogue (stage_at evaluator) c.args.continued [] (map piece_of es)) (stage_at evaluator) es c.args.host.now.entries c.loop-fragment.host.entries _ c.loop-fragment.is_trimmed (string_bytes c.loop-fragment.text) (string_bytes c.in_ok-piece.piece) c.loop-fragment.fragment-index c.fragment-item.result c.loop-fragment.invariant.fills lt is c.in_ok-piece.ensures.evaluates)

pub returns-clause-evaluates : goal.returns-clause-evaluates
returns-clause-evaluates g c =
    let evaluator = c.args.evaluator.now in
    let es = c.args.line.now.fragments.items in
    parts_end (reading_at evaluator) (line_dialogue (stage_at evaluator) c.args.continued [] (map piece_of es)) (stage_at evaluator) es c.args.host.now.entries c.loop-fragment.host.entries c.loop-fragment.is_trimmed (string_bytes c.loop-fragment.text) c.loop-fragment.fragment-index c.loop-fragment.invariant.fills (omega arith)

pub returns-in_err-piece-clause-asks : goal.returns-in_err-piece-clause-asks
returns-in_err-piece-clause-asks g c = λ kinds has start asked. c.in_err-piece.ensures.asks kinds has start (c.loop-fragment.invariant.asks kinds has start asked)

pub returns-in_err-put-clause-asks : goal.returns-in_err-put-clause-asks
returns-in_err-put-clause-asks g c = λ kinds has start asked. c.in_ok-piece.ensures.asks kinds has start (c.loop-fragment.invariant.asks kinds has start asked)
