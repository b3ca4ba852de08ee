-- The loop stops at the first place where `at_line_end` holds.
use Rattle.std.proofs.Common.{◌≡◌, true, false, drop, sym, ap, ◌∙◌}
use Rattle.std.proofs.lemmas.List.{take_rest}
use Rattle.just_lexer.specs.Classes.{at_line_end}
use Rattle.just_lexer.proofs.Scans.{until_here, until_on, until_end}
use Rattle.just_lexer.proofs.scan.bytes.line_len.Goals as goal

pub returns-then-at_line_end : goal.returns-then-at_line_end
returns-then-at_line_end c =
    let here : at_line_end (drop c.loop-i.i c.args.text.now) ≡ true = ap at_line_end (sym (take_rest c.args.text.now c.loop-i.i)) ∙ sym c.at_line_end.ensures ∙ c.if-at_line_end.true in
    until_here at_line_end c.args.text.now c.loop-i.i _ c.loop-i-test.true here c.loop-i.invariant

pub loop-i-preserved : goal.loop-i-preserved
loop-i-preserved c =
    let on : at_line_end (drop c.loop-i.i c.args.text.now) ≡ false = ap at_line_end (sym (take_rest c.args.text.now c.loop-i.i)) ∙ sym c.at_line_end.ensures ∙ c.if-at_line_end.false in
    until_on at_line_end c.args.text.now c.loop-i.i _ c.loop-i-test.true on c.loop-i.invariant

pub returns : goal.returns
returns c = until_end at_line_end c.args.text.now c.loop-i.i _ c.loop-i-test.false c.loop-i.auto.i-end c.loop-i.invariant
