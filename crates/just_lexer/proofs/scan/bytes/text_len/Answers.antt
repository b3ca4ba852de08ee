-- The loop stops at the first place where `ends_text` holds, and looks over what stays together.
use Rattle.std.proofs.Common.{◌≡◌, true, false, drop, sym, ap, ◌∙◌}
use Rattle.std.proofs.lemmas.List.{take_rest}
use Rattle.just_lexer.specs.Classes.{ends_text, brace_takes}
use Rattle.just_lexer.proofs.Scans.{over_skip, over_here, over_on, over_end}
use Rattle.just_lexer.proofs.scan.bytes.text_len.Goals as goal

pub returns-then-ends_text : goal.returns-then-ends_text
returns-then-ends_text c =
    let here : ends_text (drop c.loop-i.i c.args.text.now) ≡ true = ap ends_text (sym (take_rest c.args.text.now c.loop-i.i)) ∙ sym c.ends_text.ensures ∙ c.if-ends_text.true in
    over_here ends_text brace_takes c.loop-i.skip c.args.text.now c.loop-i.i _ c.loop-i-test.true c.if-skip-gt0.false here c.loop-i.invariant

pub loop-i-preserved-then-skip-gt0 : goal.loop-i-preserved-then-skip-gt0
loop-i-preserved-then-skip-gt0 c = over_skip ends_text brace_takes c.loop-i.skip c.args.text.now c.loop-i.i _ c.loop-i-test.true c.if-skip-gt0.true c.loop-i.invariant

pub loop-i-preserved : goal.loop-i-preserved
loop-i-preserved c =
    let on : ends_text (drop c.loop-i.i c.args.text.now) ≡ false = ap ends_text (sym (take_rest c.args.text.now c.loop-i.i)) ∙ sym c.ends_text.ensures ∙ c.if-ends_text.false in
    rw (c.brace_takes-skip.ensures, take_rest c.args.text.now c.loop-i.i) (over_on ends_text brace_takes c.loop-i.skip c.args.text.now c.loop-i.i _ c.loop-i-test.true c.if-skip-gt0.false on c.loop-i.invariant)

pub returns : goal.returns
returns c = over_end ends_text brace_takes c.loop-i.skip c.args.text.now c.loop-i.i _ c.loop-i-test.false c.loop-i.auto.i-end c.loop-i.invariant
