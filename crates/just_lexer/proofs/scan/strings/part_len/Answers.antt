-- The loop stops at the first place where the part ends, and looks over what is taken along.
use Rattle.std.proofs.Common.{◌≡◌, ℕ, Bool, true, false, List, drop, sym, ap, ◌∙◌}
use Rattle.std.proofs.lemmas.List.{take_rest}
use Rattle.just_lexer.specs.Strings.{ends_part, part_takes}
use Rattle.just_lexer.proofs.Scans.{over_skip, over_here, over_on, over_end}
use Rattle.just_lexer.proofs.scan.strings.part_len.Goals as goal

pub returns-then-ends_part : goal.returns-then-ends_part
returns-then-ends_part c =
    let stops : List ℕ → Bool = ends_part c.args.is_format c.args.quotes in
    let here : stops (drop c.loop-i.i c.args.text.now) ≡ true = ap stops (sym (take_rest c.args.text.now c.loop-i.i)) ∙ sym c.ends_part.ensures ∙ c.if-ends_part.true in
    over_here stops (part_takes c.args.is_format c.args.quotes) c.loop-i.skip c.args.text.now c.loop-i.i _ c.loop-i-test.true c.if-skip-gt0.false here c.loop-i.invariant

pub loop-i-preserved-then-skip-gt0 : goal.loop-i-preserved-then-skip-gt0
loop-i-preserved-then-skip-gt0 c = over_skip (ends_part c.args.is_format c.args.quotes) (part_takes c.args.is_format c.args.quotes) c.loop-i.skip c.args.text.now c.loop-i.i _ c.loop-i-test.true c.if-skip-gt0.true c.loop-i.invariant

pub loop-i-preserved : goal.loop-i-preserved
loop-i-preserved c =
    let stops : List ℕ → Bool = ends_part c.args.is_format c.args.quotes in
    let on : stops (drop c.loop-i.i c.args.text.now) ≡ false = ap stops (sym (take_rest c.args.text.now c.loop-i.i)) ∙ sym c.ends_part.ensures ∙ c.if-ends_part.false in
    rw (c.part_takes-skip.ensures, take_rest c.args.text.now c.loop-i.i) (over_on stops (part_takes c.args.is_format c.args.quotes) c.loop-i.skip c.args.text.now c.loop-i.i _ c.loop-i-test.true c.if-skip-gt0.false on c.loop-i.invariant)

pub returns : goal.returns
returns c = over_end (ends_part c.args.is_format c.args.quotes) (part_takes c.args.is_format c.args.quotes) c.loop-i.skip c.args.text.now c.loop-i.i _ c.loop-i-test.false c.loop-i.auto.i-end c.loop-i.invariant
