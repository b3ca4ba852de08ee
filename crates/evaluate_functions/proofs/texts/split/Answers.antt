-- The parts come one by one.
use Rattle.std.proofs.Common.{◌∷◌, [], ◌++◌, cond, sym, ap, ◌∙◌}
use Rattle.std.specs.Str.Iter.{split_has_more, split_text}
use Rattle.evaluate_functions.specs.Functions.{between}
use Rattle.evaluate_functions.proofs.Between.{parts_step}
use Rattle.evaluate_functions.proofs.texts.split.Goals as goal

pub loop-part-preserved : goal.loop-part-preserved
loop-part-preserved c =
    let next = parts_step c.args.separator.now c.loop-part.part-iterator c.next.new.self c.in-Some.part c.loop-part.value (between c.args.separator.now 0 c.args.text.now) (sym c.if-is_empty.ensures) c.loop-part.invariant.mark c.in-Some.ensures.steps c.loop-part.invariant.left in
    record {
      mark = next.0;
      left = ap (λ v. v ++ cond (split_has_more c.next.new.self) (between c.args.separator.now 0 (split_text c.next.new.self)) []) (c.in_ok-push.ensures.grown ∙ ap (λ p. c.loop-part.value ++ p ∷ []) c.in_ok-from_str.ensures.ok) ∙ next.1;
    }
