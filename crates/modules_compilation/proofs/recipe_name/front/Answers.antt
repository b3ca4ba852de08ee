-- A byte more.
use Rattle.std.proofs.Common.{arith, ap, ◌∙◌, get_or}
use Rattle.modules_compilation.proofs.Fronted.{front_bounded, front_fits, front_grows, front_whole}
use Rattle.modules_compilation.proofs.recipe_name.front.Goals as goal

pub overflow_mul-front : goal.overflow_mul-front
overflow_mul-front c = omega (arith, front_fits c.loop-place.front c.loop-place.place 0 c.loop-place-test.true (omega arith) c.loop-place.invariant.1)

pub overflow_add-front : goal.overflow_add-front
overflow_add-front c = omega (arith, front_fits c.loop-place.front c.loop-place.place c.byte_at.result c.loop-place-test.true c.byte_at.ensures.small c.loop-place.invariant.1)

pub loop-place-preserved : goal.loop-place-preserved
loop-place-preserved c = (
  front_grows c.args.text.now c.loop-place.front c.loop-place.place c.byte_at.result c.loop-place-test.true (c.byte_at.ensures.byte ∙ ap (λ text. get_or text c.loop-place.place 0) c.as_bytes-bytes.ensures.value) c.loop-place.invariant.0,
  front_bounded c.loop-place.front c.loop-place.place c.byte_at.result c.byte_at.ensures.small c.loop-place.invariant.1,
)

pub returns : goal.returns
returns c = front_whole c.args.text.now c.loop-place.front c.loop-place.place (omega (arith, c.loop-place-test.false)) c.loop-place.invariant.0
