-- A comparison halves what is left, and the number stands where the two are equal.
use Rattle.std.proofs.Common.{arith, ◌+◌, ◌-◌, ◌/◌, ◌^◌, ◌∙◌, subst, sym, ap}
use Rattle.std.specs.Ordering.{nat_cmp}
use Rattle.std.proofs.lemmas.Cmp.{nat_cmp_total}
use Rattle.just_value.specs.Frames.{ByNumber}
use Rattle.just_value.proofs.Halves.{fewer, lowered, raised}
use Rattle.just_value.proofs.Numbered.{numbers, number_read, place_read}
use Rattle.just_value.proofs.frame.Frame.position.Goals as goal

pub loop-low-preserved-in-Less : goal.loop-low-preserved-in-Less
loop-low-preserved-in-Less c =
    let low = c.loop-low.low in let high = c.loop-low.high in let mid = low + (high - low) / 2 in
    let read = number_read c.self.inside.bindings c.args.self.now c.self.view_is mid c.get.result.now (omega arith) c.get.ensures in (
      fewer c.loop-low.steps.taken c.compare.new.self.taken (mid - low) (high - low) _ (2 ^ 64 - 1) c.compare.ensures.counted (omega arith) (omega arith) c.loop-low.invariant.0,
      lowered nat_cmp_total (numbers c.args.self.now) c.args.number (subst ByNumber c.self.view_is c.self.invariant) low high mid (omega arith) (omega arith) c.loop-low.invariant.1
          (λ d. ap (nat_cmp c.args.number) (sym (read d)) ∙ sym c.in-Less.ensures.order),
    )

pub returns-in-Equal-clause-place : goal.returns-in-Equal-clause-place
returns-in-Equal-clause-place c =
    let mid = c.loop-low.low + (c.loop-low.high - c.loop-low.low) / 2 in
    place_read c.self.inside.bindings c.args.self.now c.self.view_is mid c.get.result.now c.args.number (omega arith) c.get.ensures c.in-Equal.ensures.order

pub loop-low-preserved : goal.loop-low-preserved
loop-low-preserved c =
    let low = c.loop-low.low in let high = c.loop-low.high in let mid = low + (high - low) / 2 in
    let read = number_read c.self.inside.bindings c.args.self.now c.self.view_is mid c.get.result.now (omega arith) c.get.ensures in (
      fewer c.loop-low.steps.taken c.compare.new.self.taken (high - (mid + 1)) (high - low) _ (2 ^ 64 - 1) c.compare.ensures.counted (omega arith) (omega arith) c.loop-low.invariant.0,
      raised nat_cmp_total (numbers c.args.self.now) c.args.number (subst ByNumber c.self.view_is c.self.invariant) low high mid (omega arith) (omega arith) c.loop-low.invariant.1
          (λ d. ap (nat_cmp c.args.number) (sym (read d)) ∙ sym c.in-Greater.ensures.order),
    )
