-- One more place is led to.
use Rattle.std.proofs.Common.{◌≡◌, ◌+◌, ◌++◌, ◌∷◌, [], sym, subst, take, get_or}
use Rattle.std.proofs.lemmas.List.{take_more, take_all}
use Rattle.std.specs.Prelude.{Contains}
use Rattle.resolve_order.specs.Needs.{rows as rows_of}
use Rattle.resolve_order.proofs.Contraction.{AreLed, grows_more, led_more}
use Rattle.resolve_order.proofs.variable_places.add_row.Goals as goal

pub loop-read-preserved : goal.loop-read-preserved
loop-read-preserved c =
    let read = get_or c.args.places.now c.loop-read.read-index 0 in
    let more : take (c.loop-read.read-index + 1) c.args.places.now ≡ take c.loop-read.read-index c.args.places.now ++ read ∷ [] = take_more c.args.places.now c.loop-read.read-index 0 c.loop-read-test.true in
    record {
      grows = grows_more c.loop-read.invariant.grows c.in_ok-add_read.ensures.grows;
      led = subst (AreLed c.args.variables c.args.representatives.now (rows_of c.add_read.new.rows) c.args.own) (sym more)
          (led_more c.args.variables c.args.representatives.now (rows_of c.loop-read.rows) (rows_of c.add_read.new.rows) c.args.own (take c.loop-read.read-index c.args.places.now) c.loop-read.invariant.led c.in_ok-add_read.ensures.grows read c.in_ok-add_read.ensures.led);
    }

pub returns-clause-leads : goal.returns-clause-leads
returns-clause-leads c = λ read found k e. c.loop-read.invariant.led read found (subst (λ xs. Contains xs read) (sym (take_all c.loop-read.read-index c.args.places.now c.loop-read-test.false)) k) e
