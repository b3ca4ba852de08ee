-- The place is passed, or marked and left.
use Rattle.std.proofs.Common.{◌≡◌, ◌++◌, ◌∙◌, ap, true, false, rules}
use Rattle.resolve_order.specs.Needs.{rows}
use Rattle.resolve_order.proofs.Flooding.{turn_passed, turn_taken, on_ok_from}
use Rattle.resolve_order.proofs.flood.visit.Goals as goal

pub returns-then-not-takes : goal.returns-then-not-takes
returns-then-not-takes c =
    let f : c.takes.result ≡ false = search rules in
    turn_passed (rows c.args.graph.now) c.args.stops.now c.args.mark c.args.place c.args.marks.now c.takes.new.marks c.args.stack.now.items c.takes.result f c.takes.ensures

pub returns : goal.returns
returns c =
    let t : c.takes.result ≡ true = search rules in
    on_ok_from c.push_all.result c.push_all.ensures (λ e. turn_taken (rows c.args.graph.now) c.args.stops.now c.args.mark c.args.place c.args.marks.now c.takes.new.marks c.args.stack.now.items c.push_all.new.stack.items c.takes.result t c.takes.ensures
    (e ∙ ap (λ more. c.args.stack.now.items ++ more) c.followed.ensures))
