-- The last item stands after the conjunction.
use Rattle.std.proofs.Common.{arith, rules, length, ◌<◌}
use Rattle.std.proofs.lemmas.Grind.{put_two}
use Rattle.just_value.specs.Lists.{enclosed}
use Rattle.just_value.proofs.Rows.{row_of, some_there}
use Rattle.just_value.proofs.list.RowDisplay.fmt.Goals as goal

pub returns-clause-writes : goal.returns-clause-writes
returns-clause-writes g c = λ plain ok.
    let text = c.loop-item.invariant plain in
    let end = c.write-2.ensures.writes text.plain ok in
    let some : 0 < length c.in-Some.others.now = some_there c.is_empty.result (length c.in-Some.others.now) c.is_empty.ensures c.if-is_empty.false in
    let more : 1 < length c.in-Some.others.now = omega arith in
    put_two _ _ _ _ _ _ _ text end (row_of (λ item. enclosed c.args.self.now.mark.now (g.T.Listed.text item)) c.args.self.now.conjunction.now c.args.self.now.items.now c.in-Some.others.now c.in-Some.last.now c.loop-item.item-index (search rules) (omega arith) more)
