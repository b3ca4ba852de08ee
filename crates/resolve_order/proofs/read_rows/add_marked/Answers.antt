-- The place has a mark, or it has none.
use Rattle.std.proofs.Common.{sym, subst}
use Rattle.resolve_order.specs.Cycles.{added, skipped, IsAdded}
use Rattle.resolve_order.proofs.Reading.{marked_at, unmarked_at}
use Rattle.resolve_order.proofs.read_rows.add_marked.Goals as goal

pub returns-in-None : goal.returns-in-None
returns-in-None c = skipped (unmarked_at c.args.marks.now c.args.place _ c.in-None.is)

pub returns-in_ok-push-in-Some : goal.returns-in_ok-push-in-Some
returns-in_ok-push-in-Some c =
    subst (IsAdded c.args.marks.now c.args.place c.args.row.now.items) (sym c.in_ok-push-in-Some.ensures.items) (added (marked_at c.args.marks.now c.args.place _ c.in-Some.field-0 c.requires c.in-Some.is))
