-- Each byte is read once, up to the first that is no further mark.
use Rattle.std.proofs.Common.{◌≡◌, ◌<◌, ◌≤◌, length, get_or, ◌∙◌, Some, None, arith}
use Rattle.tree_items.specs.Lines.{next_sigils}
use Rattle.tree_items.proofs.Marks.{mark_next, mark_stops, marks_end}
use Rattle.tree_items.proofs.line.read_marks.Goals as goal

pub loop-byte-preserved : goal.loop-byte-preserved
loop-byte-preserved c =
    let text = c.as_bytes-byte-items.result.now in
    let lt : c.loop-byte.byte-index < length c.as_bytes-byte-items.result.now = omega arith in
    let next : next_sigils c.args.guards c.loop-byte.sigils (get_or c.as_bytes-byte-items.result.now c.loop-byte.byte-index 0) ≡ Some c.in-Some.more = cc in
    mark_next c.args.guards c.loop-byte.sigils c.in-Some.more text c.loop-byte.byte-index lt next ∙ c.loop-byte.invariant

pub returns-in-None : goal.returns-in-None
returns-in-None c =
    let text = c.as_bytes-byte-items.result.now in
    let lt : c.loop-byte.byte-index < length c.as_bytes-byte-items.result.now = omega arith in
    let stop : next_sigils c.args.guards c.loop-byte.sigils (get_or c.as_bytes-byte-items.result.now c.loop-byte.byte-index 0) ≡ None = cc in
    cc (mark_stops c.args.guards c.loop-byte.sigils text c.loop-byte.byte-index lt stop, c.loop-byte.invariant)

pub returns : goal.returns
returns c =
    let text = c.as_bytes-byte-items.result.now in
    let le : length c.as_bytes-byte-items.result.now ≤ c.loop-byte.byte-index = omega arith in
    cc (marks_end c.args.guards c.loop-byte.sigils text c.loop-byte.byte-index le, c.loop-byte.invariant)
