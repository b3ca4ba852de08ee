-- A function that is called is one more.
use Rattle.justfile_analyzer.specs.Calls.{called_at}
use Rattle.justfile_analyzer.proofs.Contained.{given_more, given_none}
use Rattle.std.proofs.Common.{sym}
use Rattle.justfile_analyzer.proofs.calls.all_called.Goals as goal
use Rattle.justfile_analyzer.proofs.calls.all_called.Goals.{in-Some+in_ok-push, in_default}

pub loop-reference-preserved : goal.loop-reference-preserved
loop-reference-preserved c =
    let references = c.args.references.now in
    let i = c.loop-reference.reference-index in
    let called = called_at c.args.functions.now in
    elim c.match-called.branch [
      | in-Some+in_ok-push w ↦ rw (w.places-is, w.in_ok-push.ensures.items)
          (given_more called references i c.reference-item.result w.in-Some.place c.loop-reference.places.items c.loop-reference-test.true c.reference-item.is (sym w.in-Some.ensures) c.loop-reference.invariant)
      | in_default w ↦ rw w.places-is (given_none called references i c.reference-item.result c.loop-reference.places.items c.loop-reference-test.true c.reference-item.is (sym w.in_default.ensures) c.loop-reference.invariant)
    ]
