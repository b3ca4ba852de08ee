-- A place more.
use Rattle.std.proofs.Common.{◌∙◌, true, false, Some, arith, below_more, refl, sym}
use Rattle.std.proofs.lemmas.Option.{get_or_from_slice_get, slice_get_within}
use Rattle.justfile_analyzer.proofs.Asking.{is_marked, marked_is, said_is}
use Rattle.justfile_analyzer.proofs.calls.any_reached_asks.Goals as goal
use Rattle.justfile_analyzer.proofs.calls.any_reached_asks.Goals.{else-asks-place-via-then-asks-place+else-is_some, else-asks-place-via-else-asks-place}

pub returns-then-is_some : goal.returns-then-is_some
returns-then-is_some c =
    let lt = c.loop-place-test.true in
    let end = c.min-place-end.ensures in
    let place = c.loop-place.place in
    (λ told. (place, said_is c.args.asks.now place (omega (arith, lt, end)) c.if-asks-place.true, is_marked c.args.marks.now place (omega (arith, lt, end)) (sym c.is_some.ensures ∙ c.if-is_some.true)), λ found. refl)

pub loop-place-preserved : goal.loop-place-preserved
loop-place-preserved c = below_more _ _ c.loop-place.invariant (λ said marked. elim c.else-asks-place.branch [
  | else-asks-place-via-then-asks-place+else-is_some w ↦ absurd (cc (sym (marked_is c.args.marks.now c.loop-place.place marked) ∙ (sym w.is_some.ensures ∙ w.if-is_some.false)))
  | else-asks-place-via-else-asks-place w ↦ absurd (cc (sym (get_or_from_slice_get c.args.asks.now c.loop-place.place true false said) ∙ w.if-asks-place.false))
])

pub returns : goal.returns
returns c =
    let past = c.loop-place-test.false in
    let end = c.min-place-end.ensures in (
      λ told. absurd (cc told),
      λ found.
          let asked = slice_get_within c.args.asks.now found.0 true found.1 in
          let marked = slice_get_within c.args.marks.now found.0 (Some found.2.0) found.2.1 in
          absurd (c.loop-place.invariant found.0 (omega (arith, past, end, asked, marked)) found.1 found.2),
    )
