-- The rows were empty.
use Rattle.std.proofs.Common.{ℕ, ◌≡◌, ◌++◌, ◌∙◌, ap, arith, drop, length, subst, sym, take}
use Rattle.std.proofs.Math.Seq.{take-append_seam}
use Rattle.resolve_order.specs.Needs.{rows}
use Rattle.resolve_analysis.specs.Opening as spec
use Rattle.resolve_analysis.specs.Opening.{AreRows}
use Rattle.resolve_analysis.proofs.Rows.{rows_of_empty}
use Rattle.resolve_analysis.proofs.opening.marked_reads.Goals as goal

pub returns : goal.returns
returns c =
    let old = c.in_ok-rows.rows in
    let new = c.add_marked_reads.new.rows in
    let more = λ (home : ℕ). spec.marked_reads home c.args.recipes.now c.args.marks.now in
    let e : length new ≡ old.len = omega (arith, c.add_marked_reads.auto.rows, c.deref_mut.ensures.len) in
    let same : take old.len (new ++ drop (length new) old.items) ≡ new = ap (λ n. take n (new ++ drop (length new) old.items)) (sym e) ∙ take-append_seam new (drop (length new) old.items) in
    subst (λ vs. AreRows c.args.count more (rows vs)) (sym same)
    (rows_of_empty c.args.count more _ (rows new) (ap rows c.deref_mut.ensures.value ∙ c.in_ok-rows.ensures) c.in_ok-add_marked_reads.ensures)
