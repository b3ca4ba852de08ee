-- A flood of places without marks marks what is reached.
use Rattle.std.proofs.Common.{◌≡◌, ◌++◌, [], sym, ◌∙◌, ap, subst, length, take, drop, arith}
use Rattle.std.proofs.Math.Seq.{take-append_seam}
use Rattle.std.proofs.lemmas.List.{length-map}
use Rattle.resolve_order.specs.Needs.{rows}
use Rattle.resolve_order.specs.Flooded.{AreReached, AreUnmarked, IsFlooded}
use Rattle.resolve_order.proofs.Flooding.{all_reached}
use Rattle.resolve_order.proofs.flood.flooded.Goals as goal

pub returns : goal.returns
returns c =
    let graph = rows c.args.graph.now in
    let marks = c.flood.new.marks in
    let e : length marks ≡ c.args.marks.len = omega (arith, c.flood.auto.marks, c.deref_mut.ensures.len) in
    let same : take c.args.marks.len (marks ++ drop (length marks) c.args.marks.items) ≡ marks = ap (λ n. take n (marks ++ drop (length marks) c.args.marks.items)) (sym e) ∙ take-append_seam marks (drop (length marks) c.args.marks.items) in
    let none_is : AreUnmarked (length graph) c.args.marks.items = subst (λ n. AreUnmarked n c.args.marks.items) (sym (length-map c.args.graph.now (λ row. row.items))) c.requires in
    let flooded : IsFlooded graph c.args.stops.now c.args.stack.items c.args.marks.items marks [] = subst (λ old. IsFlooded graph c.args.stops.now c.args.stack.items old marks []) c.deref_mut.ensures.value c.in_ok-flood.ensures in
    subst (AreReached graph c.args.stops.now c.args.stack.items) (sym same) (all_reached graph c.args.stops.now c.args.stack.items c.args.marks.items marks none_is flooded)
