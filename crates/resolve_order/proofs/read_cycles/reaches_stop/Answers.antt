-- The stop is one of the leads, or it is marked.
use Rattle.std.proofs.Common.{◌<◌, sym, subst, length, arith, rules, Some}
use Rattle.std.proofs.lemmas.List.{length-map}
use Rattle.std.proofs.lemmas.Option.{slice_get_within}
use Rattle.resolve_order.specs.Needs.{rows as rows_of}
use Rattle.resolve_order.specs.Flooded.{AreReached, IsMarked, root}
use Rattle.resolve_order.proofs.read_cycles.reaches_stop.Goals as goal

pub returns-then-leads_to : goal.returns-then-leads_to
returns-then-leads_to c = λ e. record {
  stopped = search rules;
  there = subst (λ n. c.args.stop < n) (sym (length-map c.args.graph.now (λ row. row.items))) (c.leads_to.ensures.there c.if-leads_to.true);
  reached = root (c.leads_to.ensures.listed c.if-leads_to.true);
}

pub returns : goal.returns
returns c = λ e.
    let graph = rows_of c.args.graph.now in
    let marks = c.in_ok-marks.marks.items in
    let marked : IsMarked marks c.args.stop = subst (λ ms. IsMarked ms c.args.stop) c.as_slice.ensures.value (c.is_marked.ensures e) in
    let all : AreReached graph c.args.stops.now _ marks = subst (λ roots. AreReached graph c.args.stops.now roots marks) c.leads.ensures c.in_ok-marks.ensures in
    let within : c.args.stop < length marks = slice_get_within marks c.args.stop (Some marked.0) marked.1 in
    let many = all.many in
    record { stopped = search rules; there = omega arith; reached = all.sound c.args.stop marked }
