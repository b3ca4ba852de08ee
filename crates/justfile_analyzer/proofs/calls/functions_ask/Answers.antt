-- The functions that are marked are those that are reached.
use Rattle.std.proofs.Common.{◌≡◌, ◌++◌, ◌∙◌, [], ap, map, subst, sym}
use Rattle.resolve_order.specs.Flooded.{AreReached}
use Rattle.resolve_order.specs.Needs.{rows}
use Rattle.justfile_analyzer.specs.Calls.{asks_in, called_by}
use Rattle.justfile_analyzer.proofs.Asking.{asks_by_marks}
use Rattle.justfile_analyzer.proofs.calls.functions_ask.Goals as goal

pub returns : goal.returns
returns c =
    let functions = c.args.functions.now in
    let graph = c.as_slice.result.now in
    let asks = c.as_slice-2.result.now in
    let marks = c.as_slice-3.result.now in
    let calls : rows graph ≡ map (called_by functions) functions =
    ap rows c.as_slice.ensures.value ∙ c.in_ok-add_functions.ensures.calls ∙ ap (λ items. rows items ++ map (called_by functions) functions) c.new-graph.ensures.items in
    let asking : asks ≡ map (asks_in functions) functions =
    c.as_slice-2.ensures.value ∙ c.in_ok-add_functions.ensures.asking ∙ ap (λ items. items ++ map (asks_in functions) functions) c.new-asks.ensures.items in
    let reached : AreReached (rows graph) [] c.args.roots.now marks = subst (AreReached (rows graph) [] c.args.roots.now) (sym c.as_slice-3.ensures.value) c.in_ok-marks.ensures in
    let so = asks_by_marks functions (rows graph) asks c.args.roots.now marks calls asking reached in
    (λ told. so.0 (c.any_reached_asks.ensures.0 told), λ one. c.any_reached_asks.ensures.1 (so.1 one))
