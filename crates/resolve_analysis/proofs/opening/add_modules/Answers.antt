-- One module more.
use Rattle.std.proofs.Common.{◌≡◌, ◌<◌, ◌≤◌, ◌∙◌, ℕ, ap, arith, length, min, refl, subst}
use Rattle.std.specs.Global.{Vec}
use Rattle.std.specs.Prelude.{Contains, option_map}
use Rattle.std.proofs.lemmas.List.{length-map}
use Rattle.std.proofs.lemmas.Option.{slice_get-map, slice_get_read}
use Rattle.resolve_order.specs.Needs.{rows}
use Rattle.resolve_analysis.specs.Opening.{IsOpenedNumber}
use Rattle.resolve_analysis.specs.Unions.{Has, IsUnion}
use Rattle.resolve_analysis.proofs.Evaluated.{modules_all, modules_more, modules_none}
use Rattle.resolve_analysis.proofs.opening.add_modules.Goals as goal

pub loop-module-init : goal.loop-module-init
loop-module-init c = modules_none c.args.lists.now c.args.reads.now c.args.settings.now (rows c.args.rows.now)

pub loop-module-preserved : goal.loop-module-preserved
loop-module-preserved c =
    let i = c.loop-module.module in
    let few = c.min-count.ensures in
    let end = c.min-module-end.ensures in
    let lists = c.index-lists-module.result in
    let reads = c.index-reads-module.result in
    let row = c.index-rows-module.result in
    let one : i < length c.args.lists.now = omega (arith, few, end, c.loop-module-test.true) in
    let two : i < length c.args.reads.now = omega (arith, few, end, c.loop-module-test.true) in
    let three : i < length c.args.rows.now = omega (arith, few, end, c.loop-module-test.true) in
    modules_more c.args.lists.now c.args.reads.now c.args.settings.now (rows c.args.rows.now) i c.exports_all-exports_all.result lists reads row.items
    (slice_get_read c.args.lists.now (length c.args.lists.now) i lists refl one c.index-lists-module.is)
    (slice_get_read c.args.reads.now (length c.args.reads.now) i reads refl two c.index-reads-module.is)
    (slice_get-map (λ (r : Vec ℕ). r.items) c.args.rows.now i ∙ ap (option_map (λ (r : Vec ℕ). r.items)) (slice_get_read c.args.rows.now (length c.args.rows.now) i row refl three c.index-rows-module.is))
    c.exports_all-exports_all.ensures c.loop-module.invariant
    (subst (λ xs. IsUnion (Has c.loop-module.numbers) (IsOpenedNumber c.exports_all-exports_all.result lists reads (Contains xs)) (Has c.add_module.new.numbers)) c.as_slice-row.ensures.value c.in_ok-add_module.ensures)

pub returns : goal.returns
returns c =
    let few = c.min-count.ensures in
    let end = c.min-module-end.ensures in
    let many : length (rows c.args.rows.now) ≡ length c.args.rows.now = length-map c.args.rows.now (λ (r : Vec ℕ). r.items) in
    let past : min (length (rows c.args.rows.now)) (min (length c.args.lists.now) (length c.args.reads.now)) ≤ c.loop-module.module = omega (arith, few, end, many, c.loop-module-test.false) in
    modules_all c.args.lists.now c.args.reads.now c.args.settings.now (rows c.args.rows.now) c.loop-module.module past c.loop-module.invariant
