-- A module more.
use Rattle.std.proofs.Common.{◌≡◌, ◌<◌, ◌≤◌, get_or, length, refl, ap, subst, ◌∙◌}
use Rattle.std.proofs.lemmas.Option.{slice_get_read}
use Rattle.justfile_analyzer.proofs.MenuRows.{each_all, each_made, each_none}
use Rattle.justfile_analyzer.proofs.names.all_menus.Goals as goal

pub loop-module-init : goal.loop-module-init
loop-module-init c = λ all. each_none c.new-all.result.items c.new-all.ensures.items

pub loop-module-preserved : goal.loop-module-preserved
loop-module-preserved c = λ all.
    let modules = c.args.compilation.now.modules.items in
    let place = c.loop-module.module in
    let node = c.index-modules-module.result in
    let rows = c.as_slice-modules.ensures.value in
    let lt = subst (λ ms. place < length ms) rows c.loop-module-test.true in
    let is : node ≡ get_or modules place node = c.index-modules-module.is ∙ ap (λ ms. get_or ms place node) rows in
    each_made modules c.loop-module.all.items c.push.new.self.items place node c.in_ok-menu_of.field-0 c.in_ok-push.ensures.items lt is (c.loop-module.invariant all)
    (c.in_ok-menu_of.ensures (all place node (slice_get_read modules _ place node refl lt is)))

pub returns : goal.returns
returns c = λ all. each_all c.args.compilation.now.modules.items c.loop-module.all.items c.loop-module.module (subst (λ ms. length ms ≤ c.loop-module.module) c.as_slice-modules.ensures.value c.loop-module-test.false) (c.loop-module.invariant all)
