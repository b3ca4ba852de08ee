-- A recipe more.
use Rattle.std.proofs.Common.{◌<◌, ◌≤◌, ◌+◌, length, get_or, take, sym, ap, subst, ◌∙◌}
use Rattle.modules_compilation.specs.declared.place.Place.{Place}
use Rattle.resolve_recipes.specs.Named.{text_at}
use Rattle.justfile_analyzer.specs.MenuRows.{Gains}
use Rattle.justfile_analyzer.specs.MenusOf.{has_name, recipe_meant}
use Rattle.justfile_analyzer.proofs.MenuRows.{gains_none, kept_all, kept_left, kept_meant, kept_put, never}
use Rattle.justfile_analyzer.proofs.names.put_kept.Goals as goal
use Rattle.justfile_analyzer.proofs.names.put_kept.Goals.{then-contains+in_ok-put_named, else-contains}

pub loop-place-init : goal.loop-place-init
loop-place-init c = λ by_name. gains_none c.args.menu.now (λ name. never (has_name c.args.wanted.now name))

pub loop-place-preserved : goal.loop-place-preserved
loop-place-preserved c = λ by_name.
    let places = c.args.node.now.recipes.items in
    let meant = recipe_meant c.args.compilation.now c.args.table.now c.args.node.now in
    let i = c.loop-place.place-index in
    let none : Place = record { file = 0; item = 0 } in
    let rows = c.as_slice-place-items.ensures.value in
    let lt = subst (λ ps. i < length ps) rows c.loop-place-test.true in
    let reads = c.name_text-name.ensures ∙ ap (λ ps. text_at c.args.compilation.now (get_or ps i none)) rows in
    elim c.if-contains.branch [
      | then-contains+in_ok-put_named w ↦ subst (λ menu. Gains (kept_meant c.args.compilation.now c.args.wanted.now (take (i + 1) places) meant) c.args.menu.now menu) (sym w.menu-is)
          (kept_put c.args.compilation.now c.args.wanted.now places i none c.name_text-name.result.now lt reads meant c.args.menu.now c.loop-place.menu w.put_named.new.menu (sym c.contains.ensures ∙ w.if-contains.true) (c.loop-place.invariant by_name) (w.in_ok-put_named.ensures by_name))
      | else-contains w ↦ subst (λ menu. Gains (kept_meant c.args.compilation.now c.args.wanted.now (take (i + 1) places) meant) c.args.menu.now menu) (sym w.menu-is)
          (kept_left c.args.compilation.now c.args.wanted.now places i none c.name_text-name.result.now lt reads meant c.args.menu.now c.loop-place.menu (sym c.contains.ensures ∙ w.if-contains.false) (c.loop-place.invariant by_name))
    ]

pub returns : goal.returns
returns c = λ by_name. kept_all c.args.compilation.now c.args.table.now c.args.wanted.now c.args.node.now c.loop-place.place-index c.args.menu.now c.loop-place.menu
    (subst (λ ps. length ps ≤ c.loop-place.place-index) c.as_slice-place-items.ensures.value c.loop-place-test.false) (c.loop-place.invariant by_name)
