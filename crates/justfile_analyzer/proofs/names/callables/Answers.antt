-- A recipe more.
use Rattle.std.proofs.Common.{[], cond, ap, ◌∙◌}
use Rattle.justfile_analyzer.specs.MenusOf.{slots_at}
use Rattle.justfile_analyzer.proofs.MenuRows.{each_all, each_made, each_none}
use Rattle.justfile_analyzer.proofs.names.callables.Goals as goal

pub loop-place-init : goal.loop-place-init
loop-place-init c = each_none c.new-all.result.items c.new-all.ensures.items

pub loop-place-preserved : goal.loop-place-preserved
loop-place-preserved c =
    let compilation = c.args.compilation.now in
    let resolved = c.index-recipes-place.result in
    each_made c.args.recipes.now c.loop-place.all.items c.push.new.self.items c.loop-place.place-counter resolved c.in_ok-callable.field-0 c.in_ok-push.ensures.items c.loop-place-test.true c.index-recipes-place.is c.loop-place.invariant
    (record { name = c.in_ok-callable.ensures.name; slots = c.in_ok-callable.ensures.slots ∙ ap (λ b. cond b (slots_at compilation resolved.place) []) c.contains-is_named.ensures })

pub returns : goal.returns
returns c = each_all c.args.recipes.now c.loop-place.all.items c.loop-place.place-counter c.loop-place-test.false c.loop-place.invariant
