-- The module at the place gains them, or there is none.
use Rattle.std.proofs.Common.{refl, []}
use Rattle.std.proofs.lemmas.Option.{slice_get_past, slice_get_read}
use Rattle.modules_compilation.specs.declared.module_node.ModuleNode.{ModuleNode}
use Rattle.modules_definitions.specs.Lists.{Gains}
use Rattle.just_modules.proofs.Keeping.{changed_at, not_changed}
use Rattle.just_modules.proofs.Outcomes.{ok_gives}
use Rattle.just_modules.proofs.compiler.fill.Goals as goal

pub returns-in-Some : goal.returns-in-Some
returns-in-Some c =
    let modules = c.args.modules.now.items in
    let node = c.in-Some.node.now in
    let filled = c.put_all.new.node in
    ok_gives c.put_all.result c.put_all.ensures (changed_at (λ (before : ModuleNode) (after : ModuleNode). Gains [] before after c.args.kept.now) modules c.args.place node filled (slice_get_read modules _ c.args.place node refl c.in-Some.ensures.item.3.0 c.in-Some.ensures.value))

pub returns-in-None : goal.returns-in-None
returns-in-None c =
    not_changed (λ (before : ModuleNode) (after : ModuleNode). Gains [] before after c.args.kept.now) c.args.modules.now.items c.args.place (slice_get_past c.args.modules.now.items c.args.place c.in-None.ensures.item.3)
