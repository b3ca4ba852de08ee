-- An alias more.
use Rattle.std.proofs.Common.{ap, arith, drop, length, sym, ◌+◌, ◌∙◌, ◌∷◌, []}
use Rattle.resolve_recipes.specs.Aliases.{alias_before, alias_of, resolved_at}
use Rattle.resolve_recipes.specs.Resolving.{places_before}
use Rattle.resolve_recipes.proofs.Resolving.{alias_there, all_before}
use Rattle.resolve_recipes.proofs.aliases.resolved_aliases.Goals as goal

pub loop-place-preserved : goal.loop-place-preserved
loop-place-preserved c all =
    let rest = resolved_at c.args.compilation.now c.args.resolver.now.places.now c.args.ranks.now c.args.module (drop (c.loop-place.place-index + 1) c.args.node.now.aliases.items) in
    ap (λ aliases. places_before aliases rest) c.in_ok-push-in-Ok.ensures.items
    ∙ all_before c.loop-place.aliases.items (record { name = c.in-Some.alias.now.name; recipe = c.in-Ok.recipe } ∷ []) rest
    ∙ ap (λ rank. places_before c.loop-place.aliases.items (alias_before rank c.in-Some.alias.now.name rest)) (sym (c.in-Ok.ensures.ok all))
    ∙ ap (places_before c.loop-place.aliases.items) (sym (alias_there c.args.compilation.now c.args.resolver.now.places.now c.args.ranks.now c.args.module c.args.node.now.aliases.items c.deref-place-items.result.now c.loop-place.place-index _ c.in-Some.alias.now
    (omega (arith, c.loop-place-test.true, ap length c.deref-place-items.ensures.value)) c.deref-place-items.ensures.value (ap alias_of c.in-Some.ensures.found)))
    ∙ c.loop-place.invariant all
