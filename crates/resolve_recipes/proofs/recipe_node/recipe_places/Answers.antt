-- One place more.
use Rattle.std.proofs.Common.{ap, cond, drop, map, sym, ◌+◌, ◌∙◌, Some}
use Rattle.std.specs.Option.{option_or}
use Rattle.resolve_recipes.specs.declared.recipe_node.RecipeNode.{RecipeNode}
use Rattle.resolve_recipes.specs.Standing.{is_place, last_place, place_in}
use Rattle.resolve_recipes.proofs.Resolving.{next_of}
use Rattle.resolve_recipes.proofs.Standing.{one_placed}
use Rattle.resolve_recipes.proofs.recipe_node.recipe_places.Goals as goal

pub loop-place-preserved : goal.loop-place-preserved
loop-place-preserved c item =
    let place = c.loop-place.place in
    let rest = last_place (place + 1) (map (λ node. node.place) (drop (place + 1) c.args.nodes.now)) item in
    ap (option_or rest) (c.in_ok-insert.ensures item ∙ ap (λ (node : RecipeNode). cond (is_place node.place item) (Some place) (place_in c.loop-place.places item)) (sym c.index-nodes-place.is))
    ∙ one_placed rest (is_place c.index-nodes-place.result.place item) place (place_in c.loop-place.places item)
    ∙ ap (λ nodes. option_or (last_place place (map (λ node. node.place) nodes) item) (place_in c.loop-place.places item)) (sym (next_of c.args.nodes.now place c.index-nodes-place.result c.loop-place-test.true c.index-nodes-place.is))
    ∙ c.loop-place.invariant item
