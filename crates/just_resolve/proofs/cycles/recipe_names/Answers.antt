-- A name more.
use Rattle.std.proofs.Common.{◌+◌, ◌++◌, ◌∙◌, ap, drop, get_or, length, refl}
use Rattle.std.specs.Option.{option_map}
use Rattle.std.proofs.lemmas.Option.{slice_get_past, slice_get_read}
use Rattle.resolve_recipes.specs.declared.recipe_node.RecipeNode.{RecipeNode}
use Rattle.resolve_recipes.proofs.Resolving.{next_at}
use Rattle.just_resolve.specs.Cycles.{recipe_name, recipe_names}
use Rattle.just_resolve.proofs.Gathering.{listed_more, listed_none}
use Rattle.just_resolve.proofs.cycles.recipe_names.Goals as goal
use Rattle.just_resolve.proofs.cycles.recipe_names.Goals.{in-Some+in_ok-push, in_default}

pub loop-place-preserved : goal.loop-place-preserved
loop-place-preserved c =
    let nodes = c.args.nodes.now in
    let places = c.args.places.now in
    let i = c.loop-place.place-index in
    let x = get_or places i 0 in
    let rest = drop (i + 1) places in
    let next = next_at places i 0 c.loop-place-test.true in
    elim c.match-get.branch [
      | in-Some+in_ok-push w ↦
          ap (λ names. names ++ recipe_names nodes rest) (w.names-is ∙ w.in_ok-push.ensures.grown)
          ∙ listed_more (recipe_name nodes) x (drop i places) rest c.loop-place.names next w.in-Some.node.now.recipe.now.name
          (ap (option_map (λ (node : RecipeNode). node.recipe.now.name)) (slice_get_read nodes (length nodes) x w.in-Some.node.now refl w.in-Some.ensures.lookup.3.0 w.in-Some.ensures.lookup.1))
          ∙ c.loop-place.invariant
      | in_default w ↦
          ap (λ names. names ++ recipe_names nodes rest) w.names-is
          ∙ listed_none (recipe_name nodes) x (drop i places) rest c.loop-place.names next (ap (option_map (λ (node : RecipeNode). node.recipe.now.name)) (slice_get_past nodes x w.in_default.ensures.lookup.3))
          ∙ c.loop-place.invariant
    ]
