-- A recipe more.
use Rattle.std.proofs.Common.{◌≡◌, ◌+◌, ◌∙◌, ap, drop, get_or, map, refl, sym, Ok}
use Rattle.std.specs.List.{cons_option, filter_map}
use Rattle.std.specs.Option.{option_map}
use Rattle.std.proofs.lemmas.List.{map_push}
use Rattle.resolve_order.specs.Needs.{rows}
use Rattle.resolve_recipes.specs.Nodes.{view}
use Rattle.resolve_recipes.proofs.Resolving.{next_at}
use Rattle.just_resolve.specs.Gathered.{all_before, gathered}
use Rattle.just_resolve.specs.Recipes.{resolved_at, seen}
use Rattle.just_resolve.proofs.Gathering.{one_goes}
use Rattle.just_resolve.proofs.recipe_table.recipes_in_order.Goals as goal
use Rattle.just_resolve.proofs.recipe_table.recipes_in_order.Goals.{in-Some+in_ok-push, in_default}

pub loop-place-preserved : goal.loop-place-preserved
loop-place-preserved c =
    let found = resolved_at (map view c.args.nodes.now) c.args.reads.now (rows c.args.needs.now) c.args.ranks.now in
    let order = c.args.order.now in
    let i = c.loop-place.place-index in
    let x = get_or order i 0 in
    let left = filter_map found (drop i order) in
    let rest = filter_map found (drop (i + 1) order) in
    let next : left ≡ cons_option (found x) rest = ap (filter_map found) (next_at order i 0 c.loop-place-test.true) in
    let old = c.loop-place.recipes.items in
    elim c.match-branch-3.branch [
      | in-Some+in_ok-push w ↦
          ap (λ recipes. all_before (map seen recipes.items) (gathered (λ r. r) rest)) w.recipes-is
          ∙ ap (λ recipes. all_before (map seen recipes) (gathered (λ r. r) rest)) w.in_ok-push.ensures.items
          ∙ ap (λ recipes. all_before recipes (gathered (λ r. r) rest)) (map_push seen old w.in-Some.recipe)
          ∙ one_goes (λ r. r) (Ok (seen w.in-Some.recipe)) left rest (next ∙ ap (λ o. cons_option o rest) (c.in_ok-recipe.ensures.ok ∙ ap (option_map (λ recipe. Ok (seen recipe))) w.in-Some.is)) (map seen old) (seen w.in-Some.recipe) refl
          ∙ c.loop-place.invariant
      | in_default w ↦
          ap (λ recipes. all_before (map seen recipes.items) (gathered (λ r. r) rest)) w.recipes-is
          ∙ ap (λ rs. all_before (map seen old) (gathered (λ r. r) rs)) (sym (next ∙ ap (λ o. cons_option o rest) (c.in_ok-recipe.ensures.ok ∙ ap (option_map (λ recipe. Ok (seen recipe))) w.in_default.is)))
          ∙ c.loop-place.invariant
    ]
