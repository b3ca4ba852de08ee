-- The priors, and behind them the subsequents.
use Rattle.std.proofs.Common.{ap, sym, ◌∙◌}
use Rattle.resolve_recipes.specs.Resolving.{needs_of, places_before}
use Rattle.resolve_recipes.proofs.Needing.{recipe_resolved}
use Rattle.resolve_recipes.proofs.Resolving.{first_refused}
use Rattle.resolve_recipes.proofs.needs.needs_of.Goals as goal

pub returns-in-Err-clause-err : goal.returns-in-Err-clause-err
returns-in-Err-clause-err c some all =
    first_refused c.args.compilation.now c.args.resolver.now c.args.module c.args.recipe.now.name c.args.recipe.now.priors.items c.args.recipe.now.subsequents.items _
    (ap (needs_of c.args.compilation.now c.args.resolver.now c.args.module c.args.recipe.now.name) (sym c.as_slice-priors.ensures.value) ∙ c.in-Err.ensures.err some all)

pub returns-in-Ok-clause-ok : goal.returns-in-Ok-clause-ok
returns-in-Ok-clause-ok c all =
    recipe_resolved c.args.compilation.now c.args.resolver.now c.args.module c.args.recipe.now.name c.args.recipe.now.priors.items c.args.recipe.now.subsequents.items c.new-needs.result.items c.add_places.new.places.items c.new-needs.ensures.items
    (ap (λ ds. places_before c.new-needs.result.items (needs_of c.args.compilation.now c.args.resolver.now c.args.module c.args.recipe.now.name ds)) (sym c.as_slice-priors.ensures.value) ∙ c.in_default.ensures.ok all)
    ∙ ap (λ ds. places_before c.add_places.new.places.items (needs_of c.args.compilation.now c.args.resolver.now c.args.module c.args.recipe.now.name ds)) (sym c.as_slice-subsequents.ensures.value)
    ∙ c.in-Ok.ensures.ok all

pub returns-clause-err : goal.returns-clause-err
returns-clause-err c some all =
    recipe_resolved c.args.compilation.now c.args.resolver.now c.args.module c.args.recipe.now.name c.args.recipe.now.priors.items c.args.recipe.now.subsequents.items c.new-needs.result.items c.add_places.new.places.items c.new-needs.ensures.items
    (ap (λ ds. places_before c.new-needs.result.items (needs_of c.args.compilation.now c.args.resolver.now c.args.module c.args.recipe.now.name ds)) (sym c.as_slice-priors.ensures.value) ∙ c.in_default.ensures.ok all)
    ∙ ap (places_before c.add_places.new.places.items) (ap (needs_of c.args.compilation.now c.args.resolver.now c.args.module c.args.recipe.now.name) (sym c.as_slice-subsequents.ensures.value) ∙ c.in-Err-add_places.ensures.err some all)
