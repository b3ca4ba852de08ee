-- A parameter has a value, or a module asks, or neither.
use Rattle.std.proofs.Common.{◌∙◌, sym}
use Rattle.justfile_analyzer.proofs.Steadiness.{steady_unless, unvalued, valued}
use Rattle.justfile_analyzer.proofs.steady.is_steady.Goals as goal

pub returns-then-any_recipe_value : goal.returns-then-any_recipe_value
returns-then-any_recipe_value c =
    (λ told. absurd (cc told), λ steady. absurd (steady.unvalued (valued c.args.compilation.now c.args.recipes.now (sym c.any_recipe_value.ensures ∙ c.if-any_recipe_value.true))))

pub returns : goal.returns
returns c =
    steady_unless c.args.compilation.now c.args.recipes.now c.args.lists.now c.args.settings.now c.in_ok-any_module_asks.field-0 c.in_ok-any_module_asks.ensures
    (unvalued c.args.compilation.now c.args.recipes.now (sym c.any_recipe_value.ensures ∙ c.if-any_recipe_value.false))
