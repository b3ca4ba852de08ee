-- By the last name, in the module to which those before it lead.
use Rattle.std.proofs.Common.{ap, sym, Some, ◌∙◌}
use Rattle.just_text.specs.Tokens.{lexeme}
use Rattle.resolve_recipes.specs.Disabled.{disabled_from, disabled_in}
use Rattle.resolve_recipes.proofs.Disabled.{from_last}
use Rattle.resolve_recipes.proofs.recipe_resolver.disabled_at.Goals as goal

pub returns-in_err-module : goal.returns-in_err-module
returns-in_err-module c all =
    c.from_residual-in_err-module.ensures
    ∙ ap (λ place. disabled_in c.args.compilation.now place (lexeme c.in_ok-last.last.now.token)) (c.in_err-module.ensures all)
    ∙ sym (ap (disabled_from c.args.compilation.now (Some c.args.module)) c.in_ok-last.ensures.cases.0 ∙ from_last c.args.compilation.now (Some c.args.module) c.in_ok-last.modules.now c.in_ok-last.last.now)

pub returns : goal.returns
returns c all =
    c.disabled_place.ensures all
    ∙ ap (disabled_in c.args.compilation.now (Some c.in_ok-module.module)) c.lexeme.ensures
    ∙ ap (λ place. disabled_in c.args.compilation.now place (lexeme c.in_ok-last.last.now.token)) (c.in_ok-module.ensures all)
    ∙ sym (ap (disabled_from c.args.compilation.now (Some c.args.module)) c.in_ok-last.ensures.cases.0 ∙ from_last c.args.compilation.now (Some c.args.module) c.in_ok-last.modules.now c.in_ok-last.last.now)
