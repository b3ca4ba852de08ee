-- All parts have their numbers.
use Rattle.std.proofs.Common.{[], ap, refl, ◌∙◌}
use Rattle.resolve_references.specs.Numbered.{bare_parameters}
use Rattle.resolve_references.specs.Said.{said_by}
use Rattle.resolve_references.specs.Seen.{seen_in_parameters}
use Rattle.resolve_references.proofs.Saying.{recipe_says}
use Rattle.resolve_references.proofs.Whole.{recipe_numbered}
use Rattle.resolve_references.proofs.numbering.number_recipe.Goals as goal

pub returns-clause-numbers : goal.returns-clause-numbers
returns-clause-numbers c =
    recipe_numbered c.in_ok-parameters.parameters c.args.bindings.now c.number_rest.new.recipe _ c.number_rest.ensures.kept c.in_ok-parameters.ensures.names c.in_ok-parameters.ensures.numbers
    c.number_rest.ensures.front c.number_rest.ensures.priors c.number_rest.ensures.subsequents c.number_rest.ensures.body

pub returns-clause-said : goal.returns-clause-said
returns-clause-said c =
    recipe_says c.args.recipe.now c.number_rest.new.recipe
    (ap (λ parameters. bare_parameters parameters.items) c.number_rest.ensures.kept ∙ c.number_parameters.ensures.bare)
    (ap (λ parameters. said_by (seen_in_parameters [] parameters.items)) c.number_rest.ensures.kept ∙ c.number_parameters.ensures.said)
    c.number_rest.ensures.said_front c.number_rest.ensures.said_priors c.number_rest.ensures.said_subsequents c.number_rest.ensures.said_body

pub returns-in_err-parameters-clause-said : goal.returns-in_err-parameters-clause-said
returns-in_err-parameters-clause-said c = recipe_says c.args.recipe.now (record c.args.recipe.now { parameters = c.number_parameters.new.parameters }) c.number_parameters.ensures.bare c.number_parameters.ensures.said (λ seen. refl) (λ seen. refl) (λ seen. refl) (λ seen. refl)
