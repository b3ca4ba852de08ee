-- Where none has the attribute, the earliest of the module's own file.
use Rattle.std.proofs.Common.{ap, filter, nat_eq, ◌∙◌}
use Rattle.std.specs.Option.{option_or}
use Rattle.resolve_recipes.specs.Defaults.{earliest, has_default}
use Rattle.resolve_recipes.specs.Nodes.{recipe_at}
use Rattle.resolve_recipes.proofs.names.default_place.Goals as goal

pub returns-in-None : goal.returns-in-None
returns-in-None c =
    c.first_of_file.ensures
    ∙ ap (λ items. earliest (filter (λ item. nat_eq item.file c.args.node.now.first_file) items)) c.as_slice-places.ensures.value
    ∙ ap (λ first. option_or first (earliest (filter (λ item. nat_eq item.file c.args.node.now.first_file) c.args.node.now.recipes.items)))
    (c.in-None.ensures ∙ ap (λ items. earliest (filter (λ item. has_default (recipe_at c.args.compilation.now item)) items)) c.as_slice-places.ensures.value)
