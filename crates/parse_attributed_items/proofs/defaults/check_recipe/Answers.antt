-- No `arg` makes an option of a parameter.
use Rattle.std.proofs.Common.{◌≡◌, [], refl}
use Rattle.parse_attributes.proofs.Follow.{all_none}
use Rattle.parse_attributes.specs.Cooked.{AreCookedOptions}
use Rattle.parse_attributed_items.proofs.defaults.check_recipe.Goals as goal

pub returns : goal.returns
returns c = λ x.
    let same : c.as_slice.result.now ≡ c.args.recipe.now.parameters.items = c.as_slice.ensures.value in
    rw same at (c.check_late.ensures x (all_none (AreCookedOptions x) [] refl))
