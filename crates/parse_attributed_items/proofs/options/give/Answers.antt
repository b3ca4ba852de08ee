-- Each field of the parameter says what the `arg` means.
use Rattle.std.proofs.Common.{◌∙◌, refl, ap}
use Rattle.std.specs.Option.{option_map}
use Rattle.tree_attributes.specs.Attributes.{options_shape}
use Rattle.tree_expressions.specs.Shape.{shape_of}
use Rattle.parse_attributes.specs.Options.{is_count, is_short}
use Rattle.parse_attributed_items.specs.Options.{meant, number_of}
use Rattle.parse_attributed_items.proofs.Given.{all_given, named, read, whole}
use Rattle.parse_attributed_items.proofs.options.give.Goals as goal

pub returns-clause-given : goal.returns-clause-given
returns-clause-given c = λ x cooked right.
    let o = c.args.options in
    all_given _ (meant x.expansion (options_shape o)) refl
    (c.set.ensures ∙ c.text.ensures ∙ read x.expansion (λ t. t) o.help cooked.help)
    (c.set-2.ensures ∙ c.long_name.ensures ∙ named x.expansion o o.long refl cooked.name cooked.long)
    (c.count-parameter.ensures (whole x.expansion is_count o.max cooked.max right.max) ∙ read x.expansion number_of o.max cooked.max)
    (c.count-parameter-2.ensures (whole x.expansion is_count o.min cooked.min right.min) ∙ read x.expansion number_of o.min cooked.min)
    refl
    (c.short_name-parameter.ensures (whole x.expansion is_short o.short cooked.short right.short) ∙ read x.expansion (λ t. t) o.short cooked.short)
    (ap (option_map shape_of) c.set-3.ensures)
