-- The options are told where they may stand together.
use Rattle.std.proofs.Common.{◌∙◌, sym, map}
use Rattle.tree_attributes.specs.Attributes.{options_shape}
use Rattle.tree_expressions.specs.Shape.{written}
use Rattle.parse_attributes.specs.Held.{given_shape}
use Rattle.parse_attributes.proofs.Adding.{whole_so, not_whole_so}
use Rattle.parse_attributes.proofs.argument_options.options_of.Goals as goal

pub returns-then-is_whole-clause-shape : goal.returns-then-is_whole-clause-shape
returns-then-is_whole-clause-shape c = λ x all.
    whole_so x.expansion (written c.args.name) (map given_shape c.args.given.items) (options_shape c.in_ok-options.options) (c.in_ok-options.ensures.shape x all) (sym (c.is_whole.ensures x.expansion) ∙ c.if-is_whole.true)

pub returns-else-is_whole-clause-shape : goal.returns-else-is_whole-clause-shape
returns-else-is_whole-clause-shape c = λ x all.
    not_whole_so x.expansion (written c.args.name) (map given_shape c.args.given.items) (options_shape c.in_ok-options.options) (c.in_ok-options.ensures.shape x all) (sym (c.is_whole.ensures x.expansion) ∙ c.if-is_whole.false)
