-- An option that may be added is added, and another is not.
use Rattle.std.proofs.Common.{◌∙◌, sym}
use Rattle.tree_attributes.specs.Attributes.{options_shape}
use Rattle.parse_attributes.specs.Held.{option_shape}
use Rattle.parse_attributes.proofs.Adding.{may_so, may_not_so}
use Rattle.parse_attributes.proofs.argument_options.with_option.Goals as goal

pub returns-then-may_add-clause-shape : goal.returns-then-may_add-clause-shape
returns-then-may_add-clause-shape c = λ x cooked. rw c.add_to.ensures.shape (sym (may_so x.expansion (options_shape c.args.options) (option_shape c.args.option) (sym (c.may_add.ensures x cooked) ∙ c.if-may_add.true)))

pub returns-else-may_add-clause-shape : goal.returns-else-may_add-clause-shape
returns-else-may_add-clause-shape c = λ x cooked. sym (may_not_so x.expansion (options_shape c.args.options) (option_shape c.args.option) (sym (c.may_add.ensures x cooked) ∙ c.if-may_add.false))
