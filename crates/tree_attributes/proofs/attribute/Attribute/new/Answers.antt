-- Why there is no attribute: its arguments are too few or too many, or of another form.
use Rattle.std.proofs.Common.{◌≡◌, ◌∙◌, false, rules}
use Rattle.tree_attributes.specs.Forms.{form_of, takes}
use Rattle.tree_attributes.specs.Given.{count, is_of_form, miscounted, unfit}
use Rattle.tree_attributes.proofs.attribute.Attribute.new.Goals as goal

pub returns-then-not-takes-clause-refused : goal.returns-then-not-takes-clause-refused
returns-then-not-takes-clause-refused c =
    let taken : takes (form_of c.in-Some.kind) (count c.args.arguments) ≡ false = search rules in
    rw c.refuse-then-not-takes.ensures (miscounted c.in-Some.kind (c.in-Some.ensures.named ∙ c.lexeme.ensures) taken (rw c.count-count.ensures at c.miscounted.ensures))

pub returns-in-Some-unfit-clause-refused : goal.returns-in-Some-unfit-clause-refused
returns-in-Some-unfit-clause-refused c =
    let other : is_of_form (form_of c.in-Some.kind) c.args.arguments ≡ false = search rules in
    rw c.refuse-in-Some-unfit.ensures (unfit c.in-Some.kind (c.in-Some.ensures.named ∙ c.lexeme.ensures) other (rw c.unexpected.ensures.token c.in-Some-unfit.ensures.1, rw c.unexpected.ensures.token c.unexpected.ensures.kind))
