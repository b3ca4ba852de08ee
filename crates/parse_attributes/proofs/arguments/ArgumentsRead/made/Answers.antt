-- The attribute is what its arguments make, and holds what their strings stand for.
use Rattle.std.proofs.Common.{◌≡◌, Some, refl, ap}
use Rattle.parse_attributes.proofs.Making.{expressions_read, expressions_read_cooked, plain_cooked, strings_cooked, strings_made}
use Rattle.parse_attributes.proofs.arguments.ArgumentsRead.made.Goals as goal

pub returns-in-Strings-clause-shape : goal.returns-in-Strings-clause-shape
returns-in-Strings-clause-shape c = λ origin cooked. let whole = strings_made c.with_strings.result c.in-Strings.first c.in-Strings.others c.with_strings.ensures.held in let told = rw c.with_strings.ensures.kind at whole in rw c.in-Strings.is (ap Some told)

pub returns-in-Expressions-clause-shape : goal.returns-in-Expressions-clause-shape
returns-in-Expressions-clause-shape c = λ origin cooked. rw (c.in-Expressions.is, c.optional.ensures) (expressions_read c.with_expressions.result c.args.kind c.in-Expressions.first c.in-Expressions.others c.with_expressions.ensures.kind c.with_expressions.ensures.held)

pub returns-in-Nothing-clause-cooked : goal.returns-in-Nothing-clause-cooked
returns-in-Nothing-clause-cooked c = λ origin cooked. plain_cooked origin c.without_arguments.result c.args.kind c.without_arguments.ensures

pub returns-in-Strings-clause-cooked : goal.returns-in-Strings-clause-cooked
returns-in-Strings-clause-cooked c = λ origin cooked. let held = rw c.in-Strings.is at cooked in strings_cooked origin c.with_strings.result c.in-Strings.first c.in-Strings.others c.with_strings.ensures.held held.0 held.1

pub returns-in-Expressions-clause-cooked : goal.returns-in-Expressions-clause-cooked
returns-in-Expressions-clause-cooked c = λ origin cooked.
    let held = rw c.in-Expressions.is at cooked in
    rw c.optional.ensures (expressions_read_cooked origin c.with_expressions.result c.in-Expressions.first c.in-Expressions.others c.with_expressions.ensures.held held.0 held.1)
