-- A name is new where the set has it not yet.
use Rattle.std.proofs.Common.{◌∙◌, ap}
use Rattle.std.specs.Prelude.{not}
use Rattle.parse_recipes.proofs.NameSets.{name_added}
use Rattle.parse_attributed_items.proofs.names.add.Goals as goal

pub returns-in_ok-insert-in-Some-clause-new : goal.returns-in_ok-insert-in-Some-clause-new
returns-in_ok-insert-in-Some-clause-new c = λ before has. rw c.in-Some.is (c.in_ok-insert-in-Some.ensures.added ∙ ap not (has c.in-Some.name.now))

pub returns-in_ok-insert-in-Some-clause-names : goal.returns-in_ok-insert-in-Some-clause-names
returns-in_ok-insert-in-Some-clause-names c = λ before has. rw c.in-Some.is (name_added c.args.names.now c.insert.new.self c.in-Some.name before c.in_ok-insert-in-Some.ensures.keys has)
