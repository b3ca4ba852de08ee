-- A name that is added is among those that the set has.
use Rattle.std.proofs.Common.{sym}
use Rattle.parse_recipes.proofs.NameSets.{name_added}
use Rattle.parse_items.proofs.item.remember.Goals as goal

pub returns-clause-remembered : goal.returns-clause-remembered
returns-clause-remembered c = λ before has. rw (sym c.lexeme-2.ensures) (name_added c.args.names.now c.insert.new.self c.lexeme-2.result before c.in_ok-insert.ensures.keys has)
