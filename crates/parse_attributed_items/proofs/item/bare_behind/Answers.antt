-- Where no item may stand no number is used.
use Rattle.std.proofs.Common.{refl}
use Rattle.parse_expressions.specs.Reading.{ahead}
use Rattle.parse_recipes.proofs.Frugal.{unused}
use Rattle.parse_attributed_items.proofs.item.bare_behind.Goals as goal

pub returns-then-not-may_stand-clause-frugal : goal.returns-then-not-may_stand-clause-frugal
returns-then-not-may_stand-clause-frugal g c = unused (ahead c.args.cursor.now) c.args.numerator.now c.args.numerator.now refl
