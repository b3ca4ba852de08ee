-- A comment uses no number.
use Rattle.std.proofs.Common.{refl}
use Rattle.parse_expressions.specs.Reading.{ahead}
use Rattle.parse_recipes.proofs.Frugal.{unused}
use Rattle.justfile_syntax.proofs.item.filled.Goals as goal

pub returns-then-not-is_next-clause-frugal : goal.returns-then-not-is_next-clause-frugal
returns-then-not-is_next-clause-frugal g c = rw c.is_next.ensures.stays at c.attributed_item.ensures.frugal

pub returns-in_err-text-clause-frugal : goal.returns-in_err-text-clause-frugal
returns-in_err-text-clause-frugal g c = unused (ahead c.args.cursor.now) c.args.numerator.now c.args.numerator.now refl

pub returns-clause-frugal : goal.returns-clause-frugal
returns-clause-frugal g c = unused (ahead c.args.cursor.now) c.args.numerator.now c.args.numerator.now refl
