-- A blank line uses no number.
use Rattle.std.proofs.Common.{◌≡◌, refl, arith}
use Rattle.parse_expressions.specs.Reading.{ahead}
use Rattle.parse_recipes.proofs.Frugal.{unused}
use Rattle.justfile_syntax.proofs.item.entry.Goals as goal

pub returns-then-is_none-clause-frugal : goal.returns-then-is_none-clause-frugal
returns-then-is_none-clause-frugal g c =
    let same : ahead c.accept.new.self ≡ ahead c.args.cursor.now = grind arith in
    rw same at c.filled.ensures.frugal

pub returns-clause-frugal : goal.returns-clause-frugal
returns-clause-frugal g c = unused (ahead c.args.cursor.now) c.args.numerator.now c.args.numerator.now refl
