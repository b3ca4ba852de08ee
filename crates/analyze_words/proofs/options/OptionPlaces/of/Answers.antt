-- The places from the first parameter on are all.
use Rattle.std.proofs.Common.{arith}
use Rattle.std.proofs.lemmas.Grind.{common_steps}
use Rattle.std.proofs.lemmas.Iterator.Adapters.{position_from-zero}
use Rattle.analyze_words.specs.Menus as spec
use Rattle.analyze_words.proofs.options.OptionPlaces.of.Goals as goal

pub returns-clause-long : goal.returns-clause-long
returns-clause-long c = λ name. grind (arith, common_steps, c.loop-place.invariant.0 name, position_from-zero (spec.has_long name.now) c.args.slots.now)

pub returns-clause-short : goal.returns-clause-short
returns-clause-short c = λ name. grind (arith, common_steps, c.loop-place.invariant.1 name, position_from-zero (spec.has_short name) c.args.slots.now)
