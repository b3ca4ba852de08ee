-- The names stand for the variables before the place, above those that were there.
use Rattle.std.proofs.Common.{take}
use Rattle.tree_items.specs.Contexts.{number_in}
use Rattle.resolve_analysis.proofs.Named.{StandsOver, numbers_at}
use Rattle.resolve_analysis.proofs.numbers.add_variables.Given as goal

abbrev pub invariant-loop-place : goal.invariant-loop-place
invariant-loop-place l = StandsOver l.compilation l.names (numbers_at l.compilation (take l.place-index l.places)) (number_in l.initial.names)
