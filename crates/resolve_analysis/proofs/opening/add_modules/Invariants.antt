-- The numbers of the modules before the place are there.
use Rattle.resolve_order.specs.Needs.{rows}
use Rattle.resolve_analysis.specs.Unions.{Has, IsUnion}
use Rattle.resolve_analysis.proofs.Evaluated.{OpenedBelow}
use Rattle.resolve_analysis.proofs.opening.add_modules.Given as goal

abbrev pub invariant-loop-module : goal.invariant-loop-module
invariant-loop-module l = IsUnion (Has l.initial.numbers) (OpenedBelow l.lists l.reads l.settings (rows l.rows) l.module) (Has l.numbers)
