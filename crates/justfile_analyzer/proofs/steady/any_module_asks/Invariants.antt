-- None of the modules so far asks.
use Rattle.std.proofs.Common.{ℕ, ◌<◌}
use Rattle.justfile_analyzer.specs.Steady.{ModuleAsks}
use Rattle.justfile_analyzer.proofs.steady.any_module_asks.Given as goal

abbrev pub invariant-loop-module : goal.invariant-loop-module
invariant-loop-module l = (home : ℕ) → home < l.module → ModuleAsks l.compilation l.lists l.settings home → ⊥
