use Rattle.modules_definitions.specs.Gathering.{Gathers, HaveOwnItems, IsItemAmong, StaysApart}
use Rattle.modules_definitions.proofs.Finding.{InFirstOf}
use Rattle.modules_definitions.proofs.found.add_submodules.Given as goal

-- what the first submodules are, at places of their own
abbrev pub invariant-loop-module : goal.invariant-loop-module
invariant-loop-module l = record {
  each : Gathers (InFirstOf l.files l.modules l.submodules l.module-index) l.initial.found.items l.found.items;
  apart : HaveOwnItems l.files l.modules l.submodules → StaysApart (IsItemAmong l.files l.modules l.submodules) l.initial.found.items l.found.items;
}
