use Rattle.std.proofs.Common.{◌≤◌}
use Rattle.modules_definitions.specs.Gathering.{StaysApart}
use Rattle.modules_definitions.proofs.Finding.{InFirstFiles}
use Rattle.modules_definitions.proofs.found.add_files.Given as goal

-- what the first files define, at places of its own
abbrev pub invariant-loop-place : goal.invariant-loop-place
invariant-loop-place l = record {
  each : InFirstFiles l.os l.files l.initial.place l.place-end l.place l.initial.found.items l.found.items;
  apart : StaysApart (λ at. l.initial.place ≤ at.file) l.initial.found.items l.found.items;
}
