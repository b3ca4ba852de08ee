use Rattle.std.proofs.Common.{◌≡◌}
use Rattle.modules_definitions.specs.Gathering.{Gathers, StaysApart}
use Rattle.modules_definitions.proofs.Finding.{InFirst}
use Rattle.modules_definitions.proofs.found.add_items.Given as goal

-- what the first items define, at places of its own
abbrev pub invariant-loop-item : goal.invariant-loop-item
invariant-loop-item l = record {
  each : Gathers (InFirst l.os l.items l.file l.item) l.initial.found.items l.found.items;
  apart : StaysApart (λ at. at.file ≡ l.file) l.initial.found.items l.found.items;
}
