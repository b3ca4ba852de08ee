-- None of the references so far asks.
use Rattle.std.proofs.Common.{◌≡◌, false, take}
use Rattle.std.specs.List.{list_any}
use Rattle.justfile_analyzer.specs.Calls.{asks_at}
use Rattle.justfile_analyzer.proofs.calls.any_asks_there.Given as goal

abbrev pub invariant-loop-reference : goal.invariant-loop-reference
invariant-loop-reference l = list_any (asks_at l.functions) (take l.reference-index l.references) ≡ false
