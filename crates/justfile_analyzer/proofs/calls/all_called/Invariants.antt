-- The places of the functions that are called so far.
use Rattle.std.proofs.Common.{◌≡◌, take}
use Rattle.justfile_analyzer.specs.Calls.{all_called}
use Rattle.justfile_analyzer.proofs.calls.all_called.Given as goal

abbrev pub invariant-loop-reference : goal.invariant-loop-reference
invariant-loop-reference l = l.places.items ≡ all_called l.functions (take l.reference-index l.references)
