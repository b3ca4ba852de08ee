-- The first of the functions to come is the first of all.
use Rattle.std.proofs.Common.{◌≡◌, drop}
use Rattle.justfile_analyzer.specs.Calls.{place_from, place_named}
use Rattle.justfile_analyzer.proofs.calls.place_of.Given as goal

abbrev pub invariant-loop-place : goal.invariant-loop-place
invariant-loop-place l = place_from l.place l.name (drop l.place l.functions) ≡ place_named l.name l.functions
