-- The paths so far are joined.
use Rattle.std.proofs.Common.{◌≡◌, take}
use Rattle.std.specs.String.{string_bytes}
use Rattle.evaluate_functions.specs.Functions.{path_of}
use Rattle.evaluate_functions.proofs.paths.joined.Given as goal

abbrev pub invariant-loop-path : goal.invariant-loop-path
invariant-loop-path l = string_bytes l.whole ≡ path_of (take l.path-index l.paths)
