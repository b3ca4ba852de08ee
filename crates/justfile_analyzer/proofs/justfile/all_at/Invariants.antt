-- The modules at the places so far.
use Rattle.std.proofs.Common.{◌≡◌, map, take}
use Rattle.justfile_analyzer.specs.Justfiles.{place_of}
use Rattle.justfile_analyzer.proofs.justfile.all_at.Given as goal

abbrev pub invariant-loop-module : goal.invariant-loop-module
invariant-loop-module l = map place_of l.all.items ≡ take l.module-index l.modules
