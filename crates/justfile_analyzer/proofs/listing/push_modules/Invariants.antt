-- The lines of the submodules so far are there.
use Rattle.std.proofs.Common.{◌≡◌, ◌++◌, map, take}
use Rattle.std.specs.String.{string_bytes}
use Rattle.justfile_analyzer.specs.Listings.{module_lines}
use Rattle.justfile_analyzer.proofs.listing.push_modules.Given as goal

abbrev pub invariant-loop-name : goal.invariant-loop-name
invariant-loop-name l = string_bytes l.text ≡ string_bytes l.initial.text ++ module_lines (map (λ name. name.now) (take l.name-index l.names))
