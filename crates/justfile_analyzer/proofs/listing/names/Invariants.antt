-- The names of the modules so far.
use Rattle.std.proofs.Common.{◌≡◌, map, take}
use Rattle.justfile_analyzer.specs.Offers.{module_name}
use Rattle.justfile_analyzer.proofs.listing.names.Given as goal

abbrev pub invariant-loop-module : goal.invariant-loop-module
invariant-loop-module l = map (λ name. name.now) l.names.items ≡ map (module_name l.compilation) (take l.module-index l.modules)
