-- From the target so far the names to come lead where all lead.
use Rattle.std.proofs.Common.{◌≡◌, drop}
use Rattle.resolve_recipes.specs.Named.{AllByName}
use Rattle.resolve_recipes.specs.Leading.{leads_from, target_in}
use Rattle.resolve_recipes.proofs.paths.target.Given as goal

abbrev pub invariant-loop-name : goal.invariant-loop-name
invariant-loop-name l = AllByName l.compilation → leads_from l.compilation l.target (drop l.name-index l.names) ≡ target_in l.compilation l.module l.names
