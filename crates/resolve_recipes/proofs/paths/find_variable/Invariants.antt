-- From the module so far the names to come lead where all lead.
use Rattle.std.proofs.Common.{◌≡◌, Some, length}
use denote.Text.{Utf8}
use denote.Shadow.{shadow}
use Rattle.modules_compilation.specs.Modulepaths.{pieces}
use Rattle.resolve_recipes.specs.Named.{AllByName}
use Rattle.resolve_recipes.specs.Leading.{variable_from}
use Rattle.resolve_recipes.proofs.paths.find_variable.Given as goal

abbrev pub invariant-loop-name : goal.invariant-loop-name
invariant-loop-name l =
    shadow (Utf8 l.rest) × (AllByName l.compilation → variable_from l.compilation (Some l.module) (pieces l.rest) ≡ variable_from l.compilation (Some 0) (pieces l.path))

abbrev pub decreases-loop-name : goal.decreases-loop-name
decreases-loop-name l = length l.rest
