-- From the module so far the names to come lead where all lead.
use Rattle.std.proofs.Common.{◌≡◌, Some, drop}
use Rattle.resolve_recipes.specs.Named.{AllByName}
use Rattle.resolve_recipes.specs.Leading.{module_from, name_texts}
use Rattle.resolve_recipes.proofs.paths.module_at.Given as goal

abbrev pub invariant-loop-name : goal.invariant-loop-name
invariant-loop-name l =
    AllByName l.compilation → module_from l.compilation.modules.items (Some l.module) (name_texts (drop l.name-index l.names)) ≡ module_from l.compilation.modules.items (Some l.initial.module) (name_texts l.names)
