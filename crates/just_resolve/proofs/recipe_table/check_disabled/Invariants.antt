-- The modules before the place are not refused.
use Rattle.std.proofs.Common.{◌≡◌, ◌-◌, length}
use Rattle.std.specs.List.{range_with_len}
use Rattle.resolve_recipes.specs.Named.{AllByName}
use Rattle.just_resolve.specs.Table.{disabled_refusal, first_of, module_refusal}
use Rattle.just_resolve.proofs.recipe_table.check_disabled.Given as goal

abbrev pub invariant-loop-module : goal.invariant-loop-module
invariant-loop-module l =
    AllByName l.compilation → first_of (module_refusal l.compilation l.resolver) (range_with_len l.module (length l.compilation.modules.items - l.module)) ≡ disabled_refusal l.compilation l.resolver
