-- With the aliases to come, the aliases are those of all modules.
use Rattle.std.proofs.Common.{◌≡◌, ◌-◌, length}
use Rattle.std.specs.List.{range_with_len}
use Rattle.resolve_recipes.specs.Named.{AllByName}
use Rattle.just_resolve.specs.Gathered.{all_before, gathered}
use Rattle.just_resolve.specs.Table.{all_aliases, lists_in, module_aliases}
use Rattle.just_resolve.proofs.recipe_table.all_aliases.Given as goal

abbrev pub invariant-loop-module : goal.invariant-loop-module
invariant-loop-module l =
    AllByName l.compilation → all_before (lists_in l.all.items) (gathered (module_aliases l.compilation l.resolver.places.now l.ranks) (range_with_len l.module (length l.compilation.modules.items - l.module))) ≡ all_aliases l.compilation l.resolver.places.now l.ranks
