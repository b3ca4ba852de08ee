-- The dependencies before the place name recipes.
use Rattle.std.proofs.Common.{◌≡◌, drop}
use Rattle.resolve_recipes.specs.Named.{AllByName}
use Rattle.resolve_recipes.specs.Disabled.{first_refusal}
use Rattle.resolve_recipes.proofs.recipe_resolver.check_dependencies.Given as goal

abbrev pub invariant-loop-dependency : goal.invariant-loop-dependency
invariant-loop-dependency l =
    AllByName l.compilation → first_refusal l.compilation l.resolver l.module l.recipe (drop l.dependency-index l.dependencies) ≡ first_refusal l.compilation l.resolver l.module l.recipe l.dependencies
