-- The dependencies are written as before, and those before the place have their numbers.
use Rattle.std.proofs.Common.{◌≡◌, ℕ, List, length, map}
use Rattle.tree_items.specs.Recipes.{dependency_shape}
use Rattle.tree_items.specs.declared.recipe.UnresolvedDependency.{UnresolvedDependency}
use Rattle.resolve_references.specs.Said.{said_by}
use Rattle.resolve_references.specs.Seen.{seen_in_dependency}
use Rattle.resolve_references.proofs.Seeing.{EachIsNumbered}
use Rattle.resolve_references.proofs.numbering.number_dependencies.Given as goal

abbrev pub invariant-loop-index : goal.invariant-loop-index
invariant-loop-index l = record {
  many : length l.dependencies.items ≡ length l.initial.dependencies.items;
  shapes : map dependency_shape l.dependencies.items ≡ map dependency_shape l.initial.dependencies.items;
  said : (seen : List (List ℕ × ℕ)) → map (λ (x : UnresolvedDependency). said_by (seen_in_dependency seen x)) l.dependencies.items ≡ map (λ (x : UnresolvedDependency). said_by (seen_in_dependency seen x)) l.initial.dependencies.items;
  numbers : EachIsNumbered l.names.parameters.now l.names.bindings.now seen_in_dependency l.dependencies.items l.index;
}
