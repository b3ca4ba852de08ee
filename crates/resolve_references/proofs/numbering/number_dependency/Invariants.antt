-- The arguments are written as before, and those before the place have their numbers.
use Rattle.std.proofs.Common.{◌≡◌, ◌∷◌, [], length, map}
use Rattle.tree_items.specs.declared.recipe.DependencyArgument.{DependencyArgument}
use Rattle.tree_items.specs.Recipes.{argument_shape}
use Rattle.resolve_references.specs.Said.{said_of}
use Rattle.resolve_references.specs.Seen.{seeing}
use Rattle.resolve_references.proofs.Seeing.{EachIsNumbered}
use Rattle.resolve_references.proofs.numbering.number_dependency.Given as goal

abbrev pub invariant-loop-index : goal.invariant-loop-index
invariant-loop-index l = record {
  many : length l.dependency.arguments.items ≡ length l.initial.dependency.arguments.items;
  recipe : l.dependency.recipe ≡ l.initial.dependency.recipe;
  shapes : map argument_shape l.dependency.arguments.items ≡ map argument_shape l.initial.dependency.arguments.items;
  said : map (λ (a : DependencyArgument). said_of a.expression) l.dependency.arguments.items ≡ map (λ (a : DependencyArgument). said_of a.expression) l.initial.dependency.arguments.items;
  numbers : EachIsNumbered l.names.parameters.now l.names.bindings.now (λ seen (a : DependencyArgument). seeing seen a.expression ∷ []) l.dependency.arguments.items l.index;
}
