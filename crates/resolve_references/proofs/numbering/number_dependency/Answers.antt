-- Each is numbered in its place.
use Rattle.std.proofs.Common.{ℕ, List, ap₂, ap, sym, ◌∙◌, ◌∷◌, [], arith}
use Rattle.std.proofs.Math.Seq.{map-set_same}
use Rattle.std.proofs.lemmas.List.{length-set}
use Rattle.tree_items.specs.declared.recipe.DependencyArgument.{DependencyArgument}
use Rattle.tree_items.specs.Paths.{path_names}
use Rattle.tree_items.specs.Recipes.{ArgumentShape, DependencyShape, argument_shape}
use Rattle.resolve_references.specs.Said.{said_of}
use Rattle.resolve_references.specs.Seen.{seeing}
use Rattle.resolve_references.proofs.Saying.{expression_says, seen_arguments}
use Rattle.resolve_references.proofs.Seeing.{each_more, each_single}
use Rattle.resolve_references.proofs.numbering.number_dependency.Goals as goal

-- the shape of a dependency from its parts
abbrev shape_from : List (List ℕ) → List ArgumentShape → DependencyShape
shape_from path arguments = record { path = path; arguments = arguments }

pub loop-index-preserved : goal.loop-index-preserved
loop-index-preserved c = record {
  many = length-set c.loop-index.dependency.arguments.items c.loop-index.index c.number_argument.new.argument ∙ c.loop-index.invariant.many;
  recipe = c.loop-index.invariant.recipe;
  shapes = map-set_same argument_shape c.loop-index.dependency.arguments.items c.loop-index.index c.number_argument.new.argument c.index_mut.result.now (c.number_argument.ensures.shape ∙ ap argument_shape c.index_mut.ensures.value) ∙ c.loop-index.invariant.shapes;
  said = map-set_same (λ (a : DependencyArgument). said_of a.expression) c.loop-index.dependency.arguments.items c.loop-index.index c.number_argument.new.argument c.index_mut.result.now (expression_says _ _ (c.number_argument.ensures.said []) ∙ ap (λ (a : DependencyArgument). said_of a.expression) c.index_mut.ensures.value) ∙ c.loop-index.invariant.said;
  numbers = each_more _ _ (λ seen (a : DependencyArgument). seeing seen a.expression ∷ []) c.loop-index.dependency.arguments.items c.loop-index.index c.number_argument.new.argument (omega arith) c.loop-index.invariant.numbers c.number_argument.ensures.numbers;
}

pub returns-clause-numbers : goal.returns-clause-numbers
returns-clause-numbers c = each_single _ _ (λ seen (a : DependencyArgument). seeing seen a.expression) c.loop-index.dependency.arguments.items (λ k d lt. c.loop-index.invariant.numbers k d (omega arith))

pub returns-clause-shape : goal.returns-clause-shape
returns-clause-shape c = ap₂ shape_from (ap path_names c.loop-index.invariant.recipe) c.loop-index.invariant.shapes

pub returns-clause-said : goal.returns-clause-said
returns-clause-said c = λ seen. seen_arguments seen c.loop-index.dependency.arguments.items ∙ c.loop-index.invariant.said ∙ sym (seen_arguments seen _)
