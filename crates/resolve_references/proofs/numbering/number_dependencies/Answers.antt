-- Each is numbered in its place.
use Rattle.std.proofs.Common.{ap, ◌∙◌, arith}
use Rattle.std.proofs.Math.Seq.{map-set_same}
use Rattle.std.proofs.lemmas.List.{length-set}
use Rattle.tree_items.specs.Recipes.{dependency_shape}
use Rattle.tree_items.specs.declared.recipe.UnresolvedDependency.{UnresolvedDependency}
use Rattle.resolve_references.specs.Said.{said_by}
use Rattle.resolve_references.specs.Seen.{seen_in_dependency}
use Rattle.resolve_references.proofs.Saying.{all_say}
use Rattle.resolve_references.proofs.Seeing.{each_more, each_whole}
use Rattle.resolve_references.proofs.numbering.number_dependencies.Goals as goal

pub loop-index-preserved : goal.loop-index-preserved
loop-index-preserved c = record {
  many = length-set c.loop-index.dependencies.items c.loop-index.index c.number_dependency.new.dependency ∙ c.loop-index.invariant.many;
  shapes = map-set_same dependency_shape c.loop-index.dependencies.items c.loop-index.index c.number_dependency.new.dependency c.index_mut.result.now (c.number_dependency.ensures.shape ∙ ap dependency_shape c.index_mut.ensures.value) ∙ c.loop-index.invariant.shapes;
  said = λ seen. map-set_same (λ (x : UnresolvedDependency). said_by (seen_in_dependency seen x)) c.loop-index.dependencies.items c.loop-index.index c.number_dependency.new.dependency c.index_mut.result.now (c.number_dependency.ensures.said seen ∙ ap (λ (x : UnresolvedDependency). said_by (seen_in_dependency seen x)) c.index_mut.ensures.value) ∙ c.loop-index.invariant.said seen;
  numbers = each_more _ _ seen_in_dependency c.loop-index.dependencies.items c.loop-index.index c.number_dependency.new.dependency (omega arith) c.loop-index.invariant.numbers c.number_dependency.ensures.numbers;
}

pub returns-clause-numbers : goal.returns-clause-numbers
returns-clause-numbers c = each_whole _ _ seen_in_dependency c.loop-index.dependencies.items (λ k d lt. c.loop-index.invariant.numbers k d (omega arith))

pub returns-clause-said : goal.returns-clause-said
returns-clause-said c = λ seen. all_say (seen_in_dependency seen) _ c.loop-index.dependencies.items (c.loop-index.invariant.said seen)
