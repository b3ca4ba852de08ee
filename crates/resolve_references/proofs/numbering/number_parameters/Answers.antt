-- One parameter more has its numbers and its name.
use Rattle.std.proofs.Common.{ap, [], sym, subst, take, ◌∙◌, arith}
use Rattle.std.proofs.Math.Seq.{map-set_same}
use Rattle.std.proofs.lemmas.List.{length-set, take_more_set}
use Rattle.tree_items.specs.Recipes.{parameter_shape}
use Rattle.resolve_references.specs.Numbered.{bare_parameter}
use Rattle.resolve_references.proofs.Earlier.{AreNumberedSoFar, parameters_more}
use Rattle.resolve_references.proofs.Saying.{own_said, parameters_say}
use Rattle.resolve_references.proofs.numbering.number_parameters.Goals as goal

pub loop-index-preserved : goal.loop-index-preserved
loop-index-preserved c = record {
  many = length-set c.loop-index.parameters.items c.loop-index.index c.number_next.new.parameter ∙ c.loop-index.invariant.many;
  shapes = map-set_same parameter_shape c.loop-index.parameters.items c.loop-index.index c.number_next.new.parameter c.index_mut.result.now (c.number_next.ensures.shape ∙ ap parameter_shape c.index_mut.ensures.value) ∙ c.loop-index.invariant.shapes;
  bare = map-set_same bare_parameter c.loop-index.parameters.items c.loop-index.index c.number_next.new.parameter c.index_mut.result.now (c.number_next.ensures.bare ∙ ap bare_parameter c.index_mut.ensures.value) ∙ c.loop-index.invariant.bare;
  said = map-set_same own_said c.loop-index.parameters.items c.loop-index.index c.number_next.new.parameter c.index_mut.result.now (c.number_next.ensures.said [] ∙ ap own_said c.index_mut.ensures.value) ∙ c.loop-index.invariant.said;
  numbers =
      subst (AreNumberedSoFar c.args.bindings.now c.number_next.new.earlier) (sym (take_more_set c.loop-index.parameters.items c.loop-index.index c.number_next.new.parameter (omega arith)))
      (parameters_more c.args.bindings.now c.loop-index.earlier c.number_next.new.earlier (take c.loop-index.index c.loop-index.parameters.items) c.number_next.new.parameter c.loop-index.invariant.numbers c.number_next.ensures.numbers c.in_ok-number_next.ensures.named);
}

pub returns-in_err-number_next-clause-shapes : goal.returns-in_err-number_next-clause-shapes
returns-in_err-number_next-clause-shapes c = map-set_same parameter_shape c.loop-index.parameters.items c.loop-index.index c.number_next.new.parameter c.index_mut.result.now (c.number_next.ensures.shape ∙ ap parameter_shape c.index_mut.ensures.value) ∙ c.loop-index.invariant.shapes

pub returns-in_err-number_next-clause-bare : goal.returns-in_err-number_next-clause-bare
returns-in_err-number_next-clause-bare c = map-set_same bare_parameter c.loop-index.parameters.items c.loop-index.index c.number_next.new.parameter c.index_mut.result.now (c.number_next.ensures.bare ∙ ap bare_parameter c.index_mut.ensures.value) ∙ c.loop-index.invariant.bare

pub returns-clause-said : goal.returns-clause-said
returns-clause-said c = parameters_say [] [] _ c.loop-index.parameters.items c.loop-index.invariant.said

pub returns-in_err-number_next-clause-said : goal.returns-in_err-number_next-clause-said
returns-in_err-number_next-clause-said c = parameters_say [] [] _ _ (map-set_same own_said c.loop-index.parameters.items c.loop-index.index c.number_next.new.parameter c.index_mut.result.now (c.number_next.ensures.said [] ∙ ap own_said c.index_mut.ensures.value) ∙ c.loop-index.invariant.said)
