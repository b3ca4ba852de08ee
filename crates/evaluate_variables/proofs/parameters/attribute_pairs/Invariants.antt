-- What was asked so far, and what the attributes that are left give after these pairs.
use Rattle.std.specs.Slice.Iter.{iter_rest}
use Rattle.tree_attributes.specs.Sets.Sets.{items_of}
use Rattle.just_host.specs.Kinds.{AsksQuestions}
use Rattle.meaning_evaluation.proofs.Parameters.Pairs.{LeadsPairs}
use Rattle.evaluate_variables.specs.Given.{reading_for, stage_for}
use Rattle.evaluate_variables.proofs.parameters.attribute_pairs.Given as goal

abbrev pub invariant-loop-item : goal.invariant-loop-item
invariant-loop-item g l = record {
  asks : AsksQuestions g.H.Host.goes l.initial.host l.host;
  leads : LeadsPairs (reading_for l.fn.site l.fn.scope) (λ pairs. stage_for l.fn.site pairs l.fn.scope) (items_of l.fn.recipe.attributes) (iter_rest l.item-iterator) l.fn.host.entries l.host.entries l.env.items;
}
