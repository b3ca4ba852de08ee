-- What is kept are the pairs with other names.
use Rattle.std.proofs.Common.{rules, ◌∙◌, ap}
use Rattle.std.proofs.lemmas.Fn.{filter_same}
use Rattle.evaluate_context.specs.Environment as spec
use Rattle.evaluate_context.proofs.pairs.without.Goals as goal

pub returns : goal.returns
returns c =
    c.from_vec.ensures ∙ filter_same _ _ _ (λ x b f' k. search rules) _ _ c.retain.ensures.filtered ∙ ap (spec.without (spec.texts c.args.names.now)) c.into_vec-pairs.ensures
