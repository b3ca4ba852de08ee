use Rattle.std.proofs.Common.{rules, ◌≡◌, ◌∷◌, [], List, length, refl}
use Rattle.std.proofs.lemmas.Result.{err_from_is_err_and}
use Rattle.std.specs.Slice.Iter.{iter_rest}
use Rattle.tree_attributes.specs.Sets.Sets.{items_of}
use Rattle.meaning_evaluation.proofs.Parameters.Pairs.{pairs_end, pairs_memory, pairs_stop, pairs_more, pairs_passed}
use Rattle.evaluate_variables.specs.Given.{reading_for, stage_for}
use Rattle.evaluate_variables.proofs.parameters.attribute_pairs.Goals as goal

pub returns-in_err-pair-clause-evaluates : goal.returns-in_err-pair-clause-evaluates
returns-in_err-pair-clause-evaluates g c =
    let l = c.loop-item in
    let site = c.args.site.now in
    let here = c.args.scope.now in
    let same : c.as_slice.result.now ≡ l.env.items = search rules in
    let is : iter_rest l.item-iterator ≡ c.in-Some.item.now ∷ iter_rest c.next.new.self = search rules in
    let e = err_from_is_err_and c.from_residual.result c.from_residual.ensures.1 in
    rw (e.1, e.2) (pairs_stop (reading_for site here) (λ pairs. stage_for site pairs here) (items_of c.args.recipe.now.attributes) _ _ _ _ _ l.invariant.leads c.in-Some.item.now _ is _ (rw same at c.in_err-pair.ensures.evaluates))

pub loop-item-preserved-in-Continue-branch-3 : goal.loop-item-preserved-in-Continue-branch-3
loop-item-preserved-in-Continue-branch-3 g c =
    let l = c.loop-item in
    let site = c.args.site.now in
    let here = c.args.scope.now in
    let same : c.as_slice.result.now ≡ l.env.items = search rules in
    let is : iter_rest l.item-iterator ≡ c.in-Some.item.now ∷ iter_rest c.next.new.self = search rules in
    let given = rw same at c.in_ok-pair.ensures.evaluates in
    record {
      asks = λ kinds has start asked. c.in_ok-pair.ensures.asks kinds has start (l.invariant.asks kinds has start asked);
      leads = pairs_more (reading_for site here) (λ pairs. stage_for site pairs here) (items_of c.args.recipe.now.attributes) _ _ _ _ _ l.invariant.leads c.in-Some.item.now _ is _ c.push.new.self.items c.in-Some-2.pair given (search rules) (search rules);
    }

pub loop-item-preserved : goal.loop-item-preserved
loop-item-preserved g c =
    let l = c.loop-item in
    let site = c.args.site.now in
    let here = c.args.scope.now in
    let same : c.as_slice.result.now ≡ l.env.items = search rules in
    let is : iter_rest l.item-iterator ≡ c.in-Some.item.now ∷ iter_rest c.next.new.self = search rules in
    let given = rw same at c.in_ok-pair.ensures.evaluates in
    record {
      asks = λ kinds has start asked. c.in_ok-pair.ensures.asks kinds has start (l.invariant.asks kinds has start asked);
      leads = pairs_passed (reading_for site here) (λ pairs. stage_for site pairs here) (items_of c.args.recipe.now.attributes) _ _ _ _ _ l.invariant.leads c.in-Some.item.now _ is _ given (search rules);
    }

pub returns-in_err-push-clause-evaluates : goal.returns-in_err-push-clause-evaluates
returns-in_err-push-clause-evaluates g c =
    let l = c.loop-item in
    let site = c.args.site.now in
    let here = c.args.scope.now in
    let same : c.as_slice.result.now ≡ l.env.items = search rules in
    let is : iter_rest l.item-iterator ≡ c.in-Some.item.now ∷ iter_rest c.next.new.self = search rules in
    let e = err_from_is_err_and c.from_residual-in_err-push.result c.from_residual-in_err-push.ensures.1 in
    rw (e.1, e.2) (pairs_memory (reading_for site here) (λ pairs. stage_for site pairs here) (items_of c.args.recipe.now.attributes) _ _ _ _ _ l.invariant.leads c.in-Some.item.now _ is _ (rw same at c.in_ok-pair.ensures.evaluates))

-- a list without a length is empty
none_left : {A : Type 0} (items : List A) → length items ≡ 0 → items ≡ []
none_left [] e = refl
none_left (item ∷ items) e = absurd (cc e)

pub returns-clause-evaluates : goal.returns-clause-evaluates
returns-clause-evaluates g c =
    let l = c.loop-item in
    let site = c.args.site.now in
    let here = c.args.scope.now in
    let over : iter_rest l.item-iterator ≡ [] = none_left (iter_rest l.item-iterator) c.in-None.ensures.steps.0 in
    pairs_end (reading_for site here) (λ pairs. stage_for site pairs here) (items_of c.args.recipe.now.attributes) _ _ _ _ l.invariant.leads over
