use Rattle.std.proofs.Common.{rules, ◌≡◌, ◌<◌, ◌+◌, [], ◌∷◌, ◌++◌, ℕ, false, List, get_or, length, drop, map, refl, ap, sym, subst, ◌∙◌, add-one, drop-cons, arith}
use Rattle.std.proofs.lemmas.List.{drop_all}
use Rattle.std.specs.Option.{option_to_list}
use Rattle.tree_items.specs.declared.item.FunctionParameter.{FunctionParameter}
use Rattle.just_value.specs.Frames.{value_binding}
use Rattle.evaluate_expressions.proofs.Frames.{Binds, binds_first, binds_more, binds_over, binds_all}
use Rattle.evaluate_expressions.proofs.functions.bind_all.Goals as goal

pub loop-parameter-init : goal.loop-parameter-init
loop-parameter-init c = record {
  around = refl;
  counted = search rules;
  bound = λ frame has.
      let same : c.into_iter-values.result.rest.items ≡ c.args.values.items = search rules in
      rw same (binds_first frame _ _ _ has);
}

nothing_left : (values : List (List (List ℕ))) → length values ≡ 0 → values ≡ []
nothing_left [] e = refl
nothing_left (v ∷ vs) e = absurd (omega (arith, e))

pub returns-in_default-clause-bound : goal.returns-in_default-clause-bound
returns-in_default-clause-bound c = λ frame has.
    let numbers = map (λ q. q.1) c.args.parameters.now in
    let own = c.loop-parameter.scope.own in
    let left = map (λ q. q.1) (drop c.loop-parameter.parameter-index c.args.parameters.now) in
    let none : c.loop-parameter.values.rest.items ≡ [] = nothing_left c.loop-parameter.values.rest.items (sym c.loop-parameter.invariant.counted ∙ c.in_default.ensures.cases.0) in
    binds_over frame numbers c.args.values.items own left (subst (Binds frame numbers c.args.values.items own left) none (c.loop-parameter.invariant.bound frame has))

pub returns-in_default-clause-around : goal.returns-in_default-clause-around
returns-in_default-clause-around c = c.loop-parameter.invariant.around

pub returns-in_err-bind_value-clause-around : goal.returns-in_err-bind_value-clause-around
returns-in_err-bind_value-clause-around c = search rules

numbers_at : (ps : List FunctionParameter) (i : ℕ) (p : FunctionParameter) → i < length ps → p ≡ get_or ps i p → map (λ q. q.1) (drop i ps) ≡ p.1 ∷ map (λ q. q.1) (drop (i + 1) ps)
numbers_at ps i p lt is =
    let e : drop i ps ≡ p ∷ drop (i + 1) ps = rw (add-one, drop-cons ps i p lt, ← is) refl in
    ap (map (λ q. q.1)) e

pub loop-parameter-preserved : goal.loop-parameter-preserved
loop-parameter-preserved c = record {
  around = search rules;
  counted = search rules;
  bound = λ frame has.
      let some : c.loop-parameter.values.rest.items ≡ c.in-Some.value ∷ c.next.new.self.rest.items = c.next.ensures.items ∙ ap (λ o. option_to_list o ++ c.next.new.self.rest.items) c.in-Some.is in
      let here = numbers_at c.args.parameters.now c.loop-parameter.parameter-index c.parameter-item.result (omega arith) c.parameter-item.is in
      let own = c.loop-parameter.scope.own in
      let numbers = map (λ q. q.1) c.args.parameters.now in
      let values = c.args.values.items in
      let so_far = subst (λ vs. Binds frame numbers values own (map (λ q. q.1) (drop c.loop-parameter.parameter-index c.args.parameters.now)) vs) some (c.loop-parameter.invariant.bound frame has) in
      let at = subst (λ ns. Binds frame numbers values own ns (c.in-Some.value ∷ c.next.new.self.rest.items)) here so_far in
      binds_more frame numbers values own c.bind_value.new.self.own (value_binding c.name.result c.parameter-item.result.1 false c.in-Some.value) _ _ at (search rules);
}

pub returns-clause-bound : goal.returns-clause-bound
returns-clause-bound c = λ frame has.
    let over : map (λ q. q.1) (drop c.loop-parameter.parameter-index c.args.parameters.now) ≡ [] = ap (map (λ q. q.1)) (drop_all c.loop-parameter.parameter-index c.args.parameters.now (omega arith)) in
    let own = c.loop-parameter.scope.own in
    let numbers = map (λ q. q.1) c.args.parameters.now in
    let rest = c.loop-parameter.values.rest.items in
    binds_all frame numbers c.args.values.items own rest (subst (λ ns. Binds frame numbers c.args.values.items own ns rest) over (c.loop-parameter.invariant.bound frame has))

pub returns-clause-around : goal.returns-clause-around
returns-clause-around c = c.loop-parameter.invariant.around
