use Rattle.std.proofs.Common.{rules, ◌≡◌, ◌<◌, ◌≤◌, ◌++◌, ◌∷◌, [], ap, get_or, length, map, ◌∙◌, sym, arith}
use Rattle.std.proofs.lemmas.List.{get_or-map, length-map}
use Rattle.std.proofs.lemmas.Result.{err_from_is_err_and}
use Rattle.tree_expressions.specs.declared.expression.Expression.{Expression}
use Rattle.tree_items.specs.declared.recipe.DependencyArgument.{DependencyArgument}
use Rattle.evaluate_expressions.specs.Situations.{reading_at, stage_at}
use Rattle.meaning_dialogues.proofs.Dialogues.{not_begun}
use Rattle.meaning_dialogues.proofs.Rows.{leads_memory, leads_more, leads_stop, leads_end}
use Rattle.analyze_calls.specs.Blocks.{values_of}
use Rattle.analyze_calls.proofs.block.arguments.Goals as goal

pub returns-in_err-values-clause-evaluates : goal.returns-in_err-values-clause-evaluates
returns-in_err-values-clause-evaluates g c =
    let p = err_from_is_err_and c.from_residual.result c.from_residual.ensures.1 in
    rw (p.1, p.2) (not_begun _ _)

pub returns-in_err-push-clause-evaluates : goal.returns-in_err-push-clause-evaluates
returns-in_err-push-clause-evaluates g c =
    let as' = c.args.arguments.now in
    let i = c.loop-argument.argument-index in
    let x = c.argument-item.result in
    let lt : i < length as' = omega arith in
    let e : x ≡ get_or as' i x = search rules in
    let lt' : i < length (map (λ a. a.expression) as') = rw (length-map as' (λ a. a.expression)) lt in
    let e' : x.expression ≡ get_or (map (λ a. a.expression) as') i x.expression = ap (λ a. a.expression) e ∙ sym (get_or-map (λ a. a.expression) as' i x x.expression lt) in
    let v = c.in_ok-evaluate_value.field-0 in
    let p = err_from_is_err_and c.from_residual-in_err-push.result c.from_residual-in_err-push.ensures.1 in
    rw (p.1, p.2)
    (leads_memory (reading_at c.args.evaluator.now) (values_of (stage_at c.args.evaluator.now) as') _ c.args.host.now.entries c.evaluate_value.new.host.entries (c.loop-argument.values.items ++ v ∷ [])
    (leads_more (reading_at c.args.evaluator.now) (values_of (stage_at c.args.evaluator.now) as') (stage_at c.args.evaluator.now) (map (λ a. a.expression) as') c.args.host.now.entries c.loop-argument.host.entries c.evaluate_value.new.host.entries c.loop-argument.values.items i x.expression v c.loop-argument.invariant.leads lt' e' c.in_ok-evaluate_value.ensures.evaluates))

pub returns-in_err-evaluate_value-clause-evaluates : goal.returns-in_err-evaluate_value-clause-evaluates
returns-in_err-evaluate_value-clause-evaluates g c =
    let as' = c.args.arguments.now in
    let i = c.loop-argument.argument-index in
    let x = c.argument-item.result in
    let lt : i < length as' = omega arith in
    let e : x ≡ get_or as' i x = search rules in
    let lt' : i < length (map (λ a. a.expression) as') = rw (length-map as' (λ a. a.expression)) lt in
    let e' : x.expression ≡ get_or (map (λ a. a.expression) as') i x.expression = ap (λ a. a.expression) e ∙ sym (get_or-map (λ a. a.expression) as' i x x.expression lt) in
    let p = err_from_is_err_and c.from_residual-in_err-evaluate_value.result c.from_residual-in_err-evaluate_value.ensures.1 in
    rw (p.1, p.2) (leads_stop (reading_at c.args.evaluator.now) (values_of (stage_at c.args.evaluator.now) as') (stage_at c.args.evaluator.now) (map (λ a. a.expression) as') c.args.host.now.entries c.loop-argument.host.entries c.evaluate_value.new.host.entries c.loop-argument.values.items i x.expression _ c.loop-argument.invariant.leads lt' e' c.in_err-evaluate_value.ensures.evaluates)

pub loop-argument-preserved : goal.loop-argument-preserved
loop-argument-preserved g c =
    let as' = c.args.arguments.now in
    let i = c.loop-argument.argument-index in
    let x = c.argument-item.result in
    let lt : i < length as' = omega arith in
    let e : x ≡ get_or as' i x = search rules in
    let lt' : i < length (map (λ a. a.expression) as') = rw (length-map as' (λ a. a.expression)) lt in
    let e' : x.expression ≡ get_or (map (λ a. a.expression) as') i x.expression = ap (λ a. a.expression) e ∙ sym (get_or-map (λ a. a.expression) as' i x x.expression lt) in
    let v = c.in_ok-evaluate_value.field-0 in
    let pushed : c.push.new.self.items ≡ c.loop-argument.values.items ++ v ∷ [] = search rules in
    record {
      asks = λ kinds questions start asked. c.in_ok-evaluate_value.ensures.asks kinds questions start (c.loop-argument.invariant.asks kinds questions start asked);
      leads = rw pushed (leads_more (reading_at c.args.evaluator.now) (values_of (stage_at c.args.evaluator.now) as') (stage_at c.args.evaluator.now) (map (λ a. a.expression) as') c.args.host.now.entries c.loop-argument.host.entries c.evaluate_value.new.host.entries c.loop-argument.values.items i x.expression v c.loop-argument.invariant.leads lt' e' c.in_ok-evaluate_value.ensures.evaluates);
      each = search rules;
    }

pub returns-clause-evaluates : goal.returns-clause-evaluates
returns-clause-evaluates g c =
    let as' = c.args.arguments.now in
    let i = c.loop-argument.argument-index in
    let over : length as' ≤ i = omega arith in
    leads_end (reading_at c.args.evaluator.now) (values_of (stage_at c.args.evaluator.now) as') (stage_at c.args.evaluator.now) (map (λ a. a.expression) as') c.args.host.now.entries c.loop-argument.host.entries c.loop-argument.values.items i c.loop-argument.invariant.leads (rw (length-map as' (λ a. a.expression)) over)
