use Rattle.std.proofs.Common.{rules, ◌≡◌, ◌≢◌, []}
use Rattle.std.proofs.lemmas.Result.{err_from_is_err_and}
use Rattle.evaluate_expressions.specs.Situations.{reading_at, stage_at}
use Rattle.meaning_dialogues.specs.Terms.{term_of}
use Rattle.meaning_evaluation.proofs.Parameters.Pairs.{pair_key_stops, pair_value_stops, pair_memory, pair_none, pair_some}
use Rattle.evaluate_variables.proofs.parameters.env_pair.Goals as goal

pub returns-in_err-value-clause-evaluates : goal.returns-in_err-value-clause-evaluates
returns-in_err-value-clause-evaluates g c =
    let e = err_from_is_err_and c.from_residual-in_err-value.result c.from_residual-in_err-value.ensures.1 in
    rw (e.1, e.2) (pair_value_stops (reading_at c.args.evaluator.now) (stage_at c.args.evaluator.now) (term_of c.args.key.now) (term_of c.args.value.now) _ _ _ _ _ c.in_ok-key.ensures.evaluates c.in_err-value.ensures.evaluates)

pub returns-then-is_empty-clause-evaluates : goal.returns-then-is_empty-clause-evaluates
returns-then-is_empty-clause-evaluates g c =
    let none : c.in_ok-value.value ≡ [] = search rules in
    pair_none (reading_at c.args.evaluator.now) (stage_at c.args.evaluator.now) (term_of c.args.key.now) (term_of c.args.value.now) _ _ _ _ _ c.in_ok-key.ensures.evaluates c.in_ok-value.ensures.evaluates none

pub returns-clause-evaluates : goal.returns-clause-evaluates
returns-clause-evaluates g c =
    let some : c.in_ok-value.value ≢ [] = search rules in
    pair_some (reading_at c.args.evaluator.now) (stage_at c.args.evaluator.now) (term_of c.args.key.now) (term_of c.args.value.now) _ _ _ _ _ _ c.in_ok-key.ensures.evaluates c.in_ok-value.ensures.evaluates some (search rules) (search rules)

pub returns-in_err-key-clause-evaluates : goal.returns-in_err-key-clause-evaluates
returns-in_err-key-clause-evaluates g c =
    let e = err_from_is_err_and c.from_residual.result c.from_residual.ensures.1 in
    rw (e.1, e.2) (pair_key_stops (reading_at c.args.evaluator.now) (stage_at c.args.evaluator.now) (term_of c.args.key.now) (term_of c.args.value.now) _ _ _ c.in_err-key.ensures.evaluates)

pub returns-in_err-value-2-clause-evaluates : goal.returns-in_err-value-2-clause-evaluates
returns-in_err-value-2-clause-evaluates g c =
    let e = err_from_is_err_and c.from_residual-in_err-value-2.result c.from_residual-in_err-value-2.ensures.1 in
    rw (e.1, e.2) (pair_memory (reading_at c.args.evaluator.now) (stage_at c.args.evaluator.now) (term_of c.args.key.now) (term_of c.args.value.now) _ _ _ _ _ c.in_ok-key.ensures.evaluates c.in_ok-value.ensures.evaluates)
