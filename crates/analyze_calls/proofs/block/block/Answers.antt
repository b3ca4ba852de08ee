use Rattle.std.proofs.Common.{rules, ◌≡◌, ◌++◌, ◌∷◌, []}
use Rattle.std.proofs.lemmas.Result.{err_from_is_err_and}
use Rattle.std.proofs.lemmas.Slice.Zip.{either_empty_from_Zip}
use Rattle.std.specs.Slice.Iter.{iter_rest}
use Rattle.evaluate_expressions.specs.Situations.{reading_at, stage_at}
use Rattle.meaning_dialogues.proofs.Dialogues.{not_begun}
use Rattle.analyze_calls.specs.Brought.{brought_rows}
use Rattle.analyze_calls.specs.Calls.{rows}
use Rattle.analyze_calls.proofs.Blocks.{calls_first, calls_memory, calls_more, calls_stop, calls_end}
use Rattle.analyze_calls.proofs.block.block.Goals as goal

pub loop-dependency-init : goal.loop-dependency-init
loop-dependency-init g c =
    let ds : iter_rest c.into_iter-dependency-iterator.result.a ≡ c.args.dependencies.now = search rules in
    let ps : iter_rest c.into_iter-dependency-iterator.result.b ≡ c.args.places.now = search rules in
    let none : rows c.in_ok-calls.calls.items ≡ [] = search rules in
    record { asks = λ kinds questions start asked. asked; leads = rw (ds, ps, none) (calls_first (reading_at c.args.evaluator.now) c.args.runner.now (stage_at c.args.evaluator.now) c.args.dependencies.now c.args.places.now c.args.host.now.entries) }

pub returns-in_err-calls-clause-evaluates : goal.returns-in_err-calls-clause-evaluates
returns-in_err-calls-clause-evaluates g c =
    let p = err_from_is_err_and c.from_residual.result c.from_residual.ensures.1 in
    rw (p.1, p.2) (not_begun _ _)

pub returns-in_err-push-clause-evaluates : goal.returns-in_err-push-clause-evaluates
returns-in_err-push-clause-evaluates g c =
    let l = c.loop-dependency in
    let d = c.in-Some.dependency.now in
    let q = c.in-Some.place.now in
    let ds : iter_rest l.dependency-iterator.a ≡ d ∷ iter_rest c.next.new.self.a = search rules in
    let ps : iter_rest l.dependency-iterator.b ≡ q ∷ iter_rest c.next.new.self.b = search rules in
    let same : c.as_slice-arguments.result.now ≡ d.arguments.items = search rules in
    let p = err_from_is_err_and c.from_residual-in_err-push.result c.from_residual-in_err-push.ensures.1 in
    rw (p.1, p.2)
    (calls_memory (reading_at c.args.evaluator.now) c.args.runner.now (stage_at c.args.evaluator.now) c.args.dependencies.now (iter_rest c.next.new.self.a) c.args.places.now (iter_rest c.next.new.self.b) c.args.host.now.entries c.calls_at.new.host.entries (rows l.calls.items ++ brought_rows c.in_ok-brought.brought)
    (calls_more (reading_at c.args.evaluator.now) c.args.runner.now (stage_at c.args.evaluator.now) c.args.dependencies.now (iter_rest l.dependency-iterator.a) c.args.places.now (iter_rest l.dependency-iterator.b) c.args.host.now.entries l.host.entries c.calls_at.new.host.entries (rows l.calls.items) l.invariant.leads d (iter_rest c.next.new.self.a) q (iter_rest c.next.new.self.b) _ ds ps (rw same at c.in_ok-brought.ensures.evaluates)))

pub returns-in_err-brought-clause-evaluates : goal.returns-in_err-brought-clause-evaluates
returns-in_err-brought-clause-evaluates g c =
    let l = c.loop-dependency in
    let d = c.in-Some.dependency.now in
    let q = c.in-Some.place.now in
    let ds : iter_rest l.dependency-iterator.a ≡ d ∷ iter_rest c.next.new.self.a = search rules in
    let ps : iter_rest l.dependency-iterator.b ≡ q ∷ iter_rest c.next.new.self.b = search rules in
    let same : c.as_slice-arguments.result.now ≡ d.arguments.items = search rules in
    let p = err_from_is_err_and c.from_residual-in_err-brought.result c.from_residual-in_err-brought.ensures.1 in
    rw (p.1, p.2) (calls_stop (reading_at c.args.evaluator.now) c.args.runner.now (stage_at c.args.evaluator.now) c.args.dependencies.now (iter_rest l.dependency-iterator.a) c.args.places.now (iter_rest l.dependency-iterator.b) c.args.host.now.entries l.host.entries c.calls_at.new.host.entries (rows l.calls.items) l.invariant.leads d (iter_rest c.next.new.self.a) q (iter_rest c.next.new.self.b) _ ds ps (rw same at c.in_err-brought.ensures.evaluates))

pub loop-dependency-preserved : goal.loop-dependency-preserved
loop-dependency-preserved g c =
    let l = c.loop-dependency in
    let d = c.in-Some.dependency.now in
    let q = c.in-Some.place.now in
    let ds : iter_rest l.dependency-iterator.a ≡ d ∷ iter_rest c.next.new.self.a = search rules in
    let ps : iter_rest l.dependency-iterator.b ≡ q ∷ iter_rest c.next.new.self.b = search rules in
    let same : c.as_slice-arguments.result.now ≡ d.arguments.items = search rules in
    let all : rows c.push.new.calls.items ≡ rows l.calls.items ++ brought_rows c.in_ok-brought.brought = search rules in
    record {
      asks = λ kinds questions start asked. c.in_ok-brought.ensures.asks kinds questions start (l.invariant.asks kinds questions start asked);
      leads = rw all (calls_more (reading_at c.args.evaluator.now) c.args.runner.now (stage_at c.args.evaluator.now) c.args.dependencies.now (iter_rest l.dependency-iterator.a) c.args.places.now (iter_rest l.dependency-iterator.b) c.args.host.now.entries l.host.entries c.calls_at.new.host.entries (rows l.calls.items) l.invariant.leads d (iter_rest c.next.new.self.a) q (iter_rest c.next.new.self.b) _ ds ps (rw same at c.in_ok-brought.ensures.evaluates));
    }

pub returns-clause-evaluates : goal.returns-clause-evaluates
returns-clause-evaluates g c =
    let l = c.loop-dependency in
    let over = either_empty_from_Zip l.dependency-iterator c.next.new.self c.next.result (search rules) (search rules) in
    calls_end (reading_at c.args.evaluator.now) c.args.runner.now (stage_at c.args.evaluator.now) c.args.dependencies.now (iter_rest l.dependency-iterator.a) c.args.places.now (iter_rest l.dependency-iterator.b) c.args.host.now.entries l.host.entries (rows l.calls.items) l.invariant.leads over
