use Rattle.std.proofs.Common.{◌≡◌, true, false, ◌∙◌, sym}
use Rattle.analyze_calls.proofs.Runs.Turns.{none_before, some_before}
use Rattle.analyze_calls.proofs.running.push_calls.Goals as goal

pub returns-then-is_empty : goal.returns-then-is_empty
returns-then-is_empty c = sym (none_before c.args.are_dependencies c.args.pending c.args.stack.now (c.is_empty.ensures.0 c.if-is_empty.true))

pub returns : goal.returns
returns c = rw (some_before c.args.are_dependencies c.args.pending c.args.stack.now (λ e. let both : false ≡ true = sym c.if-is_empty.false ∙ c.is_empty.ensures.1 e in absurd (cc))) c.push.ensures
