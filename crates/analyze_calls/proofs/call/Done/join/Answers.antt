use Rattle.std.proofs.Common.{ap, ◌∙◌, ◌||◌}
use Rattle.meaning_runs.specs.Parts.{is_met}
use Rattle.analyze_calls.specs.Calls.{row_of, same_call}
use Rattle.analyze_calls.proofs.Joined.{joined}
use Rattle.analyze_calls.proofs.call.Done.join.Goals as goal

pub returns-clause-joins : goal.returns-clause-joins
returns-clause-joins c = λ q. joined c.args.call _ _ _ c.in_ok-insert.ensures.added c.in_ok-insert.ensures.keys q ∙ ap (λ ks. same_call (row_of c.args.call) q || is_met same_call q ks) c.self.view_is
