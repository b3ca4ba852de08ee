use Rattle.std.proofs.Common.{ap, ◌∙◌}
use Rattle.meaning_runs.specs.Parts.{is_met}
use Rattle.analyze_calls.specs.Calls.{row_of, same_call}
use Rattle.analyze_calls.proofs.Joined.{met_among}
use Rattle.analyze_calls.proofs.call.Done.has.Goals as goal

pub returns : goal.returns
returns c = c.contains.ensures ∙ met_among (row_of c.args.call.now) _ ∙ ap (λ ks. is_met same_call (row_of c.args.call.now) ks) c.self.view_is
