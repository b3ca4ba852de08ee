use Rattle.std.proofs.Common.{◌∙◌, sym, eqb-true}
use Rattle.run_tasks.proofs.Requested.Refused.{command_missing}
use Rattle.run_tasks.proofs.request.command_request.Goals as goal

pub returns-then-is_empty-clause-refused : goal.returns-then-is_empty-clause-refused
returns-then-is_empty-clause-refused c = command_missing c.args.words.now (eqb-true _ 0 (sym c.is_empty.ensures ∙ c.if-is_empty.true))
