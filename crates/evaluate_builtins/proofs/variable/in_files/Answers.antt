-- The map's order makes the value the only one of its name.
use Rattle.std.proofs.Common.{Some, None, ap, ◌∙◌}
use Rattle.evaluate_builtins.proofs.Dotenv.{files_read}
use Rattle.evaluate_builtins.proofs.variable.in_files.Goals as goal

pub returns-in-Some : goal.returns-in-Some
returns-in-Some c = ap (λ text. Some text) c.as_str.ensures.value ∙ files_read c.args.name.now c.args.dotenv.now (Some c.in-Some.value) c.in-Some.ensures.value c.len.ensures.ordered

pub returns-in-None : goal.returns-in-None
returns-in-None c = files_read c.args.name.now c.args.dotenv.now None c.in-None.ensures.value c.len.ensures.ordered
