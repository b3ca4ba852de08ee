-- The files come first.
use Rattle.std.proofs.Common.{map, sym}
use Rattle.evaluate_context.specs.Environment as environment
use Rattle.evaluate_builtins.proofs.Variables.{in_the_environment}
use Rattle.evaluate_builtins.proofs.variable.looked_up.Goals as goal

pub returns-in-None-clause-leads : goal.returns-in-None-clause-leads
returns-in-None-clause-leads g c = in_the_environment (map environment.variable c.args.dotenv.now.entries) c.args.name.now c.args.host.now.entries c.in_environment.new.host.entries c.in_environment.result (sym c.in-None.ensures) c.in_environment.ensures.leads
