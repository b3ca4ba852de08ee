-- A request has its dialogue.
use Rattle.evaluate_context.specs.Surroundings.{surroundings_of}
use Rattle.evaluate_builtins.specs.Sites.{standing_of}
use Rattle.evaluate_builtins.proofs.Calls.{request_leads}
use Rattle.evaluate_builtins.proofs.call.asked_answer.Goals as goal

pub returns-in-Some-request_of-clause-leads : goal.returns-in-Some-request_of-clause-leads
returns-in-Some-request_of-clause-leads g c name reading =
    request_leads (surroundings_of c.args.site.now.context.now) (standing_of c.args.site.now) name c.args.function c.args.arguments.now c.in-Some-request_of.request reading c.args.host.now.entries c.answered.new.host.entries c.answered.result
    c.in_default.ensures c.in_default-fact_of.ensures c.in-Some-request_of.ensures (c.answered.ensures.evaluates name reading)
