-- The tables are tried in their order, and one of them has the function.
use Rattle.std.proofs.Common.{subst, sym}
use Rattle.just_text.specs.Tokens.{lexeme}
use Rattle.evaluate_context.specs.Surroundings.{surroundings_of}
use Rattle.meaning_dialogues.specs.Dialogue.{Evaluates}
use Rattle.evaluate_builtins.specs.Sites.{called, standing_of}
use Rattle.evaluate_builtins.proofs.Calls.{asked_goes, never_unanswered, pure_goes, said_goes}
use Rattle.evaluate_builtins.proofs.call.call_builtin.Goals as goal

pub returns-in-Some-clause-evaluates : goal.returns-in-Some-clause-evaluates
returns-in-Some-clause-evaluates g c reading =
    let site = c.args.site.now in
    subst (λ result. Evaluates reading (called site c.args.function c.args.arguments.now) c.args.host.now.entries c.args.host.now.entries result) (sym c.named.ensures)
    (pure_goes (surroundings_of site.context.now) (standing_of site) (lexeme site.name.token) site.name.token.path.now c.args.function c.args.arguments.now c.in-Some.answer c.in-Some.ensures)

pub returns-in-Some-site_answer-clause-evaluates : goal.returns-in-Some-site_answer-clause-evaluates
returns-in-Some-site_answer-clause-evaluates g c reading =
    let site = c.args.site.now in
    said_goes (surroundings_of site.context.now) (standing_of site) (lexeme site.name.token) site.name.token.path.now c.args.function c.args.arguments.now c.in-Some-site_answer.answer c.in_default.ensures c.in-Some-site_answer.ensures

pub returns-in-Some-asked_answer-clause-evaluates : goal.returns-in-Some-asked_answer-clause-evaluates
returns-in-Some-asked_answer-clause-evaluates g c reading =
    let site = c.args.site.now in
    subst (λ result. Evaluates reading (called site c.args.function c.args.arguments.now) c.args.host.now.entries c.asked_answer.new.host.entries result) (sym c.named-in-Some-asked_answer.ensures)
    (asked_goes (surroundings_of site.context.now) (standing_of site) (lexeme site.name.token) site.name.token.path.now c.args.function c.args.arguments.now c.in-Some-asked_answer.answer c.in_default.ensures (c.in-Some-asked_answer.ensures.leads (lexeme site.name.token) reading))

pub returns-in-None-clause-evaluates : goal.returns-in-None-clause-evaluates
returns-in-None-clause-evaluates g c reading =
    let site = c.args.site.now in
    never_unanswered (surroundings_of site.context.now) (standing_of site) (lexeme site.name.token) site.name.token.path.now reading c.args.host.now.entries c.asked_answer.new.host.entries c.args.function c.args.arguments.now c.in_default.ensures c.in_default-site_answer.ensures (c.in-None.ensures.leads (lexeme site.name.token) reading)
