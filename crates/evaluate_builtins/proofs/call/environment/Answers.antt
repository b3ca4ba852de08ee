-- The first argument has the variables, and the second the default.
use Rattle.std.proofs.Common.{rules, ◌≡◌, ◌<◌, [], ◌∷◌, List, arith, length, map, refl, subst}
use Rattle.meaning_dialogues.specs.Dialogue.{Evaluates}
use Rattle.meaning_dialogues.proofs.Dialogues.{ends}
use Rattle.evaluate_context.specs.Environment as surrounding
use Rattle.evaluate_builtins.specs.Named.{named}
use Rattle.evaluate_builtins.proofs.Environments.{one_argument, two_arguments}
use Rattle.evaluate_builtins.proofs.call.environment.Goals as goal

pub returns-in-len1-clause-evaluates : goal.returns-in-len1-clause-evaluates
returns-in-len1-clause-evaluates g c name reading =
    subst (λ dialogue. Evaluates reading dialogue c.args.host.now.entries c.variable.new.host.entries (named name c.variable.result))
    (one_argument name (map surrounding.variable c.args.site.now.context.now.dotenv.now.entries) c.args.arguments.now c.names-item.result c.in-len1.len_at_least c.in-len1.len_below c.names-item.is)
    (c.variable.ensures.evaluates name reading)

pub returns-in-len2-up-clause-evaluates : goal.returns-in-len2-up-clause-evaluates
returns-in-len2-up-clause-evaluates g c name reading =
    subst (λ dialogue. Evaluates reading dialogue c.args.host.now.entries c.variable-in-len2-up.new.host.entries (named name c.variable-in-len2-up.result))
    (two_arguments name (map surrounding.variable c.args.site.now.context.now.dotenv.now.entries) c.args.arguments.now c.names-item-2.result c.default-item.result c.in-len2-up.len_at_least c.names-item-2.is c.default-item.is)
    (c.variable-in-len2-up.ensures.evaluates name reading)

-- a list of less than one is empty
none_given : {A : Type 0} (items : List A) → length items < 1 → items ≡ []
none_given [] few = refl
none_given (item ∷ items) few = absurd (omega (arith, few))

pub returns-in-empty-clause-evaluates : goal.returns-in-empty-clause-evaluates
returns-in-empty-clause-evaluates g c name reading = rw (none_given c.args.arguments.now c.in-empty.len_below) (ends _ (λ n. search rules))
