-- After a comma the arguments are a row of expressions.
use Rattle.just_text.specs.declared.token_kind.TokenKind.TheVariants.{Comma}
use Rattle.parse_expressions.specs.Reading.{ahead}
use Rattle.parse_expressions.proofs.Elements.{taken}
use Rattle.std.proofs.Common.{rules}
use Rattle.parse_items.proofs.Elements.{behind_comma}
use Rattle.parse_items.proofs.set.arguments.Goals as goal

pub returns-then-is_some-clause-gives : goal.returns-then-is_some-clause-gives
returns-then-is_some-clause-gives g c =
    let comma = taken Comma (ahead c.args.cursor.now) c.accept.result (ahead c.accept.new.self) c.accept.ensures.accepted (search rules) in
    behind_comma (g.E.Expander.expansion c.args.context.now.expander.now) (ahead c.args.cursor.now) comma.0 (ahead c.accept.new.self) (ahead c.expressions.new.self) c.expressions.result comma.1 c.expressions.ensures.gives
