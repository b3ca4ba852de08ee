-- The first token of those that an expression keeps.
use Rattle.std.specs.Prelude.{Some, None}
use Rattle.just_text.specs.declared.token.Token.{Token}
use Rattle.tree_expressions.specs.declared.expression.Expression.{Expression, fold-Expression}
use Rattle.tree_expressions.specs.declared.expression.Expression.TheOpen.{Expression-F}

-- one level, with the first token of each expression inside
abbrev pub first_token_step : Expression-F Token → Token
first_token_step (Expression-F.And l r) = l.value
first_token_step (Expression-F.Assert c m name) = name.token
first_token_step (Expression-F.Backtick contents token) = token
first_token_step (Expression-F.Call name es) = name.token
first_token_step (Expression-F.Comparison l operator r token) = l.value
first_token_step (Expression-F.Concatenation l token r) = l.value
first_token_step (Expression-F.Conditional c t o) = c.value
first_token_step (Expression-F.FormatString start es) = start.token
first_token_step (Expression-F.Group e) = e.value
first_token_step (Expression-F.Join None token r) = token
first_token_step (Expression-F.Join (Some l) token r) = l.value
first_token_step (Expression-F.List es token) = token
first_token_step (Expression-F.ListConcatenation l token r) = l.value
first_token_step (Expression-F.Not e) = e.value
first_token_step (Expression-F.Or l r) = l.value
first_token_step (Expression-F.StringLiteral s) = s.token
first_token_step (Expression-F.Variable name number) = name.token

abbrev pub first_token_of : Expression → Token
first_token_of = fold-Expression Token first_token_step
