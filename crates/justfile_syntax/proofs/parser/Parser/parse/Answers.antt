-- The path of the context is that of the first token.
use Rattle.std.proofs.Common.{subst}
use Rattle.std.specs.Prelude.{IfOk}
use Rattle.parse_expressions.specs.Literals.{from_file}
use Rattle.justfile_syntax.specs.Parsed.{IsWhole}
use Rattle.justfile_syntax.proofs.parser.Parser.parse.Goals as goal

pub returns-clause-whole : goal.returns-clause-whole
returns-clause-whole g c = subst (λ path. IfOk c.parse_in.result (IsWhole (from_file path (g.E.Expander.expansion c.args.expander.now)))) c.path_ahead-path.ensures c.parse_in.ensures.whole
