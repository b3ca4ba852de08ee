-- The terms of the forms whose parts lie in a row or may be missing.
use Rattle.std.proofs.Common.{◌≡◌, rules}
use Rattle.std.specs.Global.{Vec}
use Rattle.just_text.specs.declared.name.Name.{Name}
use Rattle.just_text.specs.declared.token.Token.{Token}
use Rattle.tree_expressions.specs.declared.string_literal.StringLiteral.{StringLiteral}
use Rattle.tree_expressions.specs.declared.expression.Expression.{Expression, Call as CallOf, FormatString, List as ListOf, the_lemmas}
use Rattle.just_text.specs.Tokens.{lexeme}
use Rattle.tree_expressions.specs.Shape.{written}
use Rattle.meaning_dialogues.specs.Terms.{term_of, terms_of, holes_of, call, listing, format}

pub call_term : (name : Name) (es : Vec Expression) → term_of (CallOf name es) ≡ call (lexeme name.token) name.token.path.now (terms_of es.items)
call_term name es = search (rules, the_lemmas)

pub list_term : (es : Vec Expression) (token : Token) → term_of (ListOf es token) ≡ listing (terms_of es.items)
list_term es token = search (rules, the_lemmas)

pub format_term : (start : StringLiteral) (es : Vec (Expression × StringLiteral)) → term_of (FormatString start es) ≡ format start.cooked (written start) start.kind.tripled (holes_of es.items)
format_term start es = search (rules, the_lemmas)
