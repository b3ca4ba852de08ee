-- The shape of two sides that `/` joins, and of one after it, and what they hold.
use Rattle.std.proofs.Common.{◌≡◌, ◌++◌, Some, None, rules}
use Rattle.std.specs.Global.{Box}
use Rattle.just_text.specs.declared.token.Token.{Token}
use Rattle.tree_expressions.specs.declared.expression.Expression.{Expression, Join, the_lemmas}
use Rattle.tree_expressions.specs.Operators.{joining}
use Rattle.tree_expressions.specs.Shape.{shape_of, binary, rooted}
use Rattle.parse_expressions.specs.Literals.{held_by}

pub two_sides : (l r : Box Expression) (token : Token) → shape_of (Join (Some l) token r) ≡ binary joining (shape_of l.value) (shape_of r.value)
two_sides l r token = search (rules, the_lemmas)

pub two_hold : (l r : Box Expression) (token : Token) → held_by (Join (Some l) token r) ≡ held_by l.value ++ held_by r.value
two_hold l r token = search (rules, the_lemmas)

pub one_side : (r : Box Expression) (token : Token) → shape_of (Join None token r) ≡ rooted (shape_of r.value)
one_side r token = search (rules, the_lemmas)

pub one_holds : (r : Box Expression) (token : Token) → held_by (Join None token r) ≡ held_by r.value
one_holds r token = search (rules, the_lemmas)
