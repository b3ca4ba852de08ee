-- An expression is numbered where the expressions inside it are.
use Rattle.std.proofs.Common.{◌≡◌, ℕ, ◌++◌, List, map, Option, Some, None, refl, rules}
use Rattle.std.specs.Global.{Box, Vec}
use Rattle.std.proofs.lemmas.List.{map-append}
use Rattle.just_text.specs.declared.name.Name.{Name}
use Rattle.just_text.specs.declared.token.Token.{Token}
use Rattle.tree_expressions.specs.declared.string_literal.StringLiteral.{StringLiteral}
use Rattle.tree_expressions.specs.declared.operator.ConditionalOperator.{ConditionalOperator}
use Rattle.tree_expressions.specs.declared.expression.Expression.{Expression, the_lemmas}
use Rattle.tree_expressions.specs.declared.expression.Expression as e
use Rattle.tree_expressions.specs.Numbering.{IsNumbered, IsNumberedIfThere, AreNumbered, AreInterpolationsNumbered}
use Rattle.tree_expressions.proofs.NumberedRows.{numbers_of_row, numbers_of_interpolations}

-- the numbers of two expressions, one after the other
two : (number : List ℕ → Option ℕ) (xs ys : List (List ℕ)) (ns ms : List (Option ℕ)) → ns ≡ map number xs → ms ≡ map number ys → ns ++ ms ≡ map number (xs ++ ys)
two number xs ys ns ms first second = rw (map-append, first, second) refl

-- the numbers of three
three : (number : List ℕ → Option ℕ) (xs ys zs : List (List ℕ)) (ns ms ks : List (Option ℕ)) → ns ≡ map number xs → ms ≡ map number ys → ks ≡ map number zs → (ns ++ ms) ++ ks ≡ map number ((xs ++ ys) ++ zs)
three number xs ys zs ns ms ks first second third = two number _ zs _ ks (two number xs ys ns ms first second) third

pub or_numbered : (number : List ℕ → Option ℕ) (l r l' r' : Box Expression) → IsNumbered number l.value l'.value → IsNumbered number r.value r'.value → IsNumbered number (e.Or l r) (e.Or l' r')
or_numbered number l r l' r' left right = record {
  shape = search (rules, the_lemmas, left.shape, right.shape);
  texts = search (rules, the_lemmas, left.texts, right.texts);
  tokens = search (rules, the_lemmas, left.tokens, right.tokens);
  literals = search (rules, the_lemmas, left.literals, right.literals);
  numbers = search (rules, the_lemmas, two, left.numbers, right.numbers);
}

pub comparison_numbered : (number : List ℕ → Option ℕ) (l r l' r' : Box Expression) (operator : ConditionalOperator) (token : Token) → IsNumbered number l.value l'.value → IsNumbered number r.value r'.value → IsNumbered number (e.Comparison l operator r token) (e.Comparison l' operator r' token)
comparison_numbered number l r l' r' operator token left right = record {
  shape = search (rules, the_lemmas, left.shape, right.shape);
  texts = search (rules, the_lemmas, left.texts, right.texts);
  tokens = search (rules, the_lemmas, left.tokens, right.tokens);
  literals = search (rules, the_lemmas, left.literals, right.literals);
  numbers = search (rules, the_lemmas, two, left.numbers, right.numbers);
}

pub concatenation_numbered : (number : List ℕ → Option ℕ) (l r l' r' : Box Expression) (token : Token) → IsNumbered number l.value l'.value → IsNumbered number r.value r'.value → IsNumbered number (e.Concatenation l token r) (e.Concatenation l' token r')
concatenation_numbered number l r l' r' token left right = record {
  shape = search (rules, the_lemmas, left.shape, right.shape);
  texts = search (rules, the_lemmas, left.texts, right.texts);
  tokens = search (rules, the_lemmas, left.tokens, right.tokens);
  literals = search (rules, the_lemmas, left.literals, right.literals);
  numbers = search (rules, the_lemmas, two, left.numbers, right.numbers);
}

pub list_concatenation_numbered : (number : List ℕ → Option ℕ) (l r l' r' : Box Expression) (token : Token) → IsNumbered number l.value l'.value → IsNumbered number r.value r'.value → IsNumbered number (e.ListConcatenation l token r) (e.ListConcatenation l' token r')
list_concatenation_numbered number l r l' r' token left right = record {
  shape = search (rules, the_lemmas, left.shape, right.shape);
  texts = search (rules, the_lemmas, left.texts, right.texts);
  tokens = search (rules, the_lemmas, left.tokens, right.tokens);
  literals = search (rules, the_lemmas, left.literals, right.literals);
  numbers = search (rules, the_lemmas, two, left.numbers, right.numbers);
}

pub call_numbered : (number : List ℕ → Option ℕ) (name : Name) (es es' : Vec Expression) → AreNumbered number es.items es'.items → IsNumbered number (e.Call name es) (e.Call name es')
call_numbered number name es es' row = record {
  shape = search (rules, the_lemmas, row.shapes);
  texts = search (rules, the_lemmas, row.texts);
  tokens = search (rules, the_lemmas, row.tokens);
  literals = search (rules, the_lemmas, row.literals);
  numbers = search (rules, the_lemmas, row.numbers, numbers_of_row);
}

pub list_numbered : (number : List ℕ → Option ℕ) (es es' : Vec Expression) (token : Token) → AreNumbered number es.items es'.items → IsNumbered number (e.List es token) (e.List es' token)
list_numbered number es es' token row = record {
  shape = search (rules, the_lemmas, row.shapes);
  texts = search (rules, the_lemmas, row.texts);
  tokens = search (rules, the_lemmas, row.tokens);
  literals = search (rules, the_lemmas, row.literals);
  numbers = search (rules, the_lemmas, row.numbers, numbers_of_row);
}

pub format_numbered : (number : List ℕ → Option ℕ) (start : StringLiteral) (es es' : Vec (Expression × StringLiteral)) → AreInterpolationsNumbered number es.items es'.items → IsNumbered number (e.FormatString start es) (e.FormatString start es')
format_numbered number start es es' interpolations = record {
  shape = search (rules, the_lemmas, interpolations.shapes);
  texts = search (rules, the_lemmas, interpolations.texts);
  tokens = search (rules, the_lemmas, interpolations.tokens);
  literals = search (rules, the_lemmas, interpolations.literals);
  numbers = search (rules, the_lemmas, interpolations.numbers, numbers_of_interpolations);
}

pub join_numbered : (number : List ℕ → Option ℕ) (l l' : Option (Box Expression)) (r r' : Box Expression) (token : Token) → IsNumberedIfThere number l l' → IsNumbered number r.value r'.value → IsNumbered number (e.Join l token r) (e.Join l' token r')
join_numbered number None None r r' token left right = record {
  shape = search (rules, the_lemmas, right.shape);
  texts = search (rules, the_lemmas, right.texts);
  tokens = search (rules, the_lemmas, right.tokens);
  literals = search (rules, the_lemmas, right.literals);
  numbers = search (rules, the_lemmas, right.numbers);
}
join_numbered number (Some l) (Some l') r r' token left right = record {
  shape = search (rules, the_lemmas, left.shape, right.shape);
  texts = search (rules, the_lemmas, left.texts, right.texts);
  tokens = search (rules, the_lemmas, left.tokens, right.tokens);
  literals = search (rules, the_lemmas, left.literals, right.literals);
  numbers = search (rules, the_lemmas, two, left.numbers, right.numbers);
}
join_numbered number None (Some l') r r' token left right = absurd left
join_numbered number (Some l) None r r' token left right = absurd left

pub assert_numbered : (number : List ℕ → Option ℕ) (l l' : Box Expression) (r r' : Option (Box Expression)) (name : Name) → IsNumberedIfThere number r r' → IsNumbered number l.value l'.value → IsNumbered number (e.Assert l r name) (e.Assert l' r' name)
assert_numbered number l l' None None name right left = record {
  shape = search (rules, the_lemmas, left.shape);
  texts = search (rules, the_lemmas, left.texts);
  tokens = search (rules, the_lemmas, left.tokens);
  literals = search (rules, the_lemmas, left.literals);
  numbers = search (rules, the_lemmas, left.numbers);
}
assert_numbered number l l' (Some r) (Some r') name right left = record {
  shape = search (rules, the_lemmas, left.shape, right.shape);
  texts = search (rules, the_lemmas, left.texts, right.texts);
  tokens = search (rules, the_lemmas, left.tokens, right.tokens);
  literals = search (rules, the_lemmas, left.literals, right.literals);
  numbers = search (rules, the_lemmas, two, left.numbers, right.numbers);
}
assert_numbered number l l' None (Some r') name right left = absurd right
assert_numbered number l l' (Some r) None name right left = absurd right

pub conditional_numbered : (number : List ℕ → Option ℕ) (l r l' r' : Box Expression) (o o' : Option (Box Expression)) → IsNumberedIfThere number o o' → IsNumbered number l.value l'.value → IsNumbered number r.value r'.value → IsNumbered number (e.Conditional l r o) (e.Conditional l' r' o')
conditional_numbered number l r l' r' None None other left right = record {
  shape = search (rules, the_lemmas, left.shape, right.shape);
  texts = search (rules, the_lemmas, left.texts, right.texts);
  tokens = search (rules, the_lemmas, left.tokens, right.tokens);
  literals = search (rules, the_lemmas, left.literals, right.literals);
  numbers = search (rules, the_lemmas, two, left.numbers, right.numbers);
}
conditional_numbered number l r l' r' (Some o) (Some o') other left right = record {
  shape = search (rules, the_lemmas, left.shape, right.shape, other.shape);
  texts = search (rules, the_lemmas, left.texts, right.texts, other.texts);
  tokens = search (rules, the_lemmas, left.tokens, right.tokens, other.tokens);
  literals = search (rules, the_lemmas, left.literals, right.literals, other.literals);
  numbers = search (rules, the_lemmas, three, left.numbers, right.numbers, other.numbers);
}
conditional_numbered number l r l' r' None (Some o') other left right = absurd other
conditional_numbered number l r l' r' (Some o) None other left right = absurd other
