-- What is true of an expression and of its parts, form by form.
use Rattle.std.proofs.Common.{ℕ, List, Option, Some, None, sym, subst}
use Rattle.std.specs.Global.{Box, Vec}
use Rattle.std.specs.List.{AllByRecursion}
use Rattle.just_text.specs.declared.name.Name.{Name}
use Rattle.just_text.specs.declared.token.Token.{Token}
use Rattle.tree_expressions.specs.declared.string_literal.StringLiteral.{StringLiteral}
use Rattle.tree_expressions.specs.declared.operator.ConditionalOperator.{ConditionalOperator}
use Rattle.tree_expressions.specs.declared.expression.Expression.{Expression}
use Rattle.tree_expressions.specs.declared.expression.Expression as e
use Rattle.tree_expressions.specs.declared.expression.Expression.TheOpen.{Expression-F}
use Rattle.tree_expressions.specs.declared.expression.Expression.TheVariants.{rolls-And, rolls-Assert, rolls-Backtick, rolls-Call, rolls-Comparison, rolls-Concatenation, rolls-Conditional, rolls-FormatString, rolls-Group, rolls-Join, rolls-List, rolls-ListConcatenation, rolls-Not, rolls-Or, rolls-StringLiteral, rolls-Variable}
use Rattle.laws_evaluation.specs.Terms.Parts.{TrueOfParts}

module _ {P : Expression → Type 0} {Level : Expression-F Expression → Type 0} (law : TrueOfParts P Level) where
  -- `lhs && rhs`
  pub and_parts : (l r : Box Expression) → P (e.And l r) → P l.value × P r.value
  and_parts l r h = (law.at (Expression-F.And l r) (subst P (sym (rolls-And l r)) h)).1

  -- `assert(condition)`
  pub assert_part : (c : Box Expression) (name : Name) → P (e.Assert c None name) → Level (Expression-F.Assert c None name) × P c.value
  assert_part c name h = law.at (Expression-F.Assert c None name) (subst P (sym (rolls-Assert c None name)) h)

  -- `assert(condition, message)`
  pub assert_parts : (c m : Box Expression) (name : Name) → P (e.Assert c (Some m) name) → Level (Expression-F.Assert c (Some m) name) × (P c.value × P m.value)
  assert_parts c m name h = law.at (Expression-F.Assert c (Some m) name) (subst P (sym (rolls-Assert c (Some m) name)) h)

  -- a command
  pub command_level : (contents : List ℕ) (token : Token) → P (e.Backtick contents token) → Level (Expression-F.Backtick contents token)
  command_level contents token h = (law.at (Expression-F.Backtick contents token) (subst P (sym (rolls-Backtick contents token)) h)).0

  -- `name(argument, argument)`
  pub call_parts : (name : Name) (es : Vec Expression) → P (e.Call name es) → Level (Expression-F.Call name es) × AllByRecursion P es.items
  call_parts name es h = law.at (Expression-F.Call name es) (subst P (sym (rolls-Call name es)) h)

  -- `lhs == rhs` and the like
  pub comparison_parts : (l : Box Expression) (operator : ConditionalOperator) (r : Box Expression) (token : Token) → P (e.Comparison l operator r token) → P l.value × P r.value
  comparison_parts l operator r token h = (law.at (Expression-F.Comparison l operator r token) (subst P (sym (rolls-Comparison l operator r token)) h)).1

  -- `lhs + rhs`
  pub concatenation_parts : (l : Box Expression) (token : Token) (r : Box Expression) → P (e.Concatenation l token r) → P l.value × P r.value
  concatenation_parts l token r h = (law.at (Expression-F.Concatenation l token r) (subst P (sym (rolls-Concatenation l token r)) h)).1

  -- `if condition { then }`
  pub choice_alone_parts : (c t : Box Expression) → P (e.Conditional c t None) → P c.value × P t.value
  choice_alone_parts c t h = (law.at (Expression-F.Conditional c t None) (subst P (sym (rolls-Conditional c t None)) h)).1

  -- `if condition { then } else { otherwise }`
  pub choice_parts : (c t o : Box Expression) → P (e.Conditional c t (Some o)) → P c.value × P t.value × P o.value
  choice_parts c t o h = (law.at (Expression-F.Conditional c t (Some o)) (subst P (sym (rolls-Conditional c t (Some o))) h)).1

  -- a string with interpolations
  pub format_parts : (start : StringLiteral) (es : Vec (Expression × StringLiteral)) → P (e.FormatString start es) → Level (Expression-F.FormatString start es) × AllByRecursion (λ (e : Expression × StringLiteral). P e.0) es.items
  format_parts start es h = law.at (Expression-F.FormatString start es) (subst P (sym (rolls-FormatString start es)) h)

  -- `(contents)`
  pub group_part : (e' : Box Expression) → P (e.Group e') → P e'.value
  group_part e' h = (law.at (Expression-F.Group e') (subst P (sym (rolls-Group e')) h)).1

  -- `/ rhs`
  pub root_join_part : (token : Token) (r : Box Expression) → P (e.Join None token r) → P r.value
  root_join_part token r h = (law.at (Expression-F.Join None token r) (subst P (sym (rolls-Join None token r)) h)).1

  -- `lhs / rhs`
  pub join_parts : (l : Box Expression) (token : Token) (r : Box Expression) → P (e.Join (Some l) token r) → P l.value × P r.value
  join_parts l token r h = (law.at (Expression-F.Join (Some l) token r) (subst P (sym (rolls-Join (Some l) token r)) h)).1

  -- `[element, element]`
  pub list_parts : (es : Vec Expression) (token : Token) → P (e.List es token) → AllByRecursion P es.items
  list_parts es token h = (law.at (Expression-F.List es token) (subst P (sym (rolls-List es token)) h)).1

  -- `lhs ++ rhs`
  pub list_concatenation_parts : (l : Box Expression) (token : Token) (r : Box Expression) → P (e.ListConcatenation l token r) → P l.value × P r.value
  list_concatenation_parts l token r h = (law.at (Expression-F.ListConcatenation l token r) (subst P (sym (rolls-ListConcatenation l token r)) h)).1

  -- `!operand`
  pub not_part : (operand : Box Expression) → P (e.Not operand) → P operand.value
  not_part operand h = (law.at (Expression-F.Not operand) (subst P (sym (rolls-Not operand)) h)).1

  -- `lhs || rhs`
  pub or_parts : (l r : Box Expression) → P (e.Or l r) → P l.value × P r.value
  or_parts l r h = (law.at (Expression-F.Or l r) (subst P (sym (rolls-Or l r)) h)).1

  -- a string
  pub string_level : (s : StringLiteral) → P (e.StringLiteral s) → Level (Expression-F.StringLiteral s)
  string_level s h = (law.at (Expression-F.StringLiteral s) (subst P (sym (rolls-StringLiteral s)) h)).0

  -- a variable
  pub variable_level : (name : Name) (number : Option ℕ) → P (e.Variable name number) → Level (Expression-F.Variable name number)
  variable_level name number h = (law.at (Expression-F.Variable name number) (subst P (sym (rolls-Variable name number)) h)).0
