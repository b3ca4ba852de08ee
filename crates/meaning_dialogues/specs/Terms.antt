-- What an expression says: its tree without places, with the texts that strings and commands stand for.
use Rattle.std.specs.Prelude.{ℕ, List, [], ◌∷◌, map, Option, Some, None, Bool}
use Rattle.just_text.specs.Tokens.{lexeme}
use Rattle.tree_expressions.specs.Printing.{text_of}
use Rattle.tree_expressions.specs.Shape.{Shape, Shapes, Interpolations, written}
use Rattle.tree_expressions.specs.Shape as shapes
use Rattle.tree_expressions.specs.Operators.{disjunction, conjunction, appending, concatenation, joining}
use Rattle.tree_expressions.specs.Operators as operators
use Rattle.tree_expressions.specs.declared.operator.ListOperator.{ListOperator}
use Rattle.tree_expressions.specs.declared.operator.ListOperator.TheVariants.{Concatenate, Join}
use Rattle.tree_expressions.specs.declared.operator.ConditionalOperator.{ConditionalOperator}
use Rattle.tree_expressions.specs.declared.string_literal.StringLiteral.{StringLiteral}
use Rattle.tree_expressions.specs.declared.expression.Expression.{Expression, fold-Expression}
use Rattle.tree_expressions.specs.declared.expression.Expression.TheOpen.{Expression-F}

mutual
  pub data Term : Type 0 where
    -- what it stands for, and as it is written
    literal : List ℕ → List ℕ → Term
    command : List ℕ → List ℕ → Term
    -- the same of its first part, then whether it is laid out, and what follows
    format : List ℕ → List ℕ → Bool → Holes → Term
    -- its name, and the number that it was resolved to
    variable : List ℕ → Option ℕ → Term
    -- its name, the path of the file that it stands in, and its arguments
    call : List ℕ → List ℕ → Terms → Term
    -- a condition with a message
    assertion : Term → Term → Term
    assertion_alone : Term → Term
    both : Term → Term → Term
    either : Term → Term → Term
    negation : Term → Term
    comparison : ConditionalOperator → Term → Term → Term
    paired : ListOperator → Term → Term → Term
    rooted : Term → Term
    appended : Term → Term → Term
    choice : Term → Term → Term → Term
    choice_alone : Term → Term → Term
    listing : Terms → Term
    group : Term → Term

  pub data Terms : Type 0 where
    end : Terms
    more : Term → Terms → Terms

  -- interpolations, each with the part after it: what that stands for, and as it is written
  pub data Holes : Type 0 where
    closed : Holes
    hole : Term → List ℕ → List ℕ → Holes → Holes

abbrev pub terms_from : List Term → Terms
terms_from [] = end
terms_from (e ∷ es) = more e (terms_from es)

abbrev pub holes_from : List (Term × StringLiteral) → Holes
holes_from [] = closed
holes_from ((e, part) ∷ es) = hole e part.cooked (written part) (holes_from es)

-- one level, with the term of each expression inside
abbrev pub term_step : Expression-F Term → Term
term_step (Expression-F.And l r) = both l.value r.value
term_step (Expression-F.Assert c None name) = assertion_alone c.value
term_step (Expression-F.Assert c (Some m) name) = assertion c.value m.value
term_step (Expression-F.Backtick contents token) = command contents (lexeme token)
term_step (Expression-F.Call name es) = call (lexeme name.token) name.token.path.now (terms_from es.items)
term_step (Expression-F.Comparison l operator r token) = comparison operator l.value r.value
term_step (Expression-F.Concatenation l token r) = paired Concatenate l.value r.value
term_step (Expression-F.Conditional c t None) = choice_alone c.value t.value
term_step (Expression-F.Conditional c t (Some o)) = choice c.value t.value o.value
term_step (Expression-F.FormatString start es) = format start.cooked (written start) start.kind.tripled (holes_from es.items)
term_step (Expression-F.Group e) = group e.value
term_step (Expression-F.Join None token r) = rooted r.value
term_step (Expression-F.Join (Some l) token r) = paired Join l.value r.value
term_step (Expression-F.List es token) = listing (terms_from es.items)
term_step (Expression-F.ListConcatenation l token r) = appended l.value r.value
term_step (Expression-F.Not e) = negation e.value
term_step (Expression-F.Or l r) = either l.value r.value
term_step (Expression-F.StringLiteral s) = literal s.cooked (written s)
term_step (Expression-F.Variable name number) = variable (lexeme name.token) number

abbrev pub term_of : Expression → Term
term_of = fold-Expression Term term_step

abbrev pub terms_of : List Expression → Terms
terms_of es = terms_from (map term_of es)

abbrev pub holes_of : List (Expression × StringLiteral) → Holes
holes_of es = holes_from (map (λ e. (term_of e.0, e.1)) es)

abbrev mutual
  -- the shape of a term
  pub shape_in : Term → Shape
  shape_in (literal cooked text) = shapes.literal text
  shape_in (command contents text) = shapes.command text
  shape_in (format cooked text tripled holes) = shapes.format text (interpolations_in holes)
  shape_in (variable name number) = shapes.variable name
  shape_in (call name file arguments) = shapes.call name (shapes_in arguments)
  shape_in (assertion condition message) = shapes.assertion (shape_in condition) (shape_in message)
  shape_in (assertion_alone condition) = shapes.assertion_alone (shape_in condition)
  shape_in (both l r) = shapes.binary conjunction (shape_in l) (shape_in r)
  shape_in (either l r) = shapes.binary disjunction (shape_in l) (shape_in r)
  shape_in (negation e) = shapes.negation (shape_in e)
  shape_in (comparison operator l r) = shapes.binary (operators.comparison operator) (shape_in l) (shape_in r)
  shape_in (paired Concatenate l r) = shapes.binary concatenation (shape_in l) (shape_in r)
  shape_in (paired Join l r) = shapes.binary joining (shape_in l) (shape_in r)
  shape_in (rooted r) = shapes.rooted (shape_in r)
  shape_in (appended l r) = shapes.binary appending (shape_in l) (shape_in r)
  shape_in (choice c t o) = shapes.choice (shape_in c) (shape_in t) (shape_in o)
  shape_in (choice_alone c t) = shapes.choice_alone (shape_in c) (shape_in t)
  shape_in (listing es) = shapes.listing (shapes_in es)
  shape_in (group e) = shapes.group (shape_in e)

  pub shapes_in : Terms → Shapes
  shapes_in end = shapes.end
  shapes_in (more e es) = shapes.more (shape_in e) (shapes_in es)

  pub interpolations_in : Holes → Interpolations
  interpolations_in closed = shapes.closed
  interpolations_in (hole e cooked text es) = shapes.interpolation (shape_in e) text (interpolations_in es)

-- how a term is printed
abbrev pub printed : Term → List ℕ
printed term = text_of (shape_in term)
