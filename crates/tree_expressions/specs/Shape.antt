-- The tree of an expression without places: strings, parts and commands by their lexemes.
use Rattle.std.specs.Prelude.{ℕ, List, [], ◌∷◌, map, Option, Some, None}
use Rattle.std.specs.Option.{option_map}
use Rattle.std.specs.Global.{Box}
use Rattle.just_text.specs.Tokens.{lexeme}
use Rattle.tree_expressions.specs.declared.string_literal.StringLiteral.{StringLiteral}
use Rattle.tree_expressions.specs.declared.expression.Expression.{Expression, fold-Expression}
use Rattle.tree_expressions.specs.declared.expression.Expression.TheOpen.{Expression-F}
use Rattle.tree_expressions.specs.Operators.{Binary, disjunction, conjunction, comparison, appending, concatenation, joining}

mutual
  -- an expression
  pub data Shape : Type 0 where
    literal : List ℕ → Shape
    command : List ℕ → Shape
    format : List ℕ → Interpolations → Shape
    variable : List ℕ → Shape
    call : List ℕ → Shapes → Shape
    assertion : Shape → Shape → Shape
    assertion_alone : Shape → Shape
    group : Shape → Shape
    listing : Shapes → Shape
    choice : Shape → Shape → Shape → Shape
    choice_alone : Shape → Shape → Shape
    negation : Shape → Shape
    rooted : Shape → Shape
    binary : Binary → Shape → Shape → Shape

  -- a row of expressions
  pub data Shapes : Type 0 where
    end : Shapes
    more : Shape → Shapes → Shapes

  -- the interpolations of a format string, each with the part after it
  pub data Interpolations : Type 0 where
    closed : Interpolations
    interpolation : Shape → List ℕ → Interpolations → Interpolations

abbrev pub shapes_from : List Shape → Shapes
shapes_from [] = end
shapes_from (e ∷ es) = more e (shapes_from es)

-- the text of a string or of a part of a format string, as it is written
abbrev pub written : StringLiteral → List ℕ
written s = lexeme s.token

abbrev pub interpolations_from : List (Shape × StringLiteral) → Interpolations
interpolations_from [] = closed
interpolations_from ((e, part) ∷ es) = interpolation e (written part) (interpolations_from es)

-- one level, with the shape of each expression inside
abbrev pub shape_step : Expression-F Shape → Shape
shape_step (Expression-F.And l r) = binary conjunction l.value r.value
shape_step (Expression-F.Assert c None name) = assertion_alone c.value
shape_step (Expression-F.Assert c (Some m) name) = assertion c.value m.value
shape_step (Expression-F.Backtick contents token) = command (lexeme token)
shape_step (Expression-F.Call name es) = call (lexeme name.token) (shapes_from es.items)
shape_step (Expression-F.Comparison l operator r token) = binary (comparison operator) l.value r.value
shape_step (Expression-F.Concatenation l token r) = binary concatenation l.value r.value
shape_step (Expression-F.Conditional c t None) = choice_alone c.value t.value
shape_step (Expression-F.Conditional c t (Some o)) = choice c.value t.value o.value
shape_step (Expression-F.FormatString start es) = format (written start) (interpolations_from es.items)
shape_step (Expression-F.Group e) = group e.value
shape_step (Expression-F.Join None token r) = rooted r.value
shape_step (Expression-F.Join (Some l) token r) = binary joining l.value r.value
shape_step (Expression-F.List es token) = listing (shapes_from es.items)
shape_step (Expression-F.ListConcatenation l token r) = binary appending l.value r.value
shape_step (Expression-F.Not e) = negation e.value
shape_step (Expression-F.Or l r) = binary disjunction l.value r.value
shape_step (Expression-F.StringLiteral s) = literal (written s)
shape_step (Expression-F.Variable name number) = variable (lexeme name.token)

abbrev pub shape_of : Expression → Shape
shape_of = fold-Expression Shape shape_step

abbrev pub shapes_of : List Expression → Shapes
shapes_of es = shapes_from (map shape_of es)

-- the shape of what is there
abbrev pub inner_shape : Option (Box Expression) → Option Shape
inner_shape o = option_map (λ e. shape_of e.value) o

-- the shapes of interpolations and of the parts after them
abbrev pub interpolations_of : List (Expression × StringLiteral) → Interpolations
interpolations_of es = interpolations_from (map (λ e. (shape_of e.0, e.1)) es)
