-- The names of an expression's variables are those of its shape, so they stay where variables get their numbers.
use Rattle.std.proofs.Common.{◌≡◌, ℕ, List, [], ◌∷◌, ◌++◌, map, Some, None, refl, subst, sym, ap, ap₂, ◌∙◌}
use Rattle.std.specs.List.{flat_map}
use Rattle.tree_expressions.specs.declared.string_literal.StringLiteral.{StringLiteral}
use Rattle.tree_expressions.specs.declared.expression.Expression.{Expression, map-Expression}
use Rattle.tree_expressions.specs.declared.expression.Expression.TheOpen.{Expression-F}
use Rattle.tree_expressions.specs.declared.expression.Expression.TheFolds.{fold-roll-Expression, ind-Expression}
use Rattle.tree_expressions.specs.Numbering.{variables_of, names_step, beside}
use Rattle.tree_expressions.specs.Shape.{Shape, Shapes, Interpolations, literal, command, format, variable, call, assertion, assertion_alone, group, listing, choice, choice_alone, negation, rooted, binary, end, more, closed, interpolation, shape_step, shape_of, shapes_of, interpolations_of}

abbrev mutual
  -- the names of a shape's variables, in order
  pub variables_in : Shape → List (List ℕ)
  variables_in (literal s) = []
  variables_in (command s) = []
  variables_in (format s hs) = variables_in_interpolations hs
  variables_in (variable x) = x ∷ []
  variables_in (call f es) = variables_in_all es
  variables_in (assertion c m) = variables_in c ++ variables_in m
  variables_in (assertion_alone c) = variables_in c
  variables_in (group e) = variables_in e
  variables_in (listing es) = variables_in_all es
  variables_in (choice c t o) = variables_in c ++ variables_in t ++ variables_in o
  variables_in (choice_alone c t) = variables_in c ++ variables_in t
  variables_in (negation e) = variables_in e
  variables_in (rooted e) = variables_in e
  variables_in (binary operator l r) = variables_in l ++ variables_in r

  pub variables_in_all : Shapes → List (List ℕ)
  variables_in_all end = []
  variables_in_all (more e es) = variables_in e ++ variables_in_all es

  pub variables_in_interpolations : Interpolations → List (List ℕ)
  variables_in_interpolations closed = []
  variables_in_interpolations (interpolation e part hs) = variables_in e ++ variables_in_interpolations hs

abbrev AreOfShape : Expression → Type 0
AreOfShape e = variables_of e ≡ variables_in (shape_of e)

-- an expression with the names of its shape
abbrev Known : Type 0
Known = (e : Expression) × AreOfShape e

expression_of : Known → Expression
expression_of known = known.0

row : (es : List Known) → flat_map (λ e. e) (map variables_of (map (λ e. e.0) es)) ≡ variables_in_all (shapes_of (map (λ e. e.0) es))
row [] = refl
row (e ∷ es) = ap₂ ◌++◌ e.1 (row es)

interpolations : (es : List (Known × StringLiteral)) → flat_map (λ e. e.0) (map (beside variables_of) (map (λ e. (e.0.0, e.1)) es)) ≡ variables_in_interpolations (interpolations_of (map (λ e. (e.0.0, e.1)) es))
interpolations [] = refl
interpolations (e ∷ es) = ap₂ ◌++◌ e.0.1 (interpolations es)

-- one level, of whose parts it is known
level_variables : (level : Expression-F Known) → names_step (map-Expression Expression (List (List ℕ)) variables_of (map-Expression Known Expression (λ e. e.0) level)) ≡ variables_in (shape_step (map-Expression Expression Shape shape_of (map-Expression Known Expression (λ e. e.0) level)))
level_variables (Expression-F.And l r) = ap₂ ◌++◌ l.value.1 r.value.1
level_variables (Expression-F.Assert c None name) = c.value.1
level_variables (Expression-F.Assert c (Some m) name) = ap₂ ◌++◌ c.value.1 m.value.1
level_variables (Expression-F.Backtick contents token) = refl
level_variables (Expression-F.Call name es) = row es.items
level_variables (Expression-F.Comparison l operator r token) = ap₂ ◌++◌ l.value.1 r.value.1
level_variables (Expression-F.Concatenation l token r) = ap₂ ◌++◌ l.value.1 r.value.1
level_variables (Expression-F.Conditional c t None) = ap₂ ◌++◌ c.value.1 t.value.1
level_variables (Expression-F.Conditional c t (Some o)) = ap₂ ◌++◌ (ap₂ ◌++◌ c.value.1 t.value.1) o.value.1
level_variables (Expression-F.FormatString start es) = interpolations es.items
level_variables (Expression-F.Group e) = e.value.1
level_variables (Expression-F.Join None token r) = r.value.1
level_variables (Expression-F.Join (Some l) token r) = ap₂ ◌++◌ l.value.1 r.value.1
level_variables (Expression-F.List es token) = row es.items
level_variables (Expression-F.ListConcatenation l token r) = ap₂ ◌++◌ l.value.1 r.value.1
level_variables (Expression-F.Not e) = e.value.1
level_variables (Expression-F.Or l r) = ap₂ ◌++◌ l.value.1 r.value.1
level_variables (Expression-F.StringLiteral s) = refl
level_variables (Expression-F.Variable name number) = refl

-- one level of an expression
abbrev IsOfShapeAt : Expression-F Expression → Type 0
IsOfShapeAt level = names_step (map-Expression Expression (List (List ℕ)) variables_of level) ≡ variables_in (shape_step (map-Expression Expression Shape shape_of level))

-- the names of an expression's variables are those of its shape
variables_are : (e : Expression) → variables_of e ≡ variables_in (shape_of e)
variables_are = ind-Expression AreOfShape (λ level inside same. fold-roll-Expression (List (List ℕ)) names_step level ∙ subst IsOfShapeAt same (level_variables inside) ∙ sym (ap variables_in (fold-roll-Expression Shape shape_step level)))

-- expressions of the same shape have variables of the same names
pub same_variables : (old new : Expression) → shape_of new ≡ shape_of old → variables_of new ≡ variables_of old
same_variables old new same = variables_are new ∙ ap variables_in same ∙ sym (variables_are old)
