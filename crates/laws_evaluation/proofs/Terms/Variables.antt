-- The names of an expression's variables are those of its shape, so an expression that was numbered has the numbers of its names.
use Rattle.std.proofs.Common.{◌≡◌, ℕ, List, [], ◌∷◌, ◌++◌, map, Option, Some, None, refl, sym, ap, ap₂, ◌∙◌}
use Rattle.std.specs.List.{AllByRecursion, flat_map}
use Rattle.tree_expressions.specs.declared.string_literal.StringLiteral.{StringLiteral}
use Rattle.tree_expressions.specs.declared.expression.Expression.{Expression, map-Expression}
use Rattle.tree_expressions.specs.declared.expression.Expression.TheOpen.{Expression-F}
use Rattle.tree_expressions.specs.declared.expression.Expression.TheFolds.{fold-roll-Expression}
use Rattle.tree_expressions.specs.Numbering.{variables_of, names_step, beside, IsNumbered}
use Rattle.tree_expressions.specs.Shape.{Shape, shape_step, shape_of, shapes_of, interpolations_of}
use Rattle.laws_evaluation.specs.Terms.Parts.{EachPart}
use Rattle.laws_evaluation.specs.Terms.Own.{HasNumbers}
use Rattle.laws_evaluation.specs.Terms.Variables.{variables_in, variables_in_all, variables_in_interpolations}
use Rattle.laws_evaluation.proofs.Terms.Induction.{induction}

abbrev AreOfShape : Expression → Type 0
AreOfShape e = variables_of e ≡ variables_in (shape_of e)

row : (es : List Expression) → AllByRecursion AreOfShape es → flat_map (λ e. e) (map variables_of es) ≡ variables_in_all (shapes_of es)
row [] h = refl
row (e ∷ es) h = ap₂ ◌++◌ h.0 (row es h.1)

interpolations : (es : List (Expression × StringLiteral)) → AllByRecursion (λ (e : Expression × StringLiteral). AreOfShape e.0) es → flat_map (λ e. e.0) (map (beside variables_of) es) ≡ variables_in_interpolations (interpolations_of es)
interpolations [] h = refl
interpolations (e ∷ es) h = ap₂ ◌++◌ h.0 (interpolations es h.1)

level_variables : (level : Expression-F Expression) → EachPart AreOfShape level
    → names_step (map-Expression Expression (List (List ℕ)) variables_of level) ≡ variables_in (shape_step (map-Expression Expression Shape shape_of level))
level_variables (Expression-F.And l r) h = ap₂ ◌++◌ h.0 h.1
level_variables (Expression-F.Assert c None name) h = h
level_variables (Expression-F.Assert c (Some m) name) h = ap₂ ◌++◌ h.0 h.1
level_variables (Expression-F.Backtick contents token) h = refl
level_variables (Expression-F.Call name es) h = row es.items h
level_variables (Expression-F.Comparison l operator r token) h = ap₂ ◌++◌ h.0 h.1
level_variables (Expression-F.Concatenation l token r) h = ap₂ ◌++◌ h.0 h.1
level_variables (Expression-F.Conditional c t None) h = ap₂ ◌++◌ h.0 h.1
level_variables (Expression-F.Conditional c t (Some o)) h = ap₂ ◌++◌ (ap₂ ◌++◌ h.0 h.1) h.2
level_variables (Expression-F.FormatString start es) h = interpolations es.items h
level_variables (Expression-F.Group e) h = h
level_variables (Expression-F.Join None token r) h = h
level_variables (Expression-F.Join (Some l) token r) h = ap₂ ◌++◌ h.0 h.1
level_variables (Expression-F.List es token) h = row es.items h
level_variables (Expression-F.ListConcatenation l token r) h = ap₂ ◌++◌ h.0 h.1
level_variables (Expression-F.Not e) h = h
level_variables (Expression-F.Or l r) h = ap₂ ◌++◌ h.0 h.1
level_variables (Expression-F.StringLiteral s) h = refl
level_variables (Expression-F.Variable name number) h = refl

-- the names of an expression's variables are those of its shape
pub variables_are : (e : Expression) → variables_of e ≡ variables_in (shape_of e)
variables_are = induction AreOfShape (λ level h. fold-roll-Expression (List (List ℕ)) names_step level ∙ level_variables level h ∙ sym (ap variables_in (fold-roll-Expression Shape shape_step level)))

-- where an expression was numbered, the variables have the names that they had
pub same_variables : (number : List ℕ → Option ℕ) (old new : Expression) → IsNumbered number old new → variables_of new ≡ variables_of old
same_variables number old new h = variables_are new ∙ ap variables_in h.shape ∙ sym (variables_are old)

-- where an expression was numbered, each variable has the number of its name
pub numbered_has : (number : List ℕ → Option ℕ) (old new : Expression) → IsNumbered number old new → HasNumbers number new
numbered_has number old new h = h.numbers ∙ sym (ap (map number) (same_variables number old new h))
