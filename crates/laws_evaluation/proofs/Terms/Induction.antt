-- The induction over expressions: what is true of an expression wherever it is true of each part is true of all.
use Rattle.std.proofs.Common.{List, [], ◌∷◌, map, Some, None, subst}
use Rattle.std.specs.List.{AllByRecursion}
use Rattle.tree_expressions.specs.declared.string_literal.StringLiteral.{StringLiteral}
use Rattle.tree_expressions.specs.declared.expression.Expression.{Expression, roll-Expression, map-Expression}
use Rattle.tree_expressions.specs.declared.expression.Expression.TheOpen.{Expression-F}
use Rattle.tree_expressions.specs.declared.expression.Expression.TheFolds.{ind-Expression}
use Rattle.laws_evaluation.specs.Terms.Parts.{EachPart}

module _ (P : Expression → Type 0) where
  -- an expression of which P is true
  abbrev Proved : Type 0
  Proved = (e : Expression) × P e

  row : (es : List Proved) → AllByRecursion P (map (λ e. e.0) es)
  row [] = tt
  row (e ∷ es) = (e.1, row es)

  interpolations : (es : List (Proved × StringLiteral)) → AllByRecursion (λ (e : Expression × StringLiteral). P e.0) (map (λ e. (e.0.0, e.1)) es)
  interpolations [] = tt
  interpolations (e ∷ es) = (e.0.1, interpolations es)

  parts : (level : Expression-F Proved) → EachPart P (map-Expression Proved Expression (λ e. e.0) level)
  parts (Expression-F.And l r) = (l.value.1, r.value.1)
  parts (Expression-F.Assert c None name) = c.value.1
  parts (Expression-F.Assert c (Some m) name) = (c.value.1, m.value.1)
  parts (Expression-F.Backtick contents token) = tt
  parts (Expression-F.Call name es) = row es.items
  parts (Expression-F.Comparison l operator r token) = (l.value.1, r.value.1)
  parts (Expression-F.Concatenation l token r) = (l.value.1, r.value.1)
  parts (Expression-F.Conditional c t None) = (c.value.1, t.value.1)
  parts (Expression-F.Conditional c t (Some o)) = (c.value.1, t.value.1, o.value.1)
  parts (Expression-F.FormatString start es) = interpolations es.items
  parts (Expression-F.Group e) = e.value.1
  parts (Expression-F.Join None token r) = r.value.1
  parts (Expression-F.Join (Some l) token r) = (l.value.1, r.value.1)
  parts (Expression-F.List es token) = row es.items
  parts (Expression-F.ListConcatenation l token r) = (l.value.1, r.value.1)
  parts (Expression-F.Not e) = e.value.1
  parts (Expression-F.Or l r) = (l.value.1, r.value.1)
  parts (Expression-F.StringLiteral s) = tt
  parts (Expression-F.Variable name number) = tt

  -- where P is true of each expression of whose parts it is true, it is true of all
  pub induction : ((level : Expression-F Expression) → EachPart P level → P (roll-Expression level)) → (e : Expression) → P e
  induction step = ind-Expression P (λ level inside same. subst (λ z. P (roll-Expression z)) same (step (map-Expression Proved Expression (λ e. e.0) inside) (parts inside)))

module _ (P Q : Expression → Type 0) where
  row_applied : (es : List Expression) → AllByRecursion (λ e. P e → Q e) es → AllByRecursion P es → AllByRecursion Q es
  row_applied [] f h = tt
  row_applied (e ∷ es) f h = (f.0 h.0, row_applied es f.1 h.1)

  interpolations_applied : (es : List (Expression × StringLiteral)) → AllByRecursion (λ (e : Expression × StringLiteral). P e.0 → Q e.0) es → AllByRecursion (λ (e : Expression × StringLiteral). P e.0) es
      → AllByRecursion (λ (e : Expression × StringLiteral). Q e.0) es
  interpolations_applied [] f h = tt
  interpolations_applied (e ∷ es) f h = (f.0 h.0, interpolations_applied es f.1 h.1)

  -- where Q follows from P at each part, and P is true of each, Q is
  pub applied : (level : Expression-F Expression) → EachPart (λ e. P e → Q e) level → EachPart P level → EachPart Q level
  applied (Expression-F.And l r) f h = (f.0 h.0, f.1 h.1)
  applied (Expression-F.Assert c None name) f h = f h
  applied (Expression-F.Assert c (Some m) name) f h = (f.0 h.0, f.1 h.1)
  applied (Expression-F.Backtick contents token) f h = tt
  applied (Expression-F.Call name es) f h = row_applied es.items f h
  applied (Expression-F.Comparison l operator r token) f h = (f.0 h.0, f.1 h.1)
  applied (Expression-F.Concatenation l token r) f h = (f.0 h.0, f.1 h.1)
  applied (Expression-F.Conditional c t None) f h = (f.0 h.0, f.1 h.1)
  applied (Expression-F.Conditional c t (Some o)) f h = (f.0 h.0, f.1 h.1, f.2 h.2)
  applied (Expression-F.FormatString start es) f h = interpolations_applied es.items f h
  applied (Expression-F.Group e) f h = f h
  applied (Expression-F.Join None token r) f h = f h
  applied (Expression-F.Join (Some l) token r) f h = (f.0 h.0, f.1 h.1)
  applied (Expression-F.List es token) f h = row_applied es.items f h
  applied (Expression-F.ListConcatenation l token r) f h = (f.0 h.0, f.1 h.1)
  applied (Expression-F.Not e) f h = f h
  applied (Expression-F.Or l r) f h = (f.0 h.0, f.1 h.1)
  applied (Expression-F.StringLiteral s) f h = tt
  applied (Expression-F.Variable name number) f h = tt
