-- Where each variable has the number of its name, a term keeps its numbers.
use Rattle.std.proofs.Common.{◌≡◌, ℕ, List, [], ◌∷◌, Option, Some, None, refl, sym, ap, ap₂, ◌∙◌}
use Rattle.std.specs.List.{AllByRecursion}
use Rattle.just_text.specs.Tokens.{lexeme}
use Rattle.tree_expressions.specs.declared.string_literal.StringLiteral.{StringLiteral}
use Rattle.tree_expressions.specs.declared.operator.ListOperator.TheVariants.{Concatenate, Join}
use Rattle.tree_expressions.specs.declared.expression.Expression.{Expression, roll-Expression, map-Expression}
use Rattle.tree_expressions.specs.declared.expression.Expression.TheOpen.{Expression-F}
use Rattle.tree_expressions.specs.declared.expression.Expression.TheFolds.{fold-roll-Expression}
use Rattle.tree_expressions.specs.Shape.{written}
use Rattle.meaning_dialogues.specs.Terms.{Term, term_step, term_of, terms_of, holes_of, format, variable, call, assertion, assertion_alone, both, either, negation, comparison, paired, rooted, appended, choice_alone, listing, group, more}
use Rattle.laws_evaluation.specs.Terms.Parts.{EachPart}
use Rattle.laws_evaluation.specs.Terms.Own.{HasNumbers, HasLevelNumber}
use Rattle.laws_evaluation.specs.Terms.Renumbering.{renumbered, renumbered_all, renumbered_holes}
use Rattle.laws_evaluation.proofs.Terms.Induction.{induction, applied}
use Rattle.laws_evaluation.proofs.Terms.Numbers as number_laws

module _ (number : List ℕ → Option ℕ) where
  abbrev IsKept : Expression → Type 0
  IsKept e = renumbered number (term_of e) ≡ term_of e

  row : (es : List Expression) → AllByRecursion IsKept es → renumbered_all number (terms_of es) ≡ terms_of es
  row [] h = refl
  row (e ∷ es) h = ap₂ more h.0 (row es h.1)

  interpolations : (es : List (Expression × StringLiteral)) → AllByRecursion (λ (e : Expression × StringLiteral). IsKept e.0) es → renumbered_holes number (holes_of es) ≡ holes_of es
  interpolations [] h = refl
  interpolations (e ∷ es) h = rw (h.0, interpolations es h.1) refl

  level_kept : (level : Expression-F Expression) → HasLevelNumber number level → EachPart IsKept level
      → renumbered number (term_step (map-Expression Expression Term term_of level)) ≡ term_step (map-Expression Expression Term term_of level)
  level_kept (Expression-F.And l r) numbered h = ap₂ both h.0 h.1
  level_kept (Expression-F.Assert c None name) numbered h = ap assertion_alone h
  level_kept (Expression-F.Assert c (Some m) name) numbered h = ap₂ assertion h.0 h.1
  level_kept (Expression-F.Backtick contents token) numbered h = refl
  level_kept (Expression-F.Call name es) numbered h = ap (call (lexeme name.token) name.token.path.now) (row es.items h)
  level_kept (Expression-F.Comparison l operator r token) numbered h = ap₂ (comparison operator) h.0 h.1
  level_kept (Expression-F.Concatenation l token r) numbered h = ap₂ (paired Concatenate) h.0 h.1
  level_kept (Expression-F.Conditional c t None) numbered h = ap₂ choice_alone h.0 h.1
  level_kept (Expression-F.Conditional c t (Some o)) numbered h = rw (h.0, h.1, h.2) refl
  level_kept (Expression-F.FormatString start es) numbered h = ap (format start.cooked (written start) start.kind.tripled) (interpolations es.items h)
  level_kept (Expression-F.Group e) numbered h = ap group h
  level_kept (Expression-F.Join None token r) numbered h = ap rooted h
  level_kept (Expression-F.Join (Some l) token r) numbered h = ap₂ (paired Join) h.0 h.1
  level_kept (Expression-F.List es token) numbered h = ap listing (row es.items h)
  level_kept (Expression-F.ListConcatenation l token r) numbered h = ap₂ appended h.0 h.1
  level_kept (Expression-F.Not e) numbered h = ap negation h
  level_kept (Expression-F.Or l r) numbered h = ap₂ either h.0 h.1
  level_kept (Expression-F.StringLiteral s) numbered h = refl
  level_kept (Expression-F.Variable name it) numbered h = ap (variable (lexeme name.token)) (sym numbered)

  step : (level : Expression-F Expression) → EachPart (λ e. HasNumbers number e → IsKept e) level → HasNumbers number (roll-Expression level) → IsKept (roll-Expression level)
  step level inside h =
      let numbered = (number_laws.has_numbers number).at level h in
      let is = fold-roll-Expression Term term_step level in
      ap (renumbered number) is ∙ level_kept level numbered.0 (applied _ _ level inside numbered.1) ∙ sym is

  -- where each variable of an expression has the number of its name, its term keeps its numbers
  pub kept : (e : Expression) → HasNumbers number e → IsKept e
  kept = induction (λ e. HasNumbers number e → IsKept e) step
