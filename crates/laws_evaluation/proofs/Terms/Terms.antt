-- The term of an expression is the term of its shape, numbers apart.
use Rattle.std.proofs.Common.{◌≡◌, ℕ, List, [], ◌∷◌, Option, Some, None, refl, sym, ap, ap₂, ◌∙◌}
use Rattle.std.specs.List.{AllByRecursion}
use Rattle.just_text.specs.Tokens.{lexeme}
use Rattle.tree_expressions.specs.declared.string_literal.StringLiteral.{StringLiteral}
use Rattle.tree_expressions.specs.declared.string_kind.StringKind.{StringKind}
use Rattle.tree_expressions.specs.declared.operator.ListOperator.TheVariants.{Concatenate, Join}
use Rattle.tree_expressions.specs.declared.expression.Expression.{Expression, roll-Expression, map-Expression}
use Rattle.tree_expressions.specs.declared.expression.Expression.TheOpen.{Expression-F}
use Rattle.tree_expressions.specs.declared.expression.Expression.TheFolds.{fold-roll-Expression}
use Rattle.tree_expressions.specs.Kinds.{kind_of}
use Rattle.tree_expressions.specs.Numbering.{IsNumbered}
use Rattle.tree_expressions.specs.Shape.{Shape, shape_step, shape_of, shapes_of, interpolations_of, written}
use Rattle.parse_expressions.specs.Literals.{IsCooked, Origin}
use Rattle.meaning_dialogues.specs.Terms.{Term, Holes, term_step, term_of, terms_of, holes_of, literal, command, format, call, assertion, assertion_alone, both, either, negation, comparison, paired, rooted, appended, choice_alone, listing, group, more, hole}
use Rattle.meaning_dialogues.specs.Written.{term_in, terms_in, holes_in}
use Rattle.laws_evaluation.specs.Terms.Parts.{EachPart}
use Rattle.laws_evaluation.specs.Terms.Own.{IsPartCooked, IsLevelCooked, IsWrittenIn}
use Rattle.laws_evaluation.specs.Terms.Renumbering.{renumbered, renumbered_all, renumbered_holes}
use Rattle.laws_evaluation.proofs.Terms.Induction.{induction, applied}
use Rattle.laws_evaluation.proofs.Terms.Cooked as cooked_laws
use Rattle.laws_evaluation.proofs.Terms.Renumbered.{kept}
use Rattle.laws_evaluation.proofs.Terms.Rebuilt.{numbered_term}

format_term : (start : StringLiteral) (text : List ℕ) (kind : StringKind) (hs ks : Holes) → start.cooked ≡ text → start.kind ≡ kind → hs ≡ ks → format start.cooked (written start) start.kind.tripled hs ≡ format text (written start) kind.tripled ks
format_term start text kind hs ks same_text same_kind others = rw (others, same_text, same_kind) refl

module _ (x : Origin) (number : List ℕ → Option ℕ) where
  -- the term of the expression, by the numbers of names, is that of its shape
  abbrev IsOfShape : Expression → Type 0
  IsOfShape e = renumbered number (term_of e) ≡ term_in x.expansion x.path number (shape_of e)

  row : (es : List Expression) → AllByRecursion IsOfShape es → renumbered_all number (terms_of es) ≡ terms_in x.expansion x.path number (shapes_of es)
  row [] h = refl
  row (e ∷ es) h = ap₂ more h.0 (row es h.1)

  -- an interpolation and the part after it
  one_hole : (text : List ℕ) (part : StringLiteral) (a b : Term) (hs ks : Holes) → part.cooked ≡ text → a ≡ b → hs ≡ ks → hole a part.cooked (written part) hs ≡ hole b text (written part) ks
  one_hole text part a b hs ks cooked first others = rw (first, others, cooked) refl

  interpolations : (kind : StringKind) (es : List (Expression × StringLiteral)) → AllByRecursion (λ (e : Expression × StringLiteral). IsPartCooked kind e.1) es → AllByRecursion (λ (e : Expression × StringLiteral). IsOfShape e.0) es
      → renumbered_holes number (holes_of es) ≡ holes_in x.expansion x.path number kind (interpolations_of es)
  interpolations kind [] g h = refl
  interpolations kind (e ∷ es) g h = one_hole _ e.1 _ _ _ _ g.0.text_is h.0 (interpolations kind es g.1 h.1)

  level_term : (level : Expression-F Expression) → IsLevelCooked x level → EachPart IsOfShape level
      → renumbered number (term_step (map-Expression Expression Term term_of level)) ≡ term_in x.expansion x.path number (shape_step (map-Expression Expression Shape shape_of level))
  level_term (Expression-F.And l r) cooked h = ap₂ both h.0 h.1
  level_term (Expression-F.Assert c None name) cooked h = ap assertion_alone h
  level_term (Expression-F.Assert c (Some m) name) cooked h = ap₂ assertion h.0 h.1
  level_term (Expression-F.Backtick contents token) cooked h = ap (λ it. command it (lexeme token)) cooked
  level_term (Expression-F.Call name es) cooked h = ap₂ (call (lexeme name.token)) cooked (row es.items h)
  level_term (Expression-F.Comparison l operator r token) cooked h = ap₂ (comparison operator) h.0 h.1
  level_term (Expression-F.Concatenation l token r) cooked h = ap₂ (paired Concatenate) h.0 h.1
  level_term (Expression-F.Conditional c t None) cooked h = ap₂ choice_alone h.0 h.1
  level_term (Expression-F.Conditional c t (Some o)) cooked h = rw (h.0, h.1, h.2) refl
  level_term (Expression-F.FormatString start es) cooked h =
      format_term start _ (kind_of (written start)) _ _ cooked.0.text_is cooked.0.kind_is (interpolations (kind_of (written start)) es.items cooked.1 h)
  level_term (Expression-F.Group e) cooked h = ap group h
  level_term (Expression-F.Join None token r) cooked h = ap rooted h
  level_term (Expression-F.Join (Some l) token r) cooked h = ap₂ (paired Join) h.0 h.1
  level_term (Expression-F.List es token) cooked h = ap listing (row es.items h)
  level_term (Expression-F.ListConcatenation l token r) cooked h = ap₂ appended h.0 h.1
  level_term (Expression-F.Not e) cooked h = ap negation h
  level_term (Expression-F.Or l r) cooked h = ap₂ either h.0 h.1
  level_term (Expression-F.StringLiteral s) cooked h = ap (λ it. literal it (written s)) cooked.text_is
  level_term (Expression-F.Variable name it) cooked h = refl

  abbrev Follows : Expression → Type 0
  Follows e = IsCooked x e → IsOfShape e

  step : (level : Expression-F Expression) → EachPart Follows level → Follows (roll-Expression level)
  step level inside h =
      let cooked = (cooked_laws.cooked x).at level h in
      let terms = applied _ _ level inside cooked.1 in
      ap (renumbered number) (fold-roll-Expression Term term_step level) ∙ level_term level cooked.0 terms ∙ sym (ap (term_in x.expansion x.path number) (fold-roll-Expression Shape shape_step level))

  -- The term of an expression that is cooked in a file is that of its shape, once variables have the numbers of their names.
  pub term_by_names : (e : Expression) → IsCooked x e → renumbered number (term_of e) ≡ term_in x.expansion x.path number (shape_of e)
  term_by_names = induction Follows step

  -- the term of an expression that is written in this file is that of its shape
  pub term_of_shape : (e : Expression) → IsWrittenIn x number e → term_of e ≡ term_in x.expansion x.path number (shape_of e)
  term_of_shape e h = sym (kept number e h.numbered) ∙ term_by_names e h.cooked

  -- So where an expression that was cooked in a file was numbered, its term is that of its shape.
  pub term_of_numbered : (old new : Expression) → IsCooked x old → IsNumbered number old new → term_of new ≡ term_in x.expansion x.path number (shape_of new)
  term_of_numbered old new cooked h = numbered_term number old new h ∙ term_by_names old cooked ∙ sym (ap (term_in x.expansion x.path number) h.shape)
