-- The shape of an expression's term is that of the expression.
use Rattle.std.proofs.Common.{◌≡◌, refl, sym, ◌∙◌, ap, ap₂, subst, List, [], ◌∷◌, map, Some, None}
use Rattle.just_text.specs.Tokens.{lexeme}
use Rattle.tree_expressions.specs.declared.string_literal.StringLiteral.{StringLiteral}
use Rattle.tree_expressions.specs.declared.expression.Expression.{Expression, map-Expression}
use Rattle.tree_expressions.specs.declared.expression.Expression.TheOpen.{Expression-F}
use Rattle.tree_expressions.specs.declared.expression.Expression.TheFolds.{fold-roll-Expression, ind-Expression}
use Rattle.tree_expressions.specs.Operators.{disjunction, conjunction, appending, concatenation, joining}
use Rattle.tree_expressions.specs.Operators as operators
use Rattle.tree_expressions.specs.Shape.{Shape, shape_of, shape_step, shapes_of, interpolations_of, written}
use Rattle.tree_expressions.specs.Shape as shapes
use Rattle.meaning_dialogues.specs.Terms.{Term, term_of, term_step, terms_of, holes_of, shape_in, shapes_in, interpolations_in}

abbrev IsShaped : Expression → Type 0
IsShaped e = shape_in (term_of e) ≡ shape_of e

-- an expression of which it is known
abbrev Known : Type 0
Known = (e : Expression) × IsShaped e

row : (es : List Known) → shapes_in (terms_of (map (λ e. e.0) es)) ≡ shapes_of (map (λ e. e.0) es)
row [] = refl
row (e ∷ es) = ap₂ shapes.more e.1 (row es)

abbrev bare : (Known × StringLiteral) → Expression × StringLiteral
bare p = (p.0.0, p.1)

parts : (es : List (Known × StringLiteral)) → interpolations_in (holes_of (map bare es)) ≡ interpolations_of (map bare es)
parts [] = refl
parts (e ∷ es) = rw (e.0.1, parts es) refl

level : (y : Expression-F Known) → shape_in (term_step (map-Expression Expression Term term_of (map-Expression Known Expression (λ e. e.0) y))) ≡ shape_step (map-Expression Expression Shape shape_of (map-Expression Known Expression (λ e. e.0) y))
level (Expression-F.And l r) = ap₂ (shapes.binary conjunction) l.value.1 r.value.1
level (Expression-F.Assert c None name) = ap shapes.assertion_alone c.value.1
level (Expression-F.Assert c (Some m) name) = ap₂ shapes.assertion c.value.1 m.value.1
level (Expression-F.Backtick contents token) = refl
level (Expression-F.Call name es) = ap (shapes.call (lexeme name.token)) (row es.items)
level (Expression-F.Comparison l operator r token) = ap₂ (shapes.binary (operators.comparison operator)) l.value.1 r.value.1
level (Expression-F.Concatenation l token r) = ap₂ (shapes.binary concatenation) l.value.1 r.value.1
level (Expression-F.Conditional c t None) = ap₂ shapes.choice_alone c.value.1 t.value.1
level (Expression-F.Conditional c t (Some o)) = rw (c.value.1, t.value.1, o.value.1) refl
level (Expression-F.FormatString start es) = ap (shapes.format (written start)) (parts es.items)
level (Expression-F.Group e) = ap shapes.group e.value.1
level (Expression-F.Join None token r) = ap shapes.rooted r.value.1
level (Expression-F.Join (Some l) token r) = ap₂ (shapes.binary joining) l.value.1 r.value.1
level (Expression-F.List es token) = ap shapes.listing (row es.items)
level (Expression-F.ListConcatenation l token r) = ap₂ (shapes.binary appending) l.value.1 r.value.1
level (Expression-F.Not e) = ap shapes.negation e.value.1
level (Expression-F.Or l r) = ap₂ (shapes.binary disjunction) l.value.1 r.value.1
level (Expression-F.StringLiteral s) = refl
level (Expression-F.Variable name number) = refl

pub shaped : (e : Expression) → shape_in (term_of e) ≡ shape_of e
shaped = ind-Expression IsShaped (λ x y is.
    ap shape_in (fold-roll-Expression Term term_step x)
    ∙ subst (λ z. shape_in (term_step (map-Expression Expression Term term_of z)) ≡ shape_step (map-Expression Expression Shape shape_of z)) is (level y)
    ∙ sym (fold-roll-Expression Shape shape_step x))
