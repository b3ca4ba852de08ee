-- The term of an expression by its shape, its texts, its literals and its tokens: so an expression that was numbered has the term that it had, its numbers apart.
use Rattle.std.proofs.Common.{◌≡◌, ℕ, List, [], ◌∷◌, ◌++◌, map, Bool, false, Option, Some, None, refl, sym, ap, ◌∙◌, append_assoc}
use Rattle.std.specs.List.{AllByRecursion, flat_map}
use Rattle.just_text.specs.Tokens.{lexeme}
use Rattle.just_text.specs.declared.token.Token.{Token}
use Rattle.tree_expressions.specs.declared.string_literal.StringLiteral.{StringLiteral}
use Rattle.tree_expressions.specs.declared.expression.Expression.{Expression, roll-Expression, map-Expression}
use Rattle.tree_expressions.specs.declared.expression.Expression.TheOpen.{Expression-F}
use Rattle.tree_expressions.specs.declared.expression.Expression.TheFolds.{fold-roll-Expression}
use Rattle.tree_expressions.specs.Inside.{inside}
use Rattle.tree_expressions.specs.Numbering.{texts_of, texts_step, interpolation_texts, literals_of, own_literals, tokens_of, own_tokens, beside, IsNumbered}
use Rattle.tree_expressions.specs.Operators.{Binary, disjunction, conjunction, appending, concatenation, joining}
use Rattle.tree_expressions.specs.Operators as operators
use Rattle.tree_expressions.specs.Shape.{Shape, Shapes, Interpolations, shape_step, shape_of, shapes_of, interpolations_of, written}
use Rattle.tree_expressions.specs.Shape as shapes
use Rattle.meaning_dialogues.specs.Terms.{Term, Terms, Holes, term_step, term_of, terms_of, holes_of, literal, command, format, variable, call, assertion, assertion_alone, negation, rooted, choice, choice_alone, listing, group, end, more, closed, hole}
use Rattle.meaning_dialogues.specs.Written.{by_operator}
use Rattle.laws_evaluation.specs.Terms.Parts.{EachPart}
use Rattle.laws_evaluation.specs.Terms.Renumbering.{renumbered, renumbered_all, renumbered_holes}
use Rattle.laws_evaluation.proofs.Terms.Induction.{induction}
use Rattle.laws_evaluation.proofs.Terms.Left.{Left, first_text, first_tripled, first_path, others, after_parts, without_mark, without_token, with_first, before, before_two, two_apart, first_apart, before_all, texts_in, literals_in, tokens_in, before_holes, passed_by, level_before, unrolled}
use Rattle.laws_evaluation.proofs.Terms.Renumbered.{kept}
use Rattle.laws_evaluation.proofs.Terms.Variables.{numbered_has}

module _ (number : List ℕ → Option ℕ) where
  abbrev mutual
    -- the term of a shape, its variables by the numbers of names, and what is left
    rebuilt : Shape → Left → Term × Left
    rebuilt (shapes.literal s) left = (literal (first_text left.texts) s, record { texts = others left.texts; literals = others left.literals; tokens = others left.tokens })
    rebuilt (shapes.command s) left = (command (first_text left.texts) s, record left { texts = others left.texts; tokens = others left.tokens })
    rebuilt (shapes.format s hs) left =
        with_first (format (first_text left.texts) s (first_tripled left.literals)) (rebuilt_holes hs (record { texts = others left.texts; literals = after_parts hs (others left.literals); tokens = after_parts hs (others left.tokens) }))
    rebuilt (shapes.variable x) left = (variable x (number x), without_token left)
    rebuilt (shapes.call f es) left = with_first (call f (first_path left.tokens)) (rebuilt_all es (without_token left))
    rebuilt (shapes.assertion c m) left = let a = rebuilt c (without_token left) in with_first (assertion a.0) (rebuilt m a.1)
    rebuilt (shapes.assertion_alone c) left = with_first assertion_alone (rebuilt c (without_token left))
    rebuilt (shapes.group e) left = with_first group (rebuilt e left)
    rebuilt (shapes.listing es) left = with_first listing (rebuilt_all es (without_token left))
    rebuilt (shapes.choice c t o) left = let a = rebuilt c left in let b = rebuilt t a.1 in with_first (choice a.0 b.0) (rebuilt o b.1)
    rebuilt (shapes.choice_alone c t) left = let a = rebuilt c left in with_first (choice_alone a.0) (rebuilt t a.1)
    rebuilt (shapes.negation e) left = with_first negation (rebuilt e left)
    rebuilt (shapes.rooted e) left = with_first rooted (rebuilt e (without_token left))
    rebuilt (shapes.binary operator l r) left = let a = rebuilt l (record left { tokens = without_mark operator left.tokens }) in with_first (by_operator operator a.0) (rebuilt r a.1)

    rebuilt_all : Shapes → Left → Terms × Left
    rebuilt_all shapes.end left = (end, left)
    rebuilt_all (shapes.more e es) left = let a = rebuilt e left in with_first (more a.0) (rebuilt_all es a.1)

    rebuilt_holes : Interpolations → Left → Holes × Left
    rebuilt_holes shapes.closed left = (closed, left)
    rebuilt_holes (shapes.interpolation e part hs) left = let a = rebuilt e left in with_first (hole a.0 (first_text a.1.texts) part) (rebuilt_holes hs (record a.1 { texts = others a.1.texts }))

  -- a term of two
  abbrev rebuilt_two : (Term → Term → Term) → Shape → Shape → Left → Term × Left
  rebuilt_two make l r left = let a = rebuilt l left in with_first (make a.0) (rebuilt r a.1)

  -- its term is that of its shape, texts, literals and tokens
  abbrev IsRebuilt : Expression → Type 0
  IsRebuilt e = (left : Left) → rebuilt (shape_of e) (before e left) ≡ (renumbered number (term_of e), left)

  two : (make : Term → Term → Term) (l r : Expression) → IsRebuilt l → IsRebuilt r → (left : Left)
      → rebuilt_two make (shape_of l) (shape_of r) (before_two l r left) ≡ (make (renumbered number (term_of l)) (renumbered number (term_of r)), left)
  two make l r h g left =
      ap (rebuilt_two make (shape_of l) (shape_of r)) (two_apart l r left)
      ∙ ap (λ (a : Term × Left). with_first (make a.0) (rebuilt (shape_of r) a.1)) (h (before r left))
      ∙ ap (with_first (make (renumbered number (term_of l)))) (g left)

  three : (c t o : Expression) → IsRebuilt c → IsRebuilt t → IsRebuilt o → (left : Left)
      → rebuilt (shapes.choice (shape_of c) (shape_of t) (shape_of o)) (record {
        texts = ((texts_of c ++ texts_of t) ++ texts_of o) ++ left.texts;
        literals = ((literals_of c ++ literals_of t) ++ literals_of o) ++ left.literals;
        tokens = ((tokens_of c ++ tokens_of t) ++ tokens_of o) ++ left.tokens;
      }) ≡ (choice (renumbered number (term_of c)) (renumbered number (term_of t)) (renumbered number (term_of o)), left)
  three c t o h g k left =
      ap (rebuilt (shapes.choice (shape_of c) (shape_of t) (shape_of o))) (λ i. record {
        texts = first_apart (texts_of c) (texts_of t) (texts_of o) left.texts i;
        literals = first_apart (literals_of c) (literals_of t) (literals_of o) left.literals i;
        tokens = first_apart (tokens_of c) (tokens_of t) (tokens_of o) left.tokens i;
      })
      ∙ ap (λ (a : Term × Left). rebuilt_two (choice a.0) (shape_of t) (shape_of o) a.1) (h (before_two t o left))
      ∙ two (choice (renumbered number (term_of c))) t o g k left

  row : (es : List Expression) → AllByRecursion IsRebuilt es → (left : Left) → rebuilt_all (shapes_of es) (before_all es left) ≡ (renumbered_all number (terms_of es), left)
  row [] h left = refl
  row (e ∷ es) h left =
      ap (rebuilt_all (shapes_of (e ∷ es))) (λ i. record {
        texts = append_assoc (texts_of e) (flat_map (λ e. e) (map texts_of es)) left.texts i;
        literals = append_assoc (literals_of e) (flat_map (λ e. e) (map literals_of es)) left.literals i;
        tokens = append_assoc (tokens_of e) (flat_map (λ e. e) (map tokens_of es)) left.tokens i;
      })
      ∙ ap (λ (a : Term × Left). with_first (more a.0) (rebuilt_all (shapes_of es) a.1)) (h.0 (before_all es left))
      ∙ ap (with_first (more (renumbered number (term_of e)))) (row es h.1 left)

  interpolations : (es : List (Expression × StringLiteral)) → AllByRecursion (λ (e : Expression × StringLiteral). IsRebuilt e.0) es → (left : Left)
      → rebuilt_holes (interpolations_of es) (before_holes es left) ≡ (renumbered_holes number (holes_of es), left)
  interpolations [] h left = refl
  interpolations (e ∷ es) h left =
      ap (rebuilt_holes (interpolations_of (e ∷ es))) (λ i. record {
        texts = append_assoc (texts_of e.0) (e.1.cooked ∷ texts_in es) left.texts i;
        literals = append_assoc (literals_of e.0) (literals_in es) left.literals i;
        tokens = append_assoc (tokens_of e.0) (tokens_in es) left.tokens i;
      })
      ∙ ap (λ (a : Term × Left). with_first (hole a.0 (first_text a.1.texts) (written e.1)) (rebuilt_holes (interpolations_of es) (record a.1 { texts = others a.1.texts })))
      (h.0 (record { texts = e.1.cooked ∷ (texts_in es ++ left.texts); literals = literals_in es ++ left.literals; tokens = tokens_in es ++ left.tokens }))
      ∙ ap (with_first (hole (renumbered number (term_of e.0)) e.1.cooked (written e.1))) (interpolations es h.1 left)

  format_rebuilt : (start : StringLiteral) (es : List (Expression × StringLiteral)) → AllByRecursion (λ (e : Expression × StringLiteral). IsRebuilt e.0) es → (left : Left)
      → rebuilt (shapes.format (written start) (interpolations_of es)) (record {
        texts = (start.cooked ∷ texts_in es) ++ left.texts;
        literals = ((start ∷ map (λ e. e.1) (map (beside literals_of) es)) ++ literals_in es) ++ left.literals;
        tokens = ((start.token ∷ map (λ e. e.1.token) (map (beside tokens_of) es)) ++ tokens_in es) ++ left.tokens;
      }) ≡ (format start.cooked (written start) start.kind.tripled (renumbered_holes number (holes_of es)), left)
  format_rebuilt start es h left =
      ap (λ (it : Left). with_first (format start.cooked (written start) start.kind.tripled) (rebuilt_holes (interpolations_of es) it)) (λ i. record {
        texts = texts_in es ++ left.texts;
        literals = passed_by (λ s. s) literals_of es (literals_in es) left.literals i;
        tokens = passed_by (λ s. s.token) tokens_of es (tokens_in es) left.tokens i;
      })
      ∙ ap (with_first (format start.cooked (written start) start.kind.tripled)) (interpolations es h left)

  level_rebuilt : (level : Expression-F Expression) → EachPart IsRebuilt level → (left : Left)
      → rebuilt (shape_step (map-Expression Expression Shape shape_of level)) (level_before level left) ≡ (renumbered number (term_step (map-Expression Expression Term term_of level)), left)
  level_rebuilt (Expression-F.And l r) h left = two (by_operator conjunction) l.value r.value h.0 h.1 left
  level_rebuilt (Expression-F.Assert c None name) h left = ap (with_first assertion_alone) (h left)
  level_rebuilt (Expression-F.Assert c (Some m) name) h left = two assertion c.value m.value h.0 h.1 left
  level_rebuilt (Expression-F.Backtick contents token) h left = refl
  level_rebuilt (Expression-F.Call name es) h left = ap (with_first (call (lexeme name.token) name.token.path.now)) (row es.items h left)
  level_rebuilt (Expression-F.Comparison l operator r token) h left = two (by_operator (operators.comparison operator)) l.value r.value h.0 h.1 left
  level_rebuilt (Expression-F.Concatenation l token r) h left = two (by_operator concatenation) l.value r.value h.0 h.1 left
  level_rebuilt (Expression-F.Conditional c t None) h left = two choice_alone c.value t.value h.0 h.1 left
  level_rebuilt (Expression-F.Conditional c t (Some o)) h left = three c.value t.value o.value h.0 h.1 h.2 left
  level_rebuilt (Expression-F.FormatString start es) h left = format_rebuilt start es.items h left
  level_rebuilt (Expression-F.Group e) h left = ap (with_first group) (h left)
  level_rebuilt (Expression-F.Join None token r) h left = ap (with_first rooted) (h left)
  level_rebuilt (Expression-F.Join (Some l) token r) h left = two (by_operator joining) l.value r.value h.0 h.1 left
  level_rebuilt (Expression-F.List es token) h left = ap (with_first listing) (row es.items h left)
  level_rebuilt (Expression-F.ListConcatenation l token r) h left = two (by_operator appending) l.value r.value h.0 h.1 left
  level_rebuilt (Expression-F.Not e) h left = ap (with_first negation) (h left)
  level_rebuilt (Expression-F.Or l r) h left = two (by_operator disjunction) l.value r.value h.0 h.1 left
  level_rebuilt (Expression-F.StringLiteral s) h left = refl
  level_rebuilt (Expression-F.Variable name it) h left = refl

  step : (level : Expression-F Expression) → EachPart IsRebuilt level → IsRebuilt (roll-Expression level)
  step level h left =
      (λ i. rebuilt (fold-roll-Expression Shape shape_step level i) (unrolled level left i))
      ∙ level_rebuilt level h left
      ∙ sym (ap (λ (t : Term). (renumbered number t, left)) (fold-roll-Expression Term term_step level))

  rebuilds : (e : Expression) → IsRebuilt e
  rebuilds = induction IsRebuilt step

  same_term : (old new : Expression) → IsNumbered number old new → renumbered number (term_of new) ≡ renumbered number (term_of old)
  same_term old new h =
      let nothing : Left = record { texts = []; literals = []; tokens = [] } in
      ap (λ (a : Term × Left). a.0)
      (sym (rebuilds new nothing) ∙ (λ i. rebuilt (h.shape i) (record { texts = h.texts i ++ []; literals = h.literals i ++ []; tokens = h.tokens i ++ [] })) ∙ rebuilds old nothing)

  -- where an expression was numbered, its term is what it was, but that variables have the numbers of their names
  pub numbered_term : (old new : Expression) → IsNumbered number old new → term_of new ≡ renumbered number (term_of old)
  numbered_term old new h = sym (kept number new (numbered_has number old new h)) ∙ same_term old new h
