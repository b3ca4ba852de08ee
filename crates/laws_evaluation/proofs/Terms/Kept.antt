-- An expression that was numbered holds what it held: so what was cooked stays cooked.
use Rattle.std.proofs.Common.{◌≡◌, ℕ, List, [], ◌∷◌, ◌++◌, map, Option, Some, None, refl, sym, ap, ◌∙◌, append_assoc}
use Rattle.std.specs.List.{AllByRecursion, flat_map}
use Rattle.just_text.specs.Tokens.{lexeme}
use Rattle.just_text.specs.declared.token.Token.{Token}
use Rattle.tree_expressions.specs.declared.string_literal.StringLiteral.{StringLiteral}
use Rattle.tree_expressions.specs.declared.expression.Expression.{Expression, roll-Expression, map-Expression}
use Rattle.tree_expressions.specs.declared.expression.Expression.TheOpen.{Expression-F}
use Rattle.tree_expressions.specs.declared.expression.Expression.TheFolds.{fold-roll-Expression}
use Rattle.tree_expressions.specs.Numbering.{texts_of, literals_of, tokens_of, beside, IsNumbered}
use Rattle.tree_expressions.specs.Shape.{Shape, Shapes, Interpolations, shape_step, shape_of, shapes_of, interpolations_of, written}
use Rattle.tree_expressions.specs.Shape as shapes
use Rattle.parse_expressions.specs.Literals.{Origin, Held, of_command, of_assertion, of_call, string_held, held_step, held_by, held_by_interpolations, cooked_in, IsCooked}
use Rattle.laws_evaluation.specs.Terms.Parts.{EachPart}
use Rattle.laws_evaluation.proofs.Terms.Induction.{induction}
use Rattle.laws_evaluation.proofs.Terms.Left.{Left, first_text, others, after_parts, without_mark, without_token, with_first, before, before_two, two_apart, first_apart, before_all, texts_in, literals_in, tokens_in, before_holes, passed_by, level_before, unrolled}

abbrev first_string : List StringLiteral → List Held
first_string [] = []
first_string (s ∷ more) = string_held s ∷ []

abbrev first_lexeme : List Token → List ℕ
first_lexeme [] = []
first_lexeme (token ∷ more) = lexeme token

abbrev first_path : List Token → List ℕ
first_path [] = []
first_path (token ∷ more) = token.path.now

abbrev mutual
  -- what an expression of that shape holds, and what is left
  held_from : Shape → Left → List Held × Left
  held_from (shapes.literal s) left = (first_string left.literals, record { texts = others left.texts; literals = others left.literals; tokens = others left.tokens })
  held_from (shapes.command s) left = (of_command (first_text left.texts) ∷ [], record left { texts = others left.texts; tokens = others left.tokens })
  held_from (shapes.format s hs) left =
      with_first (λ held. first_string left.literals ++ held) (held_holes hs (others left.literals) (record { texts = others left.texts; literals = after_parts hs (others left.literals); tokens = after_parts hs (others left.tokens) }))
  held_from (shapes.variable x) left = ([], without_token left)
  held_from (shapes.call f es) left = with_first (λ held. of_call (first_path left.tokens) ∷ held) (held_all es (without_token left))
  held_from (shapes.assertion c m) left = let a = held_from c (without_token left) in with_first (λ held. of_assertion (first_lexeme left.tokens) ∷ (a.0 ++ held)) (held_from m a.1)
  held_from (shapes.assertion_alone c) left = with_first (λ held. of_assertion (first_lexeme left.tokens) ∷ held) (held_from c (without_token left))
  held_from (shapes.group e) left = held_from e left
  held_from (shapes.listing es) left = held_all es (without_token left)
  held_from (shapes.choice c t o) left = let a = held_from c left in let b = held_from t a.1 in with_first (λ held. (a.0 ++ b.0) ++ held) (held_from o b.1)
  held_from (shapes.choice_alone c t) left = let a = held_from c left in with_first (λ held. a.0 ++ held) (held_from t a.1)
  held_from (shapes.negation e) left = held_from e left
  held_from (shapes.rooted e) left = held_from e (without_token left)
  held_from (shapes.binary operator l r) left = let a = held_from l (record left { tokens = without_mark operator left.tokens }) in with_first (λ held. a.0 ++ held) (held_from r a.1)

  held_all : Shapes → Left → List Held × Left
  held_all shapes.end left = ([], left)
  held_all (shapes.more e es) left = let a = held_from e left in with_first (λ held. a.0 ++ held) (held_all es a.1)

  held_holes : Interpolations → List StringLiteral → Left → List Held × Left
  held_holes shapes.closed parts left = ([], left)
  held_holes (shapes.interpolation e part hs) parts left =
      let a = held_from e left in with_first (λ held. a.0 ++ (first_string parts ++ held)) (held_holes hs (others parts) (record a.1 { texts = others a.1.texts }))

-- one after the other, what both hold
abbrev held_two : Shape → Shape → Left → List Held × Left
held_two l r left = let a = held_from l left in with_first (λ held. a.0 ++ held) (held_from r a.1)

-- what it holds is what its shape, texts, literals and tokens make
abbrev IsFrom : Expression → Type 0
IsFrom e = (left : Left) → held_from (shape_of e) (before e left) ≡ (held_by e, left)

two : (l r : Expression) → IsFrom l → IsFrom r → (left : Left) → held_two (shape_of l) (shape_of r) (before_two l r left) ≡ (held_by l ++ held_by r, left)
two l r h g left =
    ap (held_two (shape_of l) (shape_of r)) (two_apart l r left)
    ∙ ap (λ (a : List Held × Left). with_first (λ held. a.0 ++ held) (held_from (shape_of r) a.1)) (h (before r left))
    ∙ ap (with_first (λ held. held_by l ++ held)) (g left)

three : (c t o : Expression) → IsFrom c → IsFrom t → IsFrom o → (left : Left)
    → held_from (shapes.choice (shape_of c) (shape_of t) (shape_of o)) (record {
      texts = ((texts_of c ++ texts_of t) ++ texts_of o) ++ left.texts;
      literals = ((literals_of c ++ literals_of t) ++ literals_of o) ++ left.literals;
      tokens = ((tokens_of c ++ tokens_of t) ++ tokens_of o) ++ left.tokens;
    }) ≡ ((held_by c ++ held_by t) ++ held_by o, left)
three c t o h g k left =
    ap (held_from (shapes.choice (shape_of c) (shape_of t) (shape_of o))) (λ i. record {
      texts = append_assoc (texts_of c ++ texts_of t) (texts_of o) left.texts i;
      literals = append_assoc (literals_of c ++ literals_of t) (literals_of o) left.literals i;
      tokens = append_assoc (tokens_of c ++ tokens_of t) (tokens_of o) left.tokens i;
    })
    ∙ ap (λ (a : List Held × Left). with_first (λ held. a.0 ++ held) (held_from (shape_of o) a.1)) (two c t h g (before o left))
    ∙ ap (with_first (λ held. (held_by c ++ held_by t) ++ held)) (k left)

row : (es : List Expression) → AllByRecursion IsFrom es → (left : Left) → held_all (shapes_of es) (before_all es left) ≡ (flat_map (λ inside. inside) (map held_by es), left)
row [] h left = refl
row (e ∷ es) h left =
    ap (held_all (shapes_of (e ∷ es))) (λ i. record {
      texts = append_assoc (texts_of e) (flat_map (λ e. e) (map texts_of es)) left.texts i;
      literals = append_assoc (literals_of e) (flat_map (λ e. e) (map literals_of es)) left.literals i;
      tokens = append_assoc (tokens_of e) (flat_map (λ e. e) (map tokens_of es)) left.tokens i;
    })
    ∙ ap (λ (a : List Held × Left). with_first (λ held. a.0 ++ held) (held_all (shapes_of es) a.1)) (h.0 (before_all es left))
    ∙ ap (with_first (λ held. held_by e ++ held)) (row es h.1 left)

interpolations : (es : List (Expression × StringLiteral)) → AllByRecursion (λ (e : Expression × StringLiteral). IsFrom e.0) es → (rest : List StringLiteral) (left : Left)
    → held_holes (interpolations_of es) (map (λ e. e.1) (map (beside literals_of) es) ++ rest) (before_holes es left) ≡ (held_by_interpolations (map (beside held_by) es), left)
interpolations [] h rest left = refl
interpolations (e ∷ es) h rest left =
    ap (held_holes (interpolations_of (e ∷ es)) (map (λ e. e.1) (map (beside literals_of) (e ∷ es)) ++ rest)) (λ i. record {
      texts = append_assoc (texts_of e.0) (e.1.cooked ∷ texts_in es) left.texts i;
      literals = append_assoc (literals_of e.0) (literals_in es) left.literals i;
      tokens = append_assoc (tokens_of e.0) (tokens_in es) left.tokens i;
    })
    ∙ ap (λ (a : List Held × Left). with_first (λ held. a.0 ++ (string_held e.1 ∷ held)) (held_holes (interpolations_of es) (map (λ e. e.1) (map (beside literals_of) es) ++ rest) (record a.1 { texts = others a.1.texts })))
    (h.0 (record { texts = e.1.cooked ∷ (texts_in es ++ left.texts); literals = literals_in es ++ left.literals; tokens = tokens_in es ++ left.tokens }))
    ∙ ap (with_first (λ held. held_by e.0 ++ (string_held e.1 ∷ held))) (interpolations es h.1 rest left)

format_from : (start : StringLiteral) (es : List (Expression × StringLiteral)) → AllByRecursion (λ (e : Expression × StringLiteral). IsFrom e.0) es → (left : Left)
    → held_from (shapes.format (written start) (interpolations_of es)) (record {
      texts = (start.cooked ∷ texts_in es) ++ left.texts;
      literals = ((start ∷ map (λ e. e.1) (map (beside literals_of) es)) ++ literals_in es) ++ left.literals;
      tokens = ((start.token ∷ map (λ e. e.1.token) (map (beside tokens_of) es)) ++ tokens_in es) ++ left.tokens;
    }) ≡ (string_held start ∷ held_by_interpolations (map (beside held_by) es), left)
format_from start es h left =
    (λ i. with_first (λ held. string_held start ∷ held) (held_holes (interpolations_of es) (append_assoc (map (λ e. e.1) (map (beside literals_of) es)) (literals_in es) left.literals i) (record {
      texts = texts_in es ++ left.texts;
      literals = passed_by (λ s. s) literals_of es (literals_in es) left.literals i;
      tokens = passed_by (λ s. s.token) tokens_of es (tokens_in es) left.tokens i;
    })))
    ∙ ap (with_first (λ held. string_held start ∷ held)) (interpolations es h (literals_in es ++ left.literals) left)

level_from : (level : Expression-F Expression) → EachPart IsFrom level → (left : Left)
    → held_from (shape_step (map-Expression Expression Shape shape_of level)) (level_before level left) ≡ (held_step (map-Expression Expression (List Held) held_by level), left)
level_from (Expression-F.And l r) h left = two l.value r.value h.0 h.1 left
level_from (Expression-F.Assert c None name) h left = ap (with_first (λ held. of_assertion (lexeme name.token) ∷ held)) (h left)
level_from (Expression-F.Assert c (Some m) name) h left = ap (with_first (λ held. of_assertion (lexeme name.token) ∷ held)) (two c.value m.value h.0 h.1 left)
level_from (Expression-F.Backtick contents token) h left = refl
level_from (Expression-F.Call name es) h left = ap (with_first (λ held. of_call name.token.path.now ∷ held)) (row es.items h left)
level_from (Expression-F.Comparison l operator r token) h left = two l.value r.value h.0 h.1 left
level_from (Expression-F.Concatenation l token r) h left = two l.value r.value h.0 h.1 left
level_from (Expression-F.Conditional c t None) h left = two c.value t.value h.0 h.1 left
level_from (Expression-F.Conditional c t (Some o)) h left = three c.value t.value o.value h.0 h.1 h.2 left
level_from (Expression-F.FormatString start es) h left = format_from start es.items h left
level_from (Expression-F.Group e) h left = h left
level_from (Expression-F.Join None token r) h left = h left
level_from (Expression-F.Join (Some l) token r) h left = two l.value r.value h.0 h.1 left
level_from (Expression-F.List es token) h left = row es.items h left
level_from (Expression-F.ListConcatenation l token r) h left = two l.value r.value h.0 h.1 left
level_from (Expression-F.Not e) h left = h left
level_from (Expression-F.Or l r) h left = two l.value r.value h.0 h.1 left
level_from (Expression-F.StringLiteral s) h left = refl
level_from (Expression-F.Variable name it) h left = refl

step : (level : Expression-F Expression) → EachPart IsFrom level → IsFrom (roll-Expression level)
step level h left =
    (λ i. held_from (fold-roll-Expression Shape shape_step level i) (unrolled level left i))
    ∙ level_from level h left
    ∙ sym (ap (λ (held : List Held). (held, left)) (fold-roll-Expression (List Held) held_step level))

is_from : (e : Expression) → IsFrom e
is_from = induction IsFrom step

-- expressions of one shape, with the same texts, tokens and strings, hold the same
pub same_holds : (old new : Expression) → shape_of new ≡ shape_of old → texts_of new ≡ texts_of old → tokens_of new ≡ tokens_of old → literals_of new ≡ literals_of old → held_by new ≡ held_by old
same_holds old new shape texts tokens literals =
    let nothing : Left = record { texts = []; literals = []; tokens = [] } in
    ap (λ (a : List Held × Left). a.0)
    (sym (is_from new nothing) ∙ (λ i. held_from (shape i) (record { texts = texts i ++ []; literals = literals i ++ []; tokens = tokens i ++ [] })) ∙ is_from old nothing)

-- where an expression was numbered, it holds what it held
pub numbered_holds : (number : List ℕ → Option ℕ) (old new : Expression) → IsNumbered number old new → held_by new ≡ held_by old
numbered_holds number old new h = same_holds old new h.shape h.texts h.tokens h.literals

-- where an expression that was cooked was numbered, it is cooked
pub numbered_cooked : (x : Origin) (number : List ℕ → Option ℕ) (old new : Expression) → IsNumbered number old new → IsCooked x old → IsCooked x new
numbered_cooked x number old new h cooked = numbered_holds number old new h ∙ cooked ∙ sym (ap (cooked_in x) h.shape)
