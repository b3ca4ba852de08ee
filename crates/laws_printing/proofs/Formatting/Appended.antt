-- The words of an expression before a rest are its words and the rest.
use Rattle.std.proofs.Common.{◌≡◌, List, ◌∷◌, ◌++◌, refl, ap, ◌∙◌, inl, inr}
use Rattle.std.specs.Prelude.{codes}
use Rattle.just_text.specs.Tokens.{Word}
use Rattle.just_text.specs.declared.token_kind.TokenKind.TheVariants.{Bang, BraceL, BraceR, BracketL, BracketR, FormatStringStart, Identifier, Slash}
use Rattle.tree_expressions.specs.Operators.{mark_of}
use Rattle.tree_expressions.specs.Shape.{Shape, Shapes, Interpolations, literal, command, format, variable, call, assertion, assertion_alone, group, listing, choice, choice_alone, negation, rooted, binary, end, more, closed, interpolation}
use Rattle.tree_items.specs.Printable.{is_choice}
use Rattle.parse_expressions.specs.Words.{if_keyword, else_keyword, assert_keyword}
use Rattle.parse_expressions.specs.Operators.{sign}
use Rattle.parse_expressions.specs.Grammar.{part_kind}
use Rattle.parse_expressions.proofs.Taken.{test}
use Rattle.laws_printing.specs.Printing.Words.{word, space, open_paren, close_paren, comma, braced_words, other_words, words_of, words_of_all, words_of_others, words_inside}

abbrev Appends : Shape → Type 0
Appends e = (xs ys : List Word) → words_of e (xs ++ ys) ≡ words_of e xs ++ ys

braced_append : (e : Shape) → Appends e → (xs ys : List Word) → braced_words (words_of e) (xs ++ ys) ≡ braced_words (words_of e) xs ++ ys
braced_append e h xs ys = ap (λ (ws : List Word). word BraceL (codes "{") ∷ space ∷ ws) (h (space ∷ word BraceR (codes "}") ∷ xs) ys)

other_append : (o : Shape) → Appends o → (xs ys : List Word) → other_words o (words_of o) (xs ++ ys) ≡ other_words o (words_of o) xs ++ ys
other_append o h xs ys =
    elim (test (is_choice o)) [
      | inl c ↦ rw c (h xs ys)
      | inr c ↦ rw c (braced_append o h xs ys)
    ]

mutual
  unfolding words_of words_of_all words_of_others words_inside

  pub appended : (e : Shape) (xs ys : List Word) → words_of e (xs ++ ys) ≡ words_of e xs ++ ys
  appended (literal s) xs ys = refl
  appended (command s) xs ys = refl
  appended (format s hs) xs ys = ap (λ (ws : List Word). word FormatStringStart s ∷ ws) (inside_appended hs xs ys)
  appended (variable x) xs ys = refl
  appended (call f es) xs ys = ap (λ (ws : List Word). word Identifier f ∷ open_paren ∷ ws) (all_appended es (close_paren ∷ xs) ys)
  appended (assertion c m) xs ys =
      ap (λ (ws : List Word). word Identifier assert_keyword ∷ open_paren ∷ ws) (ap (λ (ws : List Word). words_of c (comma ∷ space ∷ ws)) (appended m (close_paren ∷ xs) ys) ∙ appended c (comma ∷ space ∷ words_of m (close_paren ∷ xs)) ys)
  appended (assertion_alone c) xs ys = ap (λ (ws : List Word). word Identifier assert_keyword ∷ open_paren ∷ ws) (appended c (close_paren ∷ xs) ys)
  appended (group e) xs ys = ap (λ (ws : List Word). open_paren ∷ ws) (appended e (close_paren ∷ xs) ys)
  appended (listing es) xs ys = ap (λ (ws : List Word). word BracketL (codes "[") ∷ ws) (all_appended es (word BracketR (codes "]") ∷ xs) ys)
  appended (choice c t o) xs ys =
      let other = other_append o (λ us vs. appended o us vs) xs ys in
      let r : List Word = space ∷ word Identifier else_keyword ∷ space ∷ other_words o (words_of o) xs in
      let chosen = ap (λ (ws : List Word). braced_words (words_of t) (space ∷ word Identifier else_keyword ∷ space ∷ ws)) other ∙ braced_append t (λ us vs. appended t us vs) r ys in
      ap (λ (ws : List Word). word Identifier if_keyword ∷ space ∷ ws) (ap (λ (ws : List Word). words_of c (space ∷ ws)) chosen ∙ appended c (space ∷ braced_words (words_of t) r) ys)
  appended (choice_alone c t) xs ys =
      ap (λ (ws : List Word). word Identifier if_keyword ∷ space ∷ ws) (ap (λ (ws : List Word). words_of c (space ∷ ws)) (braced_append t (λ us vs. appended t us vs) xs ys) ∙ appended c (space ∷ braced_words (words_of t) xs) ys)
  appended (negation e) xs ys = ap (λ (ws : List Word). word Bang (codes "!") ∷ ws) (appended e xs ys)
  appended (rooted e) xs ys = ap (λ (ws : List Word). word Slash (codes "/") ∷ space ∷ ws) (appended e xs ys)
  appended (binary operator l r) xs ys =
      ap (λ (ws : List Word). words_of l (space ∷ word (sign operator) (mark_of operator) ∷ space ∷ ws)) (appended r xs ys) ∙ appended l (space ∷ word (sign operator) (mark_of operator) ∷ space ∷ words_of r xs) ys

  all_appended : (es : Shapes) (xs ys : List Word) → words_of_all es (xs ++ ys) ≡ words_of_all es xs ++ ys
  all_appended end xs ys = refl
  all_appended (more e es) xs ys = ap (words_of e) (others_appended es xs ys) ∙ appended e (words_of_others es xs) ys

  others_appended : (es : Shapes) (xs ys : List Word) → words_of_others es (xs ++ ys) ≡ words_of_others es xs ++ ys
  others_appended end xs ys = refl
  others_appended (more e es) xs ys = ap (λ (ws : List Word). comma ∷ space ∷ ws) (ap (words_of e) (others_appended es xs ys) ∙ appended e (words_of_others es xs) ys)

  inside_appended : (hs : Interpolations) (xs ys : List Word) → words_inside hs (xs ++ ys) ≡ words_inside hs xs ++ ys
  inside_appended closed xs ys = refl
  inside_appended (interpolation e part hs) xs ys =
      ap (λ (ws : List Word). words_of e (word (part_kind hs) part ∷ ws)) (inside_appended hs xs ys) ∙ appended e (word (part_kind hs) part ∷ words_inside hs xs) ys
