-- The text of printed words.
use Rattle.std.proofs.Common.{◌≡◌, ℕ, List, ◌∷◌, ◌++◌, refl, sym, ap, ◌∙◌, append_assoc, inl, inr}
use Rattle.std.specs.Prelude.{codes, if◌then◌else◌}
use Rattle.just_text.specs.Tokens.{Word}
use Rattle.just_text.specs.declared.token_kind.TokenKind.TheVariants.{BraceR, BracketR, Identifier}
use Rattle.tree_expressions.specs.Operators.{mark_of}
use Rattle.tree_expressions.specs.Shape.{Shape, Shapes, Interpolations, literal, command, format, variable, call, assertion, assertion_alone, group, listing, choice, choice_alone, negation, rooted, binary, end, more, closed, interpolation}
use Rattle.tree_expressions.specs.Printing.{braced, behind_else, text_of, text_of_all, text_of_others, text_of_interpolations}
use Rattle.tree_items.specs.Printable.{is_choice}
use Rattle.parse_expressions.specs.Words.{else_keyword}
use Rattle.parse_expressions.specs.Operators.{sign}
use Rattle.parse_expressions.specs.Grammar.{part_kind}
use Rattle.parse_expressions.proofs.Taken.{test}
use Rattle.laws_printing.specs.Printing.Words.{word, space, close_paren, comma, braced_words, other_words, words_of, words_of_all, words_of_others, words_inside}
use Rattle.justfile_syntax.specs.Words.{joined}

after_else_is : (o : Shape) (text : List ℕ) → behind_else o text ≡ (if is_choice o then text else braced text)
after_else_is (choice c t o) text = refl
after_else_is (choice_alone c t) text = refl
after_else_is (literal s) text = refl
after_else_is (command s) text = refl
after_else_is (format s hs) text = refl
after_else_is (variable x) text = refl
after_else_is (call f es) text = refl
after_else_is (assertion c m) text = refl
after_else_is (assertion_alone c) text = refl
after_else_is (group e) text = refl
after_else_is (listing es) text = refl
after_else_is (negation e) text = refl
after_else_is (rooted e) text = refl
after_else_is (binary operator l r) text = refl

other_texts : (o : Shape) (after : List Word) (rest : List ℕ) → ((after : List Word) → joined (words_of o after) rest ≡ text_of o ++ joined after rest) → joined (other_words o (words_of o) after) rest ≡ behind_else o (text_of o) ++ joined after rest
other_texts o after rest is =
    elim (test (is_choice o)) [
      | inl h ↦ rw (after_else_is o (text_of o), h, is after) refl
      | inr h ↦ rw (after_else_is o (text_of o), h, is (space ∷ word BraceR (codes "}") ∷ after)) (simp append_assoc)
    ]

braced_is : (t z : List ℕ) → braced t ++ z ≡ codes "{ " ++ (t ++ (codes " }" ++ z))
braced_is t z = simp append_assoc

parts_is : (c b o a : List ℕ) → codes "if " ++ c ++ codes " " ++ b ++ codes " else " ++ o ++ a ≡ codes "if " ++ (c ++ (codes " " ++ (b ++ (codes " else " ++ (o ++ a)))))
parts_is c b o a = simp append_assoc

alone_parts : (c b a : List ℕ) → codes "if " ++ c ++ codes " " ++ b ++ a ≡ codes "if " ++ (c ++ (codes " " ++ (b ++ a)))
alone_parts c b a = simp append_assoc

choice_is : (c t o a : List ℕ) → codes "if " ++ c ++ codes " " ++ braced t ++ codes " else " ++ o ++ a ≡ codes "if " ++ (c ++ (codes " { " ++ (t ++ (codes " } else " ++ (o ++ a)))))
choice_is c t o a = parts_is c (braced t) o a ∙ ap (λ x. codes "if " ++ (c ++ (codes " " ++ x))) (braced_is t (codes " else " ++ (o ++ a)))

choice_alone_is : (c t a : List ℕ) → codes "if " ++ c ++ codes " " ++ braced t ++ a ≡ codes "if " ++ (c ++ (codes " { " ++ (t ++ (codes " }" ++ a))))
choice_alone_is c t a = alone_parts c (braced t) a ∙ ap (λ x. codes "if " ++ (c ++ (codes " " ++ x))) (braced_is t a)

mutual
  unfolding words_of words_of_all words_of_others words_inside text_of text_of_all text_of_others text_of_interpolations

  pub texts : (e : Shape) (after : List Word) (rest : List ℕ) → joined (words_of e after) rest ≡ text_of e ++ joined after rest
  texts (literal s) after rest = refl
  texts (command s) after rest = refl
  texts (format s hs) after rest = rw (texts_inside hs after rest) (simp append_assoc)
  texts (variable x) after rest = refl
  texts (call f es) after rest = rw (texts_all es (close_paren ∷ after) rest) (simp append_assoc)
  texts (assertion c m) after rest = rw (texts c (comma ∷ space ∷ words_of m (close_paren ∷ after)) rest, texts m (close_paren ∷ after) rest) (simp append_assoc)
  texts (assertion_alone c) after rest = rw (texts c (close_paren ∷ after) rest) (simp append_assoc)
  texts (group e) after rest = rw (texts e (close_paren ∷ after) rest) (simp append_assoc)
  texts (listing es) after rest = rw (texts_all es (word BracketR (codes "]") ∷ after) rest) (simp append_assoc)
  texts (choice c t o) after rest =
      let r3 = space ∷ word Identifier else_keyword ∷ space ∷ other_words o (words_of o) after in
      let r2 = space ∷ word BraceR (codes "}") ∷ r3 in
      let left : joined (words_of (choice c t o) after) rest ≡ codes "if " ++ (text_of c ++ (codes " { " ++ (text_of t ++ (codes " } else " ++ (behind_else o (text_of o) ++ joined after rest))))) =
      rw (texts c (space ∷ braced_words (words_of t) r3) rest, texts t r2 rest, other_texts o after rest (λ a. texts o a rest)) refl in
      left ∙ sym (choice_is (text_of c) (text_of t) (behind_else o (text_of o)) (joined after rest))
  texts (choice_alone c t) after rest =
      let left : joined (words_of (choice_alone c t) after) rest ≡ codes "if " ++ (text_of c ++ (codes " { " ++ (text_of t ++ (codes " }" ++ joined after rest)))) =
      rw (texts c (space ∷ braced_words (words_of t) after) rest, texts t (space ∷ word BraceR (codes "}") ∷ after) rest) refl in
      left ∙ sym (choice_alone_is (text_of c) (text_of t) (joined after rest))
  texts (negation e) after rest = rw (texts e after rest) refl
  texts (rooted e) after rest = rw (texts e after rest) refl
  texts (binary operator l r) after rest = rw (texts l (space ∷ word (sign operator) (mark_of operator) ∷ space ∷ words_of r after) rest, texts r after rest) (simp append_assoc)

  texts_all : (es : Shapes) (after : List Word) (rest : List ℕ) → joined (words_of_all es after) rest ≡ text_of_all es ++ joined after rest
  texts_all end after rest = refl
  texts_all (more e es) after rest = rw (texts e (words_of_others es after) rest, texts_others es after rest) (simp append_assoc)

  texts_others : (es : Shapes) (after : List Word) (rest : List ℕ) → joined (words_of_others es after) rest ≡ text_of_others es ++ joined after rest
  texts_others end after rest = refl
  texts_others (more e es) after rest = rw (texts e (words_of_others es after) rest, texts_others es after rest) (simp append_assoc)

  texts_inside : (hs : Interpolations) (after : List Word) (rest : List ℕ) → joined (words_inside hs after) rest ≡ text_of_interpolations hs ++ joined after rest
  texts_inside closed after rest = refl
  texts_inside (interpolation e part hs) after rest = rw (texts e (word (part_kind hs) part ∷ words_inside hs after) rest, texts_inside hs after rest) (simp append_assoc)
