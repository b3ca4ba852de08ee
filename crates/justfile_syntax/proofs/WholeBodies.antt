-- The words of a whole body are its tokens.
use Rattle.std.proofs.Common.{◌≡◌, ℕ, suc, ◌+◌, Bool, true, false, not, ◌&&◌, ◌==◌, List, [], ◌∷◌, ◌++◌, length, None, refl, sym, ap, ◌∙◌, inl, inr, arith}
use Rattle.std.proofs.lemmas.Bool.{cases_Bool}
use Rattle.std.proofs.lemmas.Bool.Decides.{nat_tests}
use Rattle.just_text.specs.Tokens.{Word}
use Rattle.just_text.specs.declared.token_kind.TokenKind.TheVariants.{Dedent, Indent, InterpolationEnd, InterpolationStart, Text, Whitespace}
use Rattle.just_lexer.specs.declared.mode.Indentation.{Indentation}
use Rattle.just_lexer.specs.Classes.{first, is_blank, at_braces, at_line_end, until_over, ends_text, brace_takes, blank_len, is_blank_line}
use Rattle.just_lexer.specs.Modes.{indentation_of}
use Rattle.justfile_syntax.specs.Words.{joined, LexesFrom}
use Rattle.justfile_syntax.specs.Fits.{is_lexeme, is_alone, last_byte, at_end, makes_line_end, keeps_apart}
use Rattle.justfile_syntax.specs.InCode.{word}
use Rattle.justfile_syntax.specs.Lines.{at_line}
use Rattle.justfile_syntax.specs.Bodies.{at_body_line, in_body, in_expression, is_indentation}
use Rattle.justfile_syntax.specs.WholeBodies.{Fragment, text, expression, newline, fragment_words, line_words, lines_words, ends_before, ExpressionFits, FragmentsFit, shows, shows_first, LinesFit, BodiesLex}
use Rattle.justfile_syntax.proofs.Words.{joins_up, joined_append}
use Rattle.justfile_syntax.proofs.Texts.{no_end_arises, tail_makes_none}
use Rattle.justfile_syntax.proofs.Stands.{lexeme_reach, blank_line_end}
use Rattle.justfile_syntax.proofs.Table.{both}
use Rattle.justfile_syntax.proofs.Bodies.{bodies_begin, lines_go_on, empty_body_lines, texts_go_on, expressions_open, expressions_close, body_lines_end, bodies_end}

-- a line's parts

expression_lexes : (i : Indentation) (ws : List Word) (rest : List ℕ) → ExpressionFits i ws → LexesFrom (in_body i) (fragment_words (expression ws)) rest (in_body i)
expression_lexes i ws rest f =
    let end : List Word = word InterpolationEnd (125 ∷ 125 ∷ []) ∷ [] in
    let begins : LexesFrom (in_body i) (word InterpolationStart (123 ∷ 123 ∷ []) ∷ []) (joined (ws ++ end) rest) (in_expression i) = expressions_open i (joined (ws ++ end) rest) (rw (joined_append ws end rest) (f.apart rest)) in
    joins_up (in_body i) (in_expression i) (in_body i) (word InterpolationStart (123 ∷ 123 ∷ []) ∷ []) (ws ++ end) rest begins
    (joins_up (in_expression i) (in_expression i) (in_body i) ws end rest (f.lexes rest) (expressions_close i rest))

no_end : (t : List ℕ) → not (last_byte t == 13) ≡ true → not (last_byte t == 13 && true) ≡ true
no_end t h = grind (arith, nat_tests)

text_alone : (i : Indentation) (t : List ℕ) (fs : List Fragment) (rest : List ℕ) → is_lexeme None Text t ≡ true → ends_before t fs ≡ true → FragmentsFit i fs → is_alone None (word Text t) (joined (line_words fs) rest) ≡ true
text_alone i t [] rest is e f =
    let some : (length (10 ∷ rest) == 0) ≡ false = grind (arith, nat_tests) in
    let apart : keeps_apart Text t (10 ∷ rest) ≡ true = rw (some, no_end t e) refl in
    both (is_lexeme None Text t) (keeps_apart Text t (10 ∷ rest)) is apart
text_alone i t (text u ∷ fs) rest is e f = cc
text_alone i t (expression ws ∷ fs) rest is e f =
    let end : List Word = word InterpolationEnd (125 ∷ 125 ∷ []) ∷ [] in
    let behind : List ℕ = joined ((ws ++ end) ++ line_words fs) rest in
    let shape : behind ≡ joined ws (125 ∷ 125 ∷ joined (line_words fs) rest) = joined_append (ws ++ end) (line_words fs) rest ∙ joined_append ws end (joined (line_words fs) rest) in
    let none : not (at_braces behind) ≡ true = rw shape (f.0.apart (joined (line_words fs) rest)) in
    let some : (length (123 ∷ 123 ∷ behind) == 0) ≡ false = grind (arith, nat_tests) in
    let apart : keeps_apart Text t (123 ∷ 123 ∷ behind) ≡ true = rw (some, none, e) refl in
    both (is_lexeme None Text t) (keeps_apart Text t (123 ∷ 123 ∷ behind)) is apart

line_lexes : (i : Indentation) (fs : List Fragment) (rest : List ℕ) → FragmentsFit i fs → LexesFrom (in_body i) (line_words fs) rest (at_body_line i)
line_lexes i [] rest f = body_lines_end i (10 ∷ []) rest refl
line_lexes i (text t ∷ fs) rest f =
    joins_up (in_body i) (in_body i) (at_body_line i) (word Text t ∷ []) (line_words fs) rest
    (texts_go_on i t (joined (line_words fs) rest) (text_alone i t fs rest f.0.0 f.0.1 f.1))
    (line_lexes i fs rest f.1)
line_lexes i (expression ws ∷ fs) rest f =
    joins_up (in_body i) (in_body i) (at_body_line i) (fragment_words (expression ws)) (line_words fs) rest (expression_lexes i ws (joined (line_words fs) rest) f.0) (line_lexes i fs rest f.1)

-- lines that show something

blank_step : (b : ℕ) (bs : List ℕ) → is_blank b ≡ true → is_blank_line (b ∷ bs) ≡ is_blank_line bs
blank_step b bs h =
    let n : blank_len (b ∷ bs) ≡ suc (blank_len bs) = rw h (omega arith) in
    rw n refl

plain_line : (b : ℕ) (bs : List ℕ) → is_blank b ≡ false → at_line_end (b ∷ bs) ≡ false → is_blank_line (b ∷ bs) ≡ false
plain_line b bs h e =
    let some : (length (b ∷ bs) == 0) ≡ false = grind (arith, nat_tests) in
    blank_line_end (b ∷ bs) h ∙ rw (some, e) refl

over_stops_not : (b : ℕ) (bs : List ℕ) → until_over ends_text brace_takes 0 (b ∷ bs) ≡ length (b ∷ bs) → ends_text (b ∷ bs) ≡ false
unfolding until_over
over_stops_not b bs h = elim (cases_Bool (ends_text (b ∷ bs))) [ inl t ↦ absurd (let z : 0 ≡ length (b ∷ bs) = rw t at h in omega arith) | inr f ↦ f ]

visible : (t rest : List ℕ) → until_over ends_text brace_takes 0 t ≡ length t → makes_line_end t rest ≡ false → (blank_len t ≡ length t → is_blank_line rest ≡ false) → is_blank_line (t ++ rest) ≡ false
unfolding until_over
visible [] rest h e none = none refl
visible (b ∷ bs) rest h e none =
    elim (cases_Bool (is_blank b)) [
      | inl blank ↦ (
          let plain : ends_text (b ∷ bs) ≡ false = over_stops_not b bs h in
          let single : at_braces (b ∷ bs) ≡ false = grind (arith, nat_tests) in
          let more : until_over ends_text brace_takes 0 bs + 1 ≡ length (b ∷ bs) = rw (plain, single) at h in
          let there : is_blank_line (bs ++ rest) ≡ false = visible bs rest (omega arith) (tail_makes_none b bs rest e) (λ all. none (rw blank (omega arith))) in
          blank_step b (bs ++ rest) blank ∙ there)
      | inr plain ↦ (
          let on : at_line_end (b ∷ bs) ≡ false = (let x = over_stops_not b bs h in grind (arith, nat_tests)) in
          plain_line b (bs ++ rest) plain (no_end_arises b bs rest on e))
    ]

never : (b : Bool) → not b ≡ true → b ≡ false
never true e = cc
never false e = refl

not_end : (t rest : List ℕ) → not (last_byte t == 13) ≡ true → makes_line_end t rest ≡ false
not_end t rest h = grind (arith, nat_tests)

no_newline : (t rest : List ℕ) → makes_line_end t (123 ∷ rest) ≡ false
no_newline t rest = grind (arith, nat_tests)

not_all : (t : List ℕ) → not (blank_len t == length t) ≡ true → blank_len t ≡ length t → ⊥
not_all t h e = absurd (grind (arith, nat_tests))

line_shows : (i : Indentation) (f : Fragment) (fs : List Fragment) (rest : List ℕ) → FragmentsFit i (f ∷ fs) → shows (f ∷ fs) ≡ true → is_blank_line (joined (line_words (f ∷ fs)) rest) ≡ false
line_shows i (expression ws) fs rest fit show = plain_line 123 (123 ∷ joined ((ws ++ word InterpolationEnd (125 ∷ 125 ∷ []) ∷ []) ++ line_words fs) rest) refl refl
line_shows i (text t) [] rest fit show = visible t (10 ∷ rest) (lexeme_reach None Text t fit.0.0) (not_end t (10 ∷ rest) fit.0.1) (λ all. absurd (not_all t show all))
line_shows i (text t) (text u ∷ fs) rest fit show = cc (fit.0.1)
line_shows i (text t) (expression ws ∷ fs) rest fit show =
    let behind : List ℕ = joined ((ws ++ word InterpolationEnd (125 ∷ 125 ∷ []) ∷ []) ++ line_words fs) rest in
    visible t (123 ∷ 123 ∷ behind) (lexeme_reach None Text t fit.0.0) (no_newline t (123 ∷ behind)) (λ all. plain_line 123 (123 ∷ behind) refl refl)

-- the lines

lines_lex : (ind : List ℕ) (lines : List (List Fragment)) (rest : List ℕ) → is_indentation ind ≡ true → LinesFit (indentation_of ind) lines → LexesFrom (at_body_line (indentation_of ind)) (lines_words ind lines) rest (at_body_line (indentation_of ind))
lines_lex ind [] rest is fit = record { each = tt; goes = refl }
lines_lex ind ([] ∷ lines) rest is fit =
    let i : Indentation = indentation_of ind in
    joins_up (at_body_line i) (at_body_line i) (at_body_line i) (newline ∷ []) (lines_words ind lines) rest (empty_body_lines i (10 ∷ []) (joined (lines_words ind lines) rest) refl) (lines_lex ind lines rest is fit.1)
lines_lex ind ((f ∷ fs) ∷ lines) rest is fit =
    let i : Indentation = indentation_of ind in
    let more : List Word = lines_words ind lines in
    let whole : List Word = line_words (f ∷ fs) ++ more in
    let showing : is_blank_line (joined whole rest) ≡ false = ap (λ x. is_blank_line x) (joined_append (line_words (f ∷ fs)) more rest) ∙ line_shows i f fs (joined more rest) fit.0.0 fit.0.1 in
    joins_up (at_body_line i) (in_body i) (at_body_line i) (word Whitespace ind ∷ []) whole rest
    (lines_go_on ind (joined whole rest) is (rw showing refl))
    (joins_up (in_body i) (at_body_line i) (at_body_line i) (line_words (f ∷ fs)) more rest (line_lexes i (f ∷ fs) (joined more rest) fit.0.0) (lines_lex ind lines rest is fit.1))

first_blanks : (c : ℕ) (cs : List ℕ) → not (is_blank c) ≡ true → not (blank_len (c ∷ cs) == length (c ∷ cs)) ≡ true
first_blanks c cs h = let f : is_blank c ≡ false = never (is_blank c) h in let some : (0 == length (c ∷ cs)) ≡ false = grind (arith, nat_tests) in rw (f, some) refl

-- what the first line shows
record ShowsFirst (f : Fragment) (fs : List Fragment) (rest : List ℕ) : Type 0 where
  plain : not (is_blank (first (joined (line_words (f ∷ fs)) rest))) ≡ true
  some : shows (f ∷ fs) ≡ true

first_shows : (i : Indentation) (f : Fragment) (fs : List Fragment) (rest : List ℕ) → FragmentsFit i (f ∷ fs) → shows_first (f ∷ fs) ≡ true → ShowsFirst f fs rest
first_shows i (expression ws) fs rest fit show = record { plain = refl; some = refl }
first_shows i (text []) fs rest fit show = absurd (let is = fit.0.0 in grind (arith, nat_tests))
first_shows i (text (c ∷ cs)) [] rest fit show = record { plain = show; some = first_blanks c cs show }
first_shows i (text (c ∷ cs)) (text u ∷ fs) rest fit show = record { plain = show; some = refl }
first_shows i (text (c ∷ cs)) (expression ws ∷ fs) rest fit show = record { plain = show; some = refl }

pub bodies_lex : BodiesLex
bodies_lex ind [] lines rest is fit show fits_lines ends = cc
bodies_lex ind (f ∷ fs) lines rest is fit show fits_lines ends =
    let i : Indentation = indentation_of ind in
    let tail : List Word = lines_words ind lines ++ word Dedent [] ∷ [] in
    let whole : List Word = line_words (f ∷ fs) ++ tail in
    let shape : joined whole rest ≡ joined (line_words (f ∷ fs)) (joined tail rest) = joined_append (line_words (f ∷ fs)) tail rest in
    let showing = first_shows i f fs (joined tail rest) fit show in
    let plain : not (is_blank (first (joined whole rest))) ≡ true = rw shape showing.plain in
    let blank : is_blank_line (joined whole rest) ≡ false = ap (λ x. is_blank_line x) shape ∙ line_shows i f fs (joined tail rest) fit showing.some in
    let more : at_end (joined whole rest) ≡ false = sym (blank_line_end (joined whole rest) (never _ plain)) ∙ blank in
    joins_up (at_line true) (in_body i) (at_line false) (word Indent ind ∷ []) whole rest
    (bodies_begin ind (joined whole rest) is plain (rw more refl))
    (joins_up (in_body i) (at_body_line i) (at_line false) (line_words (f ∷ fs)) tail rest (line_lexes i (f ∷ fs) (joined tail rest) fit)
    (joins_up (at_body_line i) (at_body_line i) (at_line false) (lines_words ind lines) (word Dedent [] ∷ []) rest (lines_lex ind lines rest is fits_lines) (bodies_end i rest ends)))
