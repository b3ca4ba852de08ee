-- A kind that reaches something in a line is the token's that the code finds, or reaches less.
use Rattle.std.proofs.Common.{◌≡◌, ℕ, ◌+◌, ◌<◌, Bool, true, false, not, cond, ◌&&◌, ◌||◌, ◌==◌, ◌⊎◌, nat_lt, List, drop, Ok, Err, Option, Some, refl, sym, ap, ◌∙◌, subst, inl, inr, arith, eqb-true}
use Rattle.std.proofs.lemmas.Bool.{and_parts, cond_both}
use Rattle.std.proofs.lemmas.Bool.Decides.{nat_tests}
use Rattle.std.specs.List.{prefix_len}
use Rattle.just_text.specs.declared.delimiter.Delimiter.TheVariants as delimiters
use Rattle.just_text.specs.declared.token_kind.TokenKind.{TokenKind}
use Rattle.just_text.specs.declared.token_kind.TokenKind.TheVariants.{AmpersandAmpersand, Asterisk, At, Backtick, Bang, BangEquals, BangTilde, BarBar, BraceL, BraceR, BracketL, BracketR, ByteOrderMark, Colon, ColonColon, ColonEquals, Comma, Comment, Dedent, Dollar, Eof, Eol, Equals, EqualsEquals, EqualsTilde, FormatStringContinue, FormatStringEnd, FormatStringStart, Identifier, Indent, InterpolationEnd, InterpolationStart, ParenL, ParenR, Plus, PlusPlus, QuestionMark, Slash, StringToken, Text, Whitespace}
use Rattle.just_lexer.specs.declared.quotes.Quotes.{Quotes}
use Rattle.just_lexer.specs.declared.mode.Open.{Open}
use Rattle.just_lexer.specs.declared.mode.Open.TheVariants.{Bracket, Interpolation, FormatInterpolation}
use Rattle.just_lexer.specs.Classes.{first, second, is_letter, is_word, is_blank, is_quote, at_two, line_end_len, at_line_end, continued_len, at_continuation, at_closing_braces, line_len, blank_len}
use Rattle.just_lexer.specs.Strings.{ended_len, opened_len, opens_string, ends_in_format_interpolation}
use Rattle.just_lexer.specs.Modes.{in_brackets}
use Rattle.just_lexer.specs.Longest.{one, two, name_len, string_len, part_behind, white_len, reach, is_bracket, is_interpolation, is_format_interpolation, is_line_kind}
use Rattle.just_lexer.specs.Lexing.{Found, mark_of, part_token, closing_token, other_token, single_token, mark_token, blank_token, word_token}

-- what stands at the front of a text that a kind reaches into

one_from : (b : ℕ) (text : List ℕ) → 0 < one b text → first text ≡ b
one_from b text = cond_both (first text == b) 1 0 (λ n. 0 < n → first text ≡ b) (λ h p. eqb-true (first text) b h) (λ h p. absurd (omega arith))

pub two_from : (a b : ℕ) (text : List ℕ) → 0 < two a b text → (first text ≡ a) × (second text ≡ b)
two_from a b text =
    cond_both (at_two a b text) 2 0 (λ n. 0 < n → (first text ≡ a) × (second text ≡ b))
    (λ h p. let both = and_parts (first text == a) (second text == b) h in (eqb-true (first text) a both.0, eqb-true (second text) b both.1))
    (λ h p. absurd (omega arith))

pub blank_cases : (b : ℕ) → is_blank b ≡ true → (b ≡ 32) ⊎ (b ≡ 9)
blank_cases b h = grind (arith, nat_tests)

pub end_cases : (text : List ℕ) → 0 < line_end_len text → (first text ≡ 10) ⊎ ((first text ≡ 13) × (second text ≡ 10))
end_cases text =
    cond_both (first text == 10) 1 (two 13 10 text) (λ n. 0 < n → (first text ≡ 10) ⊎ ((first text ≡ 13) × (second text ≡ 10)))
    (λ h p. inl (eqb-true (first text) 10 h))
    (λ h p. inr (two_from 13 10 text p))

pub continuation_from : (text : List ℕ) → at_continuation text ≡ true → (first text ≡ 92) × (at_line_end (drop 1 text) ≡ true)
continuation_from text =
    cond_both (first text == 92) (line_end_len (drop 1 text)) 0 (λ n. nat_lt 0 n ≡ true → (first text ≡ 92) × (at_line_end (drop 1 text) ≡ true))
    (λ h p. (eqb-true (first text) 92 h, p))
    (λ h p. cc)

pub neither : (a b : Bool) → not (a || b) ≡ true → (a ≡ false) × (b ≡ false)
neither true b e = cc
neither false true e = cc
neither false false e = (refl, refl)

pub no_quote : (b : ℕ) → is_letter b ≡ true → is_quote b ≡ false
no_quote b h = grind (arith, nat_tests)

pub no_tick : (b : ℕ) → is_letter b ≡ true → (b == 96) ≡ false
no_tick b h = grind (arith, nat_tests)

pub not_nothing : (n : ℕ) → 0 < n → (n == 0) ≡ false
not_nothing n p = grind (arith, nat_tests)

-- closing marks

pub paren_closes : (inner : Option Open) (text : List ℕ) → is_bracket inner delimiters.Paren ≡ true → first text ≡ 41 → word_token inner text ≡ Ok (ParenR, 1)
unfolding word_token blank_token mark_token single_token closing_token
paren_closes (Some (Bracket delimiters.Paren)) text h e = rw e (rw e refl)
paren_closes _ text h e = cc

pub bracket_closes : (inner : Option Open) (text : List ℕ) → is_bracket inner delimiters.Bracket ≡ true → first text ≡ 93 → word_token inner text ≡ Ok (BracketR, 1)
unfolding word_token blank_token mark_token single_token closing_token
bracket_closes (Some (Bracket delimiters.Bracket)) text h e = rw e (rw e refl)
bracket_closes _ text h e = cc

pub brace_closes : (inner : Option Open) (text : List ℕ) → is_bracket inner delimiters.Brace ≡ true → first text ≡ 125 → word_token inner text ≡ Ok (BraceR, 1)
unfolding word_token blank_token mark_token single_token closing_token
brace_closes (Some (Bracket delimiters.Brace)) text h e = rw e (rw e refl)
brace_closes _ text h e = cc

pub interpolation_closes : (inner : Option Open) (text : List ℕ) → is_interpolation inner ≡ true → first text ≡ 125 → second text ≡ 125 → word_token inner text ≡ Ok (InterpolationEnd, 2)
unfolding word_token blank_token mark_token single_token closing_token
interpolation_closes (Some Interpolation) text h a b = rw a (rw a (rw (a, b) refl))
interpolation_closes _ text h a b = cc

pub part_follows : (q : Quotes) (around : Bool) (text : List ℕ) → first text ≡ 125 → second text ≡ 125 → word_token (Some (FormatInterpolation q around)) text ≡ part_token (ended_len true q 2 text) text
unfolding word_token blank_token mark_token single_token closing_token
part_follows q around text a b = rw a (rw a (rw (a, b) refl))

-- a part that is there has two closing braces at its front, and this length
pub part_from : (q : Quotes) (around : Bool) (text : List ℕ) → 0 < part_behind (Some (FormatInterpolation q around)) text → ((first text ≡ 125) × (second text ≡ 125)) × (part_behind (Some (FormatInterpolation q around)) text ≡ ended_len true q 2 text)
part_from q around text =
    cond_both (at_closing_braces text) (ended_len true q 2 text) 0 (λ n. 0 < n → ((first text ≡ 125) × (second text ≡ 125)) × (n ≡ ended_len true q 2 text))
    (λ h p. let both = and_parts (first text == 125) (second text == 125) h in ((eqb-true (first text) 125 both.0, eqb-true (second text) 125 both.1), refl))
    (λ h p. absurd (omega arith))

pub part_continues : (inner : Option Open) (text : List ℕ) → is_format_interpolation inner ≡ true → 0 < part_behind inner text → ends_in_format_interpolation (part_behind inner text) text ≡ true → word_token inner text ≡ Ok (FormatStringContinue, part_behind inner text)
part_continues (Some (FormatInterpolation q around)) text h p format_interpolation =
    let (braces, len) = part_from q around text p in
    let some : (part_behind (Some (FormatInterpolation q around)) text == 0) ≡ false = not_nothing _ p in
    part_follows q around text braces.0 braces.1 ∙ ap (λ n. part_token n text) (sym len) ∙ rw (some, format_interpolation) refl
part_continues _ text h p format_interpolation = cc

pub part_ends : (inner : Option Open) (text : List ℕ) → is_format_interpolation inner ≡ true → 0 < part_behind inner text → ends_in_format_interpolation (part_behind inner text) text ≡ false → word_token inner text ≡ Ok (FormatStringEnd, part_behind inner text)
part_ends (Some (FormatInterpolation q around)) text h p format_interpolation =
    let (braces, len) = part_from q around text p in
    let some : (part_behind (Some (FormatInterpolation q around)) text == 0) ≡ false = not_nothing _ p in
    part_follows q around text braces.0 braces.1 ∙ ap (λ n. part_token n text) (sym len) ∙ rw (some, format_interpolation) refl
part_ends _ text h p format_interpolation = cc

-- the kind is the token's or reaches less
abbrev pub BeatenBy : Option Open → List ℕ → TokenKind → Found → Type 0
BeatenBy inner text k (Ok x) = (k ≡ x.0) ⊎ (reach inner k text < x.1)
BeatenBy inner text k (Err f) = ⊥

module _ (inner : Option Open) (text : List ℕ) where
  abbrev Beaten : TokenKind → Type 0
  Beaten k = BeatenBy inner text k (word_token inner text)

  given : (k : TokenKind) (n : ℕ) → word_token inner text ≡ Ok (k, n) → Beaten k
  given k n e = subst (BeatenBy inner text k) (sym e) (inl refl)

  -- a mark that may go on
  shorter : (k : TokenKind) (a : ℕ) (k_a : TokenKind) (b : ℕ) (k_b : TokenKind) → reach inner k text ≡ 1 → word_token inner text ≡ mark_of k a k_a b k_b (second text) → Beaten k
  shorter k a k_a b k_b r e =
      subst (BeatenBy inner text k) (sym e)
      (cond_both (second text == a) (Ok (k_a, 2)) (cond (second text == b) (Ok (k_b, 2)) (Ok (k, 1))) (BeatenBy inner text k)
      (λ _. inr (omega (arith, r)))
      (λ _. cond_both (second text == b) (Ok (k_b, 2)) (Ok (k, 1)) (BeatenBy inner text k) (λ _. inr (omega (arith, r))) (λ _. inl refl)))

  name_beats : 0 < name_len text → Beaten Identifier
  unfolding word_token
  name_beats =
      cond_both (is_letter (first text) && not (opens_string 120 text || opens_string 102 text)) (prefix_len is_word text) 0 (λ n. 0 < n → Beaten Identifier)
      (λ h p.
      let both = and_parts (is_letter (first text)) (not (opens_string 120 text || opens_string 102 text)) h in
      let plain = neither (opens_string 120 text) (opens_string 102 text) both.1 in
      given Identifier (prefix_len is_word text) (rw (no_quote (first text) both.0, plain.0, plain.1, no_tick (first text) both.0, both.0) refl))
      (λ h p. absurd (omega arith))

  string_beats : 0 < string_len text → Beaten StringToken
  unfolding word_token
  string_beats =
      cond_both (is_quote (first text)) (opened_len false 0 text) _ (λ n. 0 < n → Beaten StringToken)
      (λ h p. given StringToken (opened_len false 0 text) (rw (h, not_nothing (opened_len false 0 text) p) refl))
      (λ no. cond_both (opens_string 120 text) (opened_len false 1 text) 0 (λ n. 0 < n → Beaten StringToken)
      (λ h p. given StringToken (opened_len false 1 text) (rw (no, h, not_nothing (opened_len false 1 text) p) refl))
      (λ h p. absurd (omega arith)))

  format_beats : 0 < reach inner FormatStringStart text → Beaten FormatStringStart
  unfolding word_token
  format_beats =
      cond_both (opens_string 102 text) (opened_len true 1 text) 0 (λ n. 0 < n → Beaten FormatStringStart)
      (λ h p.
      let f : first text ≡ 102 = eqb-true (first text) 102 (and_parts (first text == 102) (is_quote (second text)) h).0 in
      let quote : is_quote (second text) ≡ true = (and_parts (first text == 102) (is_quote (second text)) h).1 in
      given FormatStringStart (opened_len true 1 text) (rw (f, quote, not_nothing (opened_len true 1 text) p) refl))
      (λ h p. absurd (omega arith))

  command_beats : 0 < reach inner Backtick text → Beaten Backtick
  unfolding word_token
  command_beats =
      cond_both (first text == 96) (opened_len false 0 text) 0 (λ n. 0 < n → Beaten Backtick)
      (λ h p. given Backtick (opened_len false 0 text) (let tick : first text ≡ 96 = eqb-true (first text) 96 h in let some : (opened_len false 0 text == 0) ≡ false = not_nothing _ p in rw some (rw tick refl)))
      (λ h p. absurd (omega arith))

  comment_beats : 0 < reach inner Comment text → Beaten Comment
  unfolding word_token blank_token
  comment_beats =
      cond_both (first text == 35) (line_len text) 0 (λ n. 0 < n → Beaten Comment)
      (λ h p. given Comment (line_len text) (let mark : first text ≡ 35 = eqb-true (first text) 35 h in rw mark refl))
      (λ h p. absurd (omega arith))

  line_end_given : 0 < line_end_len text → word_token inner text ≡ Ok (cond (in_brackets inner) Whitespace Eol, line_end_len text)
  unfolding word_token blank_token
  line_end_given p = elim (end_cases text p) [ inl e ↦ rw e refl | inr e ↦ rw (e.0, e.1) refl ]

  eol_beats : not (in_brackets inner) ≡ true → 0 < line_end_len text → Beaten Eol
  eol_beats outside p = given Eol (line_end_len text) (line_end_given p ∙ (let plain : in_brackets inner ≡ false = grind (arith, nat_tests) in rw plain refl))

  white_beats : 0 < white_len (in_brackets inner) text → Beaten Whitespace
  unfolding word_token blank_token mark_token single_token other_token
  white_beats =
      cond_both (is_blank (first text)) (blank_len text) _ (λ n. 0 < n → Beaten Whitespace)
      (λ h p. given Whitespace (blank_len text) (elim (blank_cases (first text) h) [ inl e ↦ rw e refl | inr e ↦ rw e refl ]))
      (λ _. cond_both (at_continuation text) (1 + continued_len text) _ (λ n. 0 < n → Beaten Whitespace)
      (λ h p. let (slash, ends) = continuation_from text h in given Whitespace (1 + continued_len text) (rw slash (rw slash (rw (slash, ends) refl))))
      (λ _. cond_both (in_brackets inner) (line_end_len text) 0 (λ n. 0 < n → Beaten Whitespace)
      (λ inside p. given Whitespace (line_end_len text) (line_end_given p ∙ rw inside refl))
      (λ _ p. absurd (omega arith))))

  continue_beats : is_format_interpolation inner ≡ true → 0 < reach inner FormatStringContinue text → Beaten FormatStringContinue
  continue_beats format_interpolation =
      cond_both (ends_in_format_interpolation (part_behind inner text) text) (part_behind inner text) 0 (λ n. 0 < n → Beaten FormatStringContinue)
      (λ h p. given FormatStringContinue (part_behind inner text) (part_continues inner text format_interpolation p h))
      (λ h p. absurd (omega arith))

  end_beats : is_format_interpolation inner ≡ true → 0 < reach inner FormatStringEnd text → Beaten FormatStringEnd
  end_beats format_interpolation =
      cond_both (ends_in_format_interpolation (part_behind inner text) text) 0 (part_behind inner text) (λ n. 0 < n → Beaten FormatStringEnd)
      (λ h p. absurd (omega arith))
      (λ h p. given FormatStringEnd (part_behind inner text) (part_ends inner text format_interpolation p h))

  pub beaten : (k : TokenKind) → is_line_kind inner k ≡ true → 0 < reach inner k text → Beaten k
  unfolding word_token blank_token mark_token single_token
  beaten AmpersandAmpersand e p = let two = two_from 38 38 text p in given AmpersandAmpersand 2 (rw (two.0, two.1) refl)
  beaten Asterisk e p = given Asterisk 1 (rw (one_from 42 text p) refl)
  beaten At e p = given At 1 (rw (one_from 64 text p) refl)
  beaten Backtick e p = command_beats p
  beaten Bang e p = let mark = one_from 33 text p in shorter Bang 61 BangEquals 126 BangTilde (rw mark refl) (rw mark refl)
  beaten BangEquals e p = let two = two_from 33 61 text p in given BangEquals 2 (rw (two.0, two.1) refl)
  beaten BangTilde e p = let two = two_from 33 126 text p in given BangTilde 2 (rw (two.0, two.1) refl)
  beaten BarBar e p = let two = two_from 124 124 text p in given BarBar 2 (rw (two.0, two.1) refl)
  beaten BraceL e p = given BraceL 1 (rw (one_from 123 text p) refl)
  beaten BraceR e p = given BraceR 1 (brace_closes inner text e (one_from 125 text p))
  beaten BracketL e p = given BracketL 1 (rw (one_from 91 text p) refl)
  beaten BracketR e p = given BracketR 1 (bracket_closes inner text e (one_from 93 text p))
  beaten ByteOrderMark e p = cc
  beaten Colon e p = let mark = one_from 58 text p in shorter Colon 58 ColonColon 61 ColonEquals (rw mark refl) (rw mark refl)
  beaten ColonColon e p = let two = two_from 58 58 text p in given ColonColon 2 (rw (two.0, two.1) refl)
  beaten ColonEquals e p = let two = two_from 58 61 text p in given ColonEquals 2 (rw (two.0, two.1) refl)
  beaten Comma e p = given Comma 1 (rw (one_from 44 text p) refl)
  beaten Comment e p = comment_beats p
  beaten Dedent e p = cc
  beaten Dollar e p = given Dollar 1 (rw (one_from 36 text p) refl)
  beaten Eof e p = cc
  beaten Eol e p = eol_beats e p
  beaten Equals e p = let mark = one_from 61 text p in shorter Equals 61 EqualsEquals 126 EqualsTilde (rw mark refl) (rw mark refl)
  beaten EqualsEquals e p = let two = two_from 61 61 text p in given EqualsEquals 2 (rw (two.0, two.1) refl)
  beaten EqualsTilde e p = let two = two_from 61 126 text p in given EqualsTilde 2 (rw (two.0, two.1) refl)
  beaten FormatStringContinue e p = continue_beats e p
  beaten FormatStringEnd e p = end_beats e p
  beaten FormatStringStart e p = format_beats p
  beaten Identifier e p = name_beats p
  beaten Indent e p = cc
  beaten InterpolationEnd e p = let two = two_from 125 125 text p in given InterpolationEnd 2 (interpolation_closes inner text e two.0 two.1)
  beaten InterpolationStart e p = cc
  beaten ParenL e p = given ParenL 1 (rw (one_from 40 text p) refl)
  beaten ParenR e p = given ParenR 1 (paren_closes inner text e (one_from 41 text p))
  beaten Plus e p = let mark = one_from 43 text p in shorter Plus 43 PlusPlus 43 PlusPlus (rw mark refl) (rw mark refl)
  beaten PlusPlus e p = let two = two_from 43 43 text p in given PlusPlus 2 (rw (two.0, two.1) refl)
  beaten QuestionMark e p = given QuestionMark 1 (rw (one_from 63 text p) refl)
  beaten Slash e p = given Slash 1 (rw (one_from 47 text p) refl)
  beaten StringToken e p = string_beats p
  beaten Text e p = cc
  beaten Whitespace e p = white_beats p
