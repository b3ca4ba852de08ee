-- A kind that reaches something in a line is the token's that the code finds, where no longer mark begins with it.
use Rattle.std.proofs.Common.{◌≡◌, ℕ, ◌+◌, ◌<◌, Bool, true, false, not, cond, ◌&&◌, ◌||◌, ◌==◌, ◌⊎◌, nat_lt, List, drop, Ok, Option, Some, refl, sym, ap, ◌∙◌, inl, inr, arith, eqb-true}
use Rattle.std.proofs.lemmas.Bool.{and_parts, cond_both}
use Rattle.std.proofs.lemmas.Bool.Decides.{nat_tests}
use Rattle.std.specs.List.{prefix_len}
use Rattle.just_text.specs.declared.delimiter.Delimiter.TheVariants as delimiters
use Rattle.just_text.specs.declared.token_kind.TokenKind.{TokenKind}
use Rattle.just_text.specs.declared.token_kind.TokenKind.TheVariants.{AmpersandAmpersand, Asterisk, At, Backtick, Bang, BangEquals, BangTilde, BarBar, BraceL, BraceR, BracketL, BracketR, ByteOrderMark, Colon, ColonColon, ColonEquals, Comma, Comment, Dedent, Dollar, Eof, Eol, Equals, EqualsEquals, EqualsTilde, FormatStringContinue, FormatStringEnd, FormatStringStart, Identifier, Indent, InterpolationEnd, InterpolationStart, ParenL, ParenR, Plus, PlusPlus, QuestionMark, Slash, StringToken, Text, Whitespace}
use Rattle.just_lexer.specs.declared.quotes.Quotes.{Quotes}
use Rattle.just_lexer.specs.declared.mode.Open.{Open}
use Rattle.just_lexer.specs.declared.mode.Open.TheVariants.{Bracket, Interpolation, FormatInterpolation}
use Rattle.just_lexer.specs.Classes.{first, second, is_letter, is_word, is_blank, is_quote, at_two, line_end_len, at_line_end, continued_len, at_continuation, at_closing_braces, line_len, blank_len}
use Rattle.just_lexer.specs.Strings.{ended_len, opened_len, opens_string, ends_in_format_interpolation}
use Rattle.just_lexer.specs.Modes.{in_brackets}
use Rattle.just_lexer.specs.Longest.{one, two, name_len, string_len, part_behind, white_len, reach, is_bracket, is_interpolation, is_format_interpolation, is_line_kind}
use Rattle.just_lexer.specs.Lexing.{part_token, closing_token, other_token, single_token, mark_token, blank_token, word_token}
use Rattle.justfile_syntax.specs.Fits.{goes_no_further}
use Rattle.just_lexer.proofs.Beats.{blank_cases, end_cases, continuation_from, neither, no_quote, no_tick, not_nothing, paren_closes, bracket_closes, brace_closes, interpolation_closes, part_continues, part_ends}

-- closing marks

module _ (inner : Option Open) (text : List ℕ) where
  abbrev Is : TokenKind → ℕ → Type 0
  Is k n = word_token inner text ≡ Ok (k, n)

  one_is : (k : TokenKind) (a : ℕ) → (first text ≡ a → Is k 1) → 0 < one a text → Is k (one a text)
  one_is k a f = cond_both (first text == a) 1 0 (λ n. 0 < n → Is k n) (λ h p. f (eqb-true (first text) a h)) (λ h p. absurd (omega arith))

  two_is : (k : TokenKind) (a b : ℕ) → (first text ≡ a → second text ≡ b → Is k 2) → 0 < two a b text → Is k (two a b text)
  two_is k a b f =
      cond_both (at_two a b text) 2 0 (λ n. 0 < n → Is k n)
      (λ h p. let both = and_parts (first text == a) (second text == b) h in f (eqb-true (first text) a both.0) (eqb-true (second text) b both.1))
      (λ h p. absurd (omega arith))

  name_is : 0 < name_len text → Is Identifier (name_len text)
  unfolding word_token
  name_is =
      cond_both (is_letter (first text) && not (opens_string 120 text || opens_string 102 text)) (prefix_len is_word text) 0 (λ n. 0 < n → Is Identifier n)
      (λ h p.
      let both = and_parts (is_letter (first text)) (not (opens_string 120 text || opens_string 102 text)) h in
      let plain = neither (opens_string 120 text) (opens_string 102 text) both.1 in
      rw (no_quote (first text) both.0, plain.0, plain.1, no_tick (first text) both.0, both.0) refl)
      (λ h p. absurd (omega arith))

  string_is : 0 < string_len text → Is StringToken (string_len text)
  unfolding word_token
  string_is =
      cond_both (is_quote (first text)) (opened_len false 0 text) _ (λ n. 0 < n → Is StringToken n)
      (λ h p. rw (h, not_nothing (opened_len false 0 text) p) refl)
      (λ no. cond_both (opens_string 120 text) (opened_len false 1 text) 0 (λ n. 0 < n → Is StringToken n)
      (λ h p. rw (no, h, not_nothing (opened_len false 1 text) p) refl)
      (λ h p. absurd (omega arith)))

  format_is : 0 < reach inner FormatStringStart text → Is FormatStringStart (reach inner FormatStringStart text)
  unfolding word_token
  format_is =
      cond_both (opens_string 102 text) (opened_len true 1 text) 0 (λ n. 0 < n → Is FormatStringStart n)
      (λ h p.
      let f : first text ≡ 102 = eqb-true (first text) 102 (and_parts (first text == 102) (is_quote (second text)) h).0 in
      let quote : is_quote (second text) ≡ true = (and_parts (first text == 102) (is_quote (second text)) h).1 in
      rw (f, quote, not_nothing (opened_len true 1 text) p) refl)
      (λ h p. absurd (omega arith))

  command_is : 0 < reach inner Backtick text → Is Backtick (reach inner Backtick text)
  unfolding word_token
  command_is =
      cond_both (first text == 96) (opened_len false 0 text) 0 (λ n. 0 < n → Is Backtick n)
      (λ h p. let tick : first text ≡ 96 = eqb-true (first text) 96 h in let some : (opened_len false 0 text == 0) ≡ false = not_nothing _ p in rw some (rw tick refl))
      (λ h p. absurd (omega arith))

  comment_is : 0 < reach inner Comment text → Is Comment (reach inner Comment text)
  unfolding word_token blank_token
  comment_is =
      cond_both (first text == 35) (line_len text) 0 (λ n. 0 < n → Is Comment n)
      (λ h p. let mark : first text ≡ 35 = eqb-true (first text) 35 h in rw mark refl)
      (λ h p. absurd (omega arith))

  line_end_is : 0 < line_end_len text → word_token inner text ≡ Ok (cond (in_brackets inner) Whitespace Eol, line_end_len text)
  unfolding word_token blank_token
  line_end_is p = elim (end_cases text p) [ inl e ↦ rw e refl | inr e ↦ rw (e.0, e.1) refl ]

  eol_is : not (in_brackets inner) ≡ true → 0 < line_end_len text → Is Eol (line_end_len text)
  eol_is outside p = line_end_is p ∙ (let plain : in_brackets inner ≡ false = grind (arith, nat_tests) in rw plain refl)

  white_is : 0 < white_len (in_brackets inner) text → Is Whitespace (white_len (in_brackets inner) text)
  unfolding word_token blank_token mark_token single_token other_token
  white_is =
      cond_both (is_blank (first text)) (blank_len text) _ (λ n. 0 < n → Is Whitespace n)
      (λ h p. elim (blank_cases (first text) h) [ inl e ↦ rw e refl | inr e ↦ rw e refl ])
      (λ _. cond_both (at_continuation text) (1 + continued_len text) _ (λ n. 0 < n → Is Whitespace n)
      (λ h p. let (slash, ends) = continuation_from text h in rw slash (rw slash (rw (slash, ends) refl)))
      (λ _. cond_both (in_brackets inner) (line_end_len text) 0 (λ n. 0 < n → Is Whitespace n)
      (λ inside p. line_end_is p ∙ rw inside refl)
      (λ _ p. absurd (omega arith))))

  continue_is : is_format_interpolation inner ≡ true → 0 < reach inner FormatStringContinue text → Is FormatStringContinue (reach inner FormatStringContinue text)
  continue_is format_interpolation =
      cond_both (ends_in_format_interpolation (part_behind inner text) text) (part_behind inner text) 0 (λ n. 0 < n → Is FormatStringContinue n)
      (λ h p. part_continues inner text format_interpolation p h)
      (λ h p. absurd (omega arith))

  end_is : is_format_interpolation inner ≡ true → 0 < reach inner FormatStringEnd text → Is FormatStringEnd (reach inner FormatStringEnd text)
  end_is format_interpolation =
      cond_both (ends_in_format_interpolation (part_behind inner text) text) 0 (part_behind inner text) (λ n. 0 < n → Is FormatStringEnd n)
      (λ h p. absurd (omega arith))
      (λ h p. part_ends inner text format_interpolation p h)

  pub word_is : (k : TokenKind) → is_line_kind inner k ≡ true → 0 < reach inner k text → goes_no_further k (second text) ≡ true → Is k (reach inner k text)
  unfolding word_token blank_token mark_token single_token
  word_is AmpersandAmpersand e p further = two_is AmpersandAmpersand 38 38 (λ x y. rw (x, y) refl) p
  word_is Asterisk e p further = one_is Asterisk 42 (λ x. rw x refl) p
  word_is At e p further = one_is At 64 (λ x. rw x refl) p
  word_is Backtick e p further = command_is p
  word_is Bang e p further = one_is Bang 33 (λ x. let no_61 : (second text == 61) ≡ false = grind (arith, nat_tests) in let no_126 : (second text == 126) ≡ false = grind (arith, nat_tests) in rw x (rw (no_61, no_126) refl)) p
  word_is BangEquals e p further = two_is BangEquals 33 61 (λ x y. rw (x, y) refl) p
  word_is BangTilde e p further = two_is BangTilde 33 126 (λ x y. rw (x, y) refl) p
  word_is BarBar e p further = two_is BarBar 124 124 (λ x y. rw (x, y) refl) p
  word_is BraceL e p further = one_is BraceL 123 (λ x. rw x refl) p
  word_is BraceR e p further = one_is BraceR 125 (brace_closes inner text e) p
  word_is BracketL e p further = one_is BracketL 91 (λ x. rw x refl) p
  word_is BracketR e p further = one_is BracketR 93 (bracket_closes inner text e) p
  word_is ByteOrderMark e p further = cc
  word_is Colon e p further = one_is Colon 58 (λ x. let no_58 : (second text == 58) ≡ false = grind (arith, nat_tests) in let no_61 : (second text == 61) ≡ false = grind (arith, nat_tests) in rw x (rw (no_58, no_61) refl)) p
  word_is ColonColon e p further = two_is ColonColon 58 58 (λ x y. rw (x, y) refl) p
  word_is ColonEquals e p further = two_is ColonEquals 58 61 (λ x y. rw (x, y) refl) p
  word_is Comma e p further = one_is Comma 44 (λ x. rw x refl) p
  word_is Comment e p further = comment_is p
  word_is Dedent e p further = cc
  word_is Dollar e p further = one_is Dollar 36 (λ x. rw x refl) p
  word_is Eof e p further = cc
  word_is Eol e p further = eol_is e p
  word_is Equals e p further = one_is Equals 61 (λ x. let no_61 : (second text == 61) ≡ false = grind (arith, nat_tests) in let no_126 : (second text == 126) ≡ false = grind (arith, nat_tests) in rw x (rw (no_61, no_126) refl)) p
  word_is EqualsEquals e p further = two_is EqualsEquals 61 61 (λ x y. rw (x, y) refl) p
  word_is EqualsTilde e p further = two_is EqualsTilde 61 126 (λ x y. rw (x, y) refl) p
  word_is FormatStringContinue e p further = continue_is e p
  word_is FormatStringEnd e p further = end_is e p
  word_is FormatStringStart e p further = format_is p
  word_is Identifier e p further = name_is p
  word_is Indent e p further = cc
  word_is InterpolationEnd e p further = two_is InterpolationEnd 125 125 (interpolation_closes inner text e) p
  word_is InterpolationStart e p further = cc
  word_is ParenL e p further = one_is ParenL 40 (λ x. rw x refl) p
  word_is ParenR e p further = one_is ParenR 41 (paren_closes inner text e) p
  word_is Plus e p further = one_is Plus 43 (λ x. let no_43 : (second text == 43) ≡ false = grind (arith, nat_tests) in rw x (rw no_43 refl)) p
  word_is PlusPlus e p further = two_is PlusPlus 43 43 (λ x y. rw (x, y) refl) p
  word_is QuestionMark e p further = one_is QuestionMark 63 (λ x. rw x refl) p
  word_is Slash e p further = one_is Slash 47 (λ x. rw x refl) p
  word_is StringToken e p further = string_is p
  word_is Text e p further = cc
  word_is Whitespace e p further = white_is p
