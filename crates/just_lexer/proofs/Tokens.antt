-- The token that the code finds in a line is of a kind that is allowed there, and as long as the kind reaches.
use Rattle.std.proofs.Common.{◌≡◌, ℕ, ◌+◌, ◌<◌, Bool, true, false, cond, ◌==◌, List, length, Ok, Err, Option, Some, None, refl, arith}
use Rattle.std.specs.Prelude.{IfSome}
use Rattle.std.specs.List.{prefix_len}
use Rattle.std.proofs.lemmas.Bool.{cond_both}
use Rattle.std.proofs.lemmas.Bool.Decides.{nat_tests}
use Rattle.just_text.specs.Texts.{closing}
use Rattle.just_text.specs.declared.delimiter.Delimiter.{Delimiter}
use Rattle.just_text.specs.declared.delimiter.Delimiter.TheVariants as delimiters
use Rattle.just_text.specs.declared.token_kind.TokenKind.{TokenKind}
use Rattle.just_text.specs.declared.token_kind.TokenKind.TheVariants.{AmpersandAmpersand, Asterisk, At, Backtick, Bang, BangEquals, BangTilde, BarBar, BraceL, BracketL, Colon, ColonColon, ColonEquals, Comma, Comment, Dollar, Eol, Equals, EqualsEquals, EqualsTilde, FormatStringContinue, FormatStringEnd, FormatStringStart, Identifier, InterpolationEnd, ParenL, Plus, PlusPlus, QuestionMark, Slash, StringToken, Whitespace}
use Rattle.just_lexer.specs.declared.fault.Fault.{Fault}
use Rattle.just_lexer.specs.declared.fault.Fault.TheVariants as faults
use Rattle.just_lexer.specs.declared.quotes.Quotes.{Quotes}
use Rattle.just_lexer.specs.declared.mode.Open.{Open}
use Rattle.just_lexer.specs.declared.mode.Open.TheVariants.{Bracket, Interpolation, FormatInterpolation}
use Rattle.just_lexer.specs.Classes.{first, second, is_letter, is_word, is_blank, is_quote, line_end_len, at_line_end, continued_len, at_continuation, at_closing_braces, line_len, blank_len}
use Rattle.just_lexer.specs.Strings.{ended_len, opened_len, opens_string, ends_in_format_interpolation}
use Rattle.just_lexer.specs.Modes.{in_brackets}
use Rattle.just_lexer.specs.Longest.{reach, is_line_kind}
use Rattle.just_lexer.specs.Lexing.{Found, sized, mark_of, twice, single_kind, closer_of, closer_kind, close_token, part_token, closing_token, other_token, closer_token, single_or_closer, single_token, mark_token, blank_token, word_token}
use Rattle.just_lexer.proofs.Scans.{until_some}
use Rattle.just_lexer.proofs.Steps.{AtFound, run_positive, letter_is_word, closer_is}

-- a kind of a line that reaches so far
pub record IsReached (inner : Option Open) (text : List ℕ) (k : TokenKind) (n : ℕ) : Type 0 where
  pub in_line : is_line_kind inner k ≡ true
  pub reaches : reach inner k text ≡ n
  pub some : 0 < n

no_slash : (text : List ℕ) → at_line_end text ≡ true → (first text == 92) ≡ false
no_slash text e = grind (arith, nat_tests)

not_blank : (b : ℕ) → (b == 92) ≡ true → is_blank b ≡ false
not_blank b e = grind (arith, nat_tests)

continues_at_slash : (text : List ℕ) → at_continuation text ≡ true → (first text == 92) ≡ true
continues_at_slash text e = grind (arith, nat_tests)

no_continuation : (text : List ℕ) → (first text == 92) ≡ false → at_continuation text ≡ false
no_continuation text e = rw e refl

-- a bracket closes itself alone
closes_own : (opener closer : Delimiter) → (closing opener == closing closer) ≡ true → is_line_kind (Some (Bracket opener)) (closer_kind closer) ≡ true
closes_own delimiters.Brace delimiters.Brace e = refl
closes_own delimiters.Bracket delimiters.Bracket e = refl
closes_own delimiters.Paren delimiters.Paren e = refl
closes_own _ _ e = cc

closer_reaches : (inner : Option Open) (text : List ℕ) (closer : Delimiter) → first text ≡ closing closer → reach inner (closer_kind closer) text ≡ 1
closer_reaches inner text delimiters.Brace e = rw e refl
closer_reaches inner text delimiters.Bracket e = rw e refl
closer_reaches inner text delimiters.Paren e = rw e refl

module _ (text : List ℕ) where
  abbrev IsIn : Option Open → Found → Type 0
  IsIn inner found = AtFound (IsReached inner text) found

  sized_is : (inner : Option Open) (k : TokenKind) (f : Fault) (n : ℕ) → is_line_kind inner k ≡ true → reach inner k text ≡ n → IsIn inner (sized k f n)
  sized_is inner k f n line r =
      cond_both (n == 0) (Err f) (Ok (k, n)) (IsIn inner) (λ _. tt) (λ more. record { in_line = line; reaches = r; some = grind (arith, nat_tests) })

  close_is : (inner : Option Open) (closer : Delimiter) → first text ≡ closing closer → IsIn inner (close_token inner closer)
  close_is None closer e = tt
  close_is (Some Interpolation) closer e = tt
  close_is (Some (FormatInterpolation q around)) closer e = tt
  close_is (Some (Bracket opener)) closer e =
      cond_both (closing opener == closing closer) (Ok (closer_kind closer, 1)) (Err (faults.Mismatched opener closer)) (IsIn (Some (Bracket opener)))
      (λ own. record { in_line = closes_own opener closer own; reaches = closer_reaches (Some (Bracket opener)) text closer e; some = omega arith })
      (λ _. tt)

  part_is : (q : Quotes) (around : Bool) → at_closing_braces text ≡ true → IsIn (Some (FormatInterpolation q around)) (part_token (ended_len true q 2 text) text)
  part_is q around braces =
      let n : ℕ = ended_len true q 2 text in
      cond_both (ends_in_format_interpolation n text) FormatStringContinue FormatStringEnd (λ k. IsIn (Some (FormatInterpolation q around)) (sized k faults.UnclosedString n))
      (λ format_interpolation. sized_is (Some (FormatInterpolation q around)) FormatStringContinue faults.UnclosedString n refl (rw (braces, format_interpolation) refl))
      (λ format_interpolation. sized_is (Some (FormatInterpolation q around)) FormatStringEnd faults.UnclosedString n refl (rw (braces, format_interpolation) refl))

  closing_is : (inner : Option Open) (closer : Delimiter) → first text ≡ closing closer → IsIn inner (closing_token inner closer text)
  unfolding closing_token
  closing_is None closer e = close_is None closer e
  closing_is (Some (Bracket opener)) closer e = close_is (Some (Bracket opener)) closer e
  closing_is (Some Interpolation) closer e =
      cond_both (at_closing_braces text) (Ok (InterpolationEnd, 2)) (close_token (Some Interpolation) closer) (IsIn (Some Interpolation))
      (λ braces. record { in_line = refl; reaches = rw braces refl; some = omega arith })
      (λ _. close_is (Some Interpolation) closer e)
  closing_is (Some (FormatInterpolation q around)) closer e =
      cond_both (at_closing_braces text) (part_token (ended_len true q 2 text) text) (close_token (Some (FormatInterpolation q around)) closer) (IsIn (Some (FormatInterpolation q around)))
      (λ braces. part_is q around braces)
      (λ _. close_is (Some (FormatInterpolation q around)) closer e)

  module _ (inner : Option Open) where
    P : Found → Type 0
    P found = IsIn inner found

    other_is : P (other_token text)
    unfolding P other_token
    other_is =
        cond_both (at_continuation text) (Ok (Whitespace, 1 + continued_len text)) _ P
        (λ e. let plain : is_blank (first text) ≡ false = not_blank (first text) (continues_at_slash text e) in record { in_line = refl; reaches = rw (plain, e) refl; some = omega arith })
        (λ _. cond_both (first text == 92) (Err faults.Escape) _ P (λ _. tt)
        (λ _. cond_both (first text == 13) (Err faults.UnpairedReturn) (Err faults.UnknownStart) P (λ _. tt) (λ _. tt)))

    closer_is_in : (o : Option Delimiter) → IfSome o (λ closer. first text ≡ closing closer) → P (closer_token o inner text)
    unfolding P
    closer_is_in None h = other_is
    closer_is_in (Some closer) h = closing_is inner closer h

    abbrev IsOne : Option TokenKind → Type 0
    IsOne o = IfSome o (λ k. (is_line_kind inner k ≡ true) × (reach inner k text ≡ 1))

    single_is_one : IsOne (single_kind (first text))
    single_is_one =
        cond_both (first text == 36) (Some Dollar) _ IsOne (λ e. (refl, rw e refl))
        (λ _. cond_both (first text == 40) (Some ParenL) _ IsOne (λ e. (refl, rw e refl))
        (λ _. cond_both (first text == 42) (Some Asterisk) _ IsOne (λ e. (refl, rw e refl))
        (λ _. cond_both (first text == 44) (Some Comma) _ IsOne (λ e. (refl, rw e refl))
        (λ _. cond_both (first text == 47) (Some Slash) _ IsOne (λ e. (refl, rw e refl))
        (λ _. cond_both (first text == 63) (Some QuestionMark) _ IsOne (λ e. (refl, rw e refl))
        (λ _. cond_both (first text == 64) (Some At) _ IsOne (λ e. (refl, rw e refl))
        (λ _. cond_both (first text == 91) (Some BracketL) _ IsOne (λ e. (refl, rw e refl))
        (λ _. cond_both (first text == 123) (Some BraceL) None IsOne (λ e. (refl, rw e refl)) (λ _. tt)))))))))

    single_case : (o : Option TokenKind) → IsOne o → P (single_or_closer o inner text)
    unfolding P
    single_case None h = closer_is_in (closer_of (first text)) (closer_is (first text))
    single_case (Some k) h = record { in_line = h.0; reaches = h.1; some = omega arith }

    single_is : P (single_token inner text)
    unfolding single_token
    single_is = single_case (single_kind (first text)) single_is_one

    -- a mark that may go on
    abbrev IsMark : TokenKind → ℕ → Type 0
    IsMark k n = (is_line_kind inner k ≡ true) × (reach inner k text ≡ n)

    mark_is : (k : TokenKind) (a : ℕ) (k_a : TokenKind) (b : ℕ) (k_b : TokenKind) → IsMark k 1 → ((second text == a) ≡ true → IsMark k_a 2) → ((second text == b) ≡ true → IsMark k_b 2) → P (mark_of k a k_a b k_b (second text))
    unfolding P
    mark_is k a k_a b k_b one two_a two_b =
        cond_both (second text == a) (Ok (k_a, 2)) _ P
        (λ e. record { in_line = (two_a e).0; reaches = (two_a e).1; some = omega arith })
        (λ _. cond_both (second text == b) (Ok (k_b, 2)) (Ok (k, 1)) P
        (λ e. record { in_line = (two_b e).0; reaches = (two_b e).1; some = omega arith })
        (λ _. record { in_line = one.0; reaches = one.1; some = omega arith }))

    twice_is : (k : TokenKind) (a : ℕ) → ((second text == a) ≡ true → IsMark k 2) → P (twice k a (second text))
    unfolding P
    twice_is k a two_a =
        cond_both (second text == a) (Ok (k, 2)) (Err (faults.Alone a)) P
        (λ e. record { in_line = (two_a e).0; reaches = (two_a e).1; some = omega arith })
        (λ _. tt)

    marks_are : P (mark_token inner text)
    unfolding mark_token
    marks_are =
        cond_both (first text == 58) (mark_of Colon 58 ColonColon 61 ColonEquals (second text)) _ P
        (λ e. mark_is Colon 58 ColonColon 61 ColonEquals (refl, rw e refl) (λ f. (refl, rw (e, f) refl)) (λ f. (refl, rw (e, f) refl)))
        (λ _. cond_both (first text == 61) (mark_of Equals 61 EqualsEquals 126 EqualsTilde (second text)) _ P
        (λ e. mark_is Equals 61 EqualsEquals 126 EqualsTilde (refl, rw e refl) (λ f. (refl, rw (e, f) refl)) (λ f. (refl, rw (e, f) refl)))
        (λ _. cond_both (first text == 33) (mark_of Bang 61 BangEquals 126 BangTilde (second text)) _ P
        (λ e. mark_is Bang 61 BangEquals 126 BangTilde (refl, rw e refl) (λ f. (refl, rw (e, f) refl)) (λ f. (refl, rw (e, f) refl)))
        (λ _. cond_both (first text == 43) (mark_of Plus 43 PlusPlus 43 PlusPlus (second text)) _ P
        (λ e. mark_is Plus 43 PlusPlus 43 PlusPlus (refl, rw e refl) (λ f. (refl, rw (e, f) refl)) (λ f. (refl, rw (e, f) refl)))
        (λ _. cond_both (first text == 38) (twice AmpersandAmpersand 38 (second text)) _ P
        (λ e. twice_is AmpersandAmpersand 38 (λ f. (refl, rw (e, f) refl)))
        (λ _. cond_both (first text == 124) (twice BarBar 124 (second text)) (single_token inner text) P
        (λ e. twice_is BarBar 124 (λ f. (refl, rw (e, f) refl)))
        (λ _. single_is))))))

    line_end_is : is_blank (first text) ≡ false → at_line_end text ≡ true → P (Ok (cond (in_brackets inner) Whitespace Eol, line_end_len text))
    unfolding P
    line_end_is plain ends =
        let some : 0 < line_end_len text = grind (arith, nat_tests) in
        let none : at_continuation text ≡ false = no_continuation text (no_slash text ends) in
        cond_both (in_brackets inner) Whitespace Eol (λ k. IsReached inner text k (line_end_len text))
        (λ inside. record { in_line = refl; reaches = rw (plain, none, inside) refl; some = some })
        (λ outside. record { in_line = rw outside refl; reaches = refl; some = some })

    blanks_are : 0 < length text → P (blank_token inner text)
    unfolding P blank_token
    blanks_are nonempty =
        cond_both (is_blank (first text)) (Ok (Whitespace, blank_len text)) _ P
        (λ e. record { in_line = refl; reaches = rw e refl; some = run_positive is_blank text refl e })
        (λ plain. cond_both (at_line_end text) (Ok (cond (in_brackets inner) Whitespace Eol, line_end_len text)) _ P
        (λ e. line_end_is plain e)
        (λ no_end. cond_both (first text == 35) (Ok (Comment, line_len text)) (mark_token inner text) P
        (λ e. record { in_line = refl; reaches = rw e refl; some = until_some at_line_end text nonempty no_end })
        (λ _. marks_are)))

    pub token_is_reached : 0 < length text → AtFound (IsReached inner text) (word_token inner text)
    unfolding P word_token
    token_is_reached nonempty =
        cond_both (is_quote (first text)) (sized StringToken faults.UnclosedString (opened_len false 0 text)) _ P
        (λ e. sized_is inner StringToken faults.UnclosedString (opened_len false 0 text) refl (rw e refl))
        (λ plain. cond_both (opens_string 120 text) (sized StringToken faults.UnclosedString (opened_len false 1 text)) _ P
        (λ e. sized_is inner StringToken faults.UnclosedString (opened_len false 1 text) refl (rw (plain, e) refl))
        (λ no_x. cond_both (opens_string 102 text) (sized FormatStringStart faults.UnclosedString (opened_len true 1 text)) _ P
        (λ e. sized_is inner FormatStringStart faults.UnclosedString (opened_len true 1 text) refl (rw e refl))
        (λ no_f. cond_both (first text == 96) (sized Backtick faults.UnclosedCommand (opened_len false 0 text)) _ P
        (λ e. sized_is inner Backtick faults.UnclosedCommand (opened_len false 0 text) refl (rw e refl))
        (λ _. cond_both (is_letter (first text)) (Ok (Identifier, prefix_len is_word text)) (blank_token inner text) P
        (λ e. record { in_line = refl; reaches = rw (e, no_x, no_f) refl; some = run_positive is_word text refl (letter_is_word (first text) e) })
        (λ _. blanks_are nonempty)))))
