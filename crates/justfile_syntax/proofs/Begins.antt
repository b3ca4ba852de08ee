-- What the tokens of each kind begin with.
use Rattle.std.proofs.Common.{◌≡◌, ℕ, ◌+◌, ◌<◌, Bool, true, false, not, ◌&&◌, ◌||◌, ◌==◌, List, ◌∷◌, Option, Some, None, refl, arith}
use Rattle.std.proofs.lemmas.Bool.{and_parts, cond_both}
use Rattle.std.proofs.lemmas.Bool.Decides.{nat_tests}
use Rattle.std.specs.List.{prefix_len}
use Rattle.just_text.specs.declared.token_kind.TokenKind.{TokenKind}
use Rattle.just_text.specs.declared.token_kind.TokenKind.TheVariants.{AmpersandAmpersand, Asterisk, At, Backtick, Bang, BangEquals, BangTilde, BarBar, BraceL, BraceR, BracketL, BracketR, ByteOrderMark, Colon, ColonColon, ColonEquals, Comma, Comment, Dedent, Dollar, Eof, Eol, Equals, EqualsEquals, EqualsTilde, FormatStringContinue, FormatStringEnd, FormatStringStart, Identifier, Indent, InterpolationEnd, InterpolationStart, ParenL, ParenR, Plus, PlusPlus, QuestionMark, Slash, StringToken, Text, Whitespace}
use Rattle.just_lexer.specs.declared.mode.Open.{Open}
use Rattle.just_lexer.specs.declared.mode.Open.TheVariants.{Bracket, Interpolation, FormatInterpolation}
use Rattle.just_lexer.specs.Classes.{second, is_letter, is_word, is_blank, is_quote, at_two, at_closing_braces, at_byte_order_mark, at_continuation, continued_len, line_end_len, line_len, blank_len}
use Rattle.just_lexer.specs.Strings.{opened_len, ended_len, opens_string, ends_in_format_interpolation}
use Rattle.just_lexer.specs.Modes.{in_brackets}
use Rattle.just_lexer.specs.Longest.{one, two, name_len, string_len, part_behind, white_len, reach}

-- what a token of the kind begins with
abbrev pub begins : TokenKind → ℕ → Bool
begins AmpersandAmpersand b = b == 38
begins Asterisk b = b == 42
begins At b = b == 64
begins Backtick b = b == 96
begins Bang b = b == 33
begins BangEquals b = b == 33
begins BangTilde b = b == 33
begins BarBar b = b == 124
begins BraceL b = b == 123
begins BraceR b = b == 125
begins BracketL b = b == 91
begins BracketR b = b == 93
begins ByteOrderMark b = b == 239
begins Colon b = b == 58
begins ColonColon b = b == 58
begins ColonEquals b = b == 58
begins Comma b = b == 44
begins Comment b = b == 35
begins Dedent b = false
begins Dollar b = b == 36
begins Eof b = false
begins Eol b = b == 10 || b == 13
begins Equals b = b == 61
begins EqualsEquals b = b == 61
begins EqualsTilde b = b == 61
begins FormatStringContinue b = b == 125
begins FormatStringEnd b = b == 125
begins FormatStringStart b = b == 102
begins Identifier b = is_letter b
begins Indent b = is_blank b
begins InterpolationEnd b = b == 125
begins InterpolationStart b = b == 123
begins ParenL b = b == 40
begins ParenR b = b == 41
begins Plus b = b == 43
begins PlusPlus b = b == 43
begins QuestionMark b = b == 63
begins Slash b = b == 47
begins StringToken b = is_quote b || b == 120
begins Text b = true
begins Whitespace b = (is_blank b || b == 92) || (b == 10 || b == 13)

first_of_one : (a c : ℕ) (cs : List ℕ) → 0 < one a (c ∷ cs) → (c == a) ≡ true
first_of_one a c cs = cond_both (c == a) 1 0 (λ n. 0 < n → (c == a) ≡ true) (λ t p. t) (λ t p. absurd (omega arith))

first_of_two : (a b c : ℕ) (cs : List ℕ) → 0 < two a b (c ∷ cs) → (c == a) ≡ true
first_of_two a b c cs = cond_both (at_two a b (c ∷ cs)) 2 0 (λ n. 0 < n → (c == a) ≡ true) (λ t p. (and_parts (c == a) (second (c ∷ cs) == b) t).0) (λ t p. absurd (omega arith))

first_of_name : (c : ℕ) (cs : List ℕ) → 0 < name_len (c ∷ cs) → is_letter c ≡ true
first_of_name c cs =
    cond_both (is_letter c && not (opens_string 120 (c ∷ cs) || opens_string 102 (c ∷ cs))) (prefix_len is_word (c ∷ cs)) 0 (λ n. 0 < n → is_letter c ≡ true)
    (λ t p. (and_parts (is_letter c) (not (opens_string 120 (c ∷ cs) || opens_string 102 (c ∷ cs))) t).0)
    (λ t p. absurd (omega arith))

first_of_string : (c : ℕ) (cs : List ℕ) → 0 < string_len (c ∷ cs) → (is_quote c || c == 120) ≡ true
first_of_string c cs =
    cond_both (is_quote c) (opened_len false 0 (c ∷ cs)) _ (λ n. 0 < n → (is_quote c || c == 120) ≡ true) (λ t p. rw t refl)
    (λ f. cond_both (opens_string 120 (c ∷ cs)) (opened_len false 1 (c ∷ cs)) 0 (λ n. 0 < n → (is_quote c || c == 120) ≡ true)
    (λ t p. let x : (c == 120) ≡ true = (and_parts (c == 120) (is_quote (second (c ∷ cs))) t).0 in rw (f, x) refl)
    (λ t p. absurd (omega arith)))

first_of_part : (inner : Option Open) (c : ℕ) (cs : List ℕ) → 0 < part_behind inner (c ∷ cs) → (c == 125) ≡ true
first_of_part (Some (FormatInterpolation q around)) c cs =
    cond_both (at_closing_braces (c ∷ cs)) (ended_len true q 2 (c ∷ cs)) 0 (λ n. 0 < n → (c == 125) ≡ true) (λ t p. (and_parts (c == 125) (second (c ∷ cs) == 125) t).0) (λ t p. absurd (omega arith))
first_of_part (Some (Bracket d)) c cs = λ p. absurd (omega arith)
first_of_part (Some Interpolation) c cs = λ p. absurd (omega arith)
first_of_part None c cs = λ p. absurd (omega arith)

first_of_white : (brackets : Bool) (c : ℕ) (cs : List ℕ) → 0 < white_len brackets (c ∷ cs) → begins Whitespace c ≡ true
first_of_white brackets c cs =
    cond_both (is_blank c) (blank_len (c ∷ cs)) _ (λ n. 0 < n → begins Whitespace c ≡ true) (λ t p. rw t refl)
    (λ f. cond_both (at_continuation (c ∷ cs)) (1 + continued_len (c ∷ cs)) _ (λ n. 0 < n → begins Whitespace c ≡ true) (λ t p. grind (arith, nat_tests))
    (λ g. cond_both brackets (line_end_len (c ∷ cs)) 0 (λ n. 0 < n → begins Whitespace c ≡ true) (λ _ p. grind (arith, nat_tests)) (λ _ p. absurd (omega arith))))

pub begins_with : (inner : Option Open) (j : TokenKind) (c : ℕ) (cs : List ℕ) → 0 < reach inner j (c ∷ cs) → begins j c ≡ true
begins_with inner AmpersandAmpersand c cs = first_of_two 38 38 c cs
begins_with inner Backtick c cs = cond_both (c == 96) (opened_len false 0 (c ∷ cs)) 0 (λ n. 0 < n → (c == 96) ≡ true) (λ t p. t) (λ t p. absurd (omega arith))
begins_with inner BangEquals c cs = first_of_two 33 61 c cs
begins_with inner BangTilde c cs = first_of_two 33 126 c cs
begins_with inner BarBar c cs = first_of_two 124 124 c cs
begins_with inner ByteOrderMark c cs =
    cond_both (at_byte_order_mark (c ∷ cs)) 3 0 (λ n. 0 < n → (c == 239) ≡ true) (λ t p. grind (arith, nat_tests)) (λ t p. absurd (omega arith))
begins_with inner ColonColon c cs = first_of_two 58 58 c cs
begins_with inner ColonEquals c cs = first_of_two 58 61 c cs
begins_with inner Comment c cs = cond_both (c == 35) (line_len (c ∷ cs)) 0 (λ n. 0 < n → (c == 35) ≡ true) (λ t p. t) (λ t p. absurd (omega arith))
begins_with inner Dedent c cs = λ p. absurd (omega arith)
begins_with inner Eof c cs = λ p. absurd (omega arith)
begins_with inner Eol c cs = λ p. grind (arith, nat_tests)
begins_with inner EqualsEquals c cs = first_of_two 61 61 c cs
begins_with inner EqualsTilde c cs = first_of_two 61 126 c cs
begins_with inner FormatStringContinue c cs =
    cond_both (ends_in_format_interpolation (part_behind inner (c ∷ cs)) (c ∷ cs)) (part_behind inner (c ∷ cs)) 0 (λ n. 0 < n → (c == 125) ≡ true) (λ t p. first_of_part inner c cs p) (λ t p. absurd (omega arith))
begins_with inner FormatStringEnd c cs =
    cond_both (ends_in_format_interpolation (part_behind inner (c ∷ cs)) (c ∷ cs)) 0 (part_behind inner (c ∷ cs)) (λ n. 0 < n → (c == 125) ≡ true) (λ t p. absurd (omega arith)) (λ t p. first_of_part inner c cs p)
begins_with inner FormatStringStart c cs =
    cond_both (opens_string 102 (c ∷ cs)) (opened_len true 1 (c ∷ cs)) 0 (λ n. 0 < n → (c == 102) ≡ true) (λ t p. (and_parts (c == 102) (is_quote (second (c ∷ cs))) t).0) (λ t p. absurd (omega arith))
begins_with inner Identifier c cs = first_of_name c cs
begins_with inner Indent c cs = cond_both (is_blank c) _ 0 (λ n. 0 < n → is_blank c ≡ true) (λ t p. t) (λ t p. absurd (omega arith))
begins_with inner InterpolationEnd c cs = first_of_two 125 125 c cs
begins_with inner InterpolationStart c cs = first_of_two 123 123 c cs
begins_with inner PlusPlus c cs = first_of_two 43 43 c cs
begins_with inner StringToken c cs = first_of_string c cs
begins_with inner Text c cs = λ p. refl
begins_with inner Whitespace c cs = first_of_white (in_brackets inner) c cs
begins_with inner Asterisk c cs = first_of_one 42 c cs
begins_with inner At c cs = first_of_one 64 c cs
begins_with inner Bang c cs = first_of_one 33 c cs
begins_with inner BraceL c cs = first_of_one 123 c cs
begins_with inner BraceR c cs = first_of_one 125 c cs
begins_with inner BracketL c cs = first_of_one 91 c cs
begins_with inner BracketR c cs = first_of_one 93 c cs
begins_with inner Colon c cs = first_of_one 58 c cs
begins_with inner Comma c cs = first_of_one 44 c cs
begins_with inner Dollar c cs = first_of_one 36 c cs
begins_with inner Equals c cs = first_of_one 61 c cs
begins_with inner ParenL c cs = first_of_one 40 c cs
begins_with inner ParenR c cs = first_of_one 41 c cs
begins_with inner Plus c cs = first_of_one 43 c cs
begins_with inner QuestionMark c cs = first_of_one 63 c cs
begins_with inner Slash c cs = first_of_one 47 c cs
