-- A token keeps its length where what follows doesn't run together with it.
use Rattle.std.proofs.Common.{◌≡◌, ℕ, ◌+◌, ◌-◌, ◌<◌, Bool, true, false, not, cond, ◌&&◌, ◌||◌, ◌==◌, ◌⊎◌, nat_lt, List, [], ◌∷◌, ◌++◌, length, Option, Some, None, refl, ap, ◌∙◌, inl, inr, arith, eqb-true}
use Rattle.std.proofs.lemmas.Bool.{and_parts, cond_both, cases_Bool}
use Rattle.std.proofs.lemmas.Bool.Decides.{nat_tests}
use Rattle.std.proofs.lemmas.List.{append-nil, get_or_append_left, nil_from_length}
use Rattle.std.proofs.lemmas.List.Folds.{prefix_len-append}
use Rattle.std.specs.List.{prefix_len}
use Rattle.just_text.specs.declared.token_kind.TokenKind.{TokenKind}
use Rattle.just_text.specs.declared.token_kind.TokenKind.TheVariants.{AmpersandAmpersand, Backtick, BangEquals, BangTilde, BarBar, ByteOrderMark, ColonColon, ColonEquals, Comment, Eol, EqualsEquals, EqualsTilde, FormatStringContinue, FormatStringEnd, FormatStringStart, Identifier, Indent, InterpolationEnd, InterpolationStart, PlusPlus, StringToken, Text, Whitespace}
use Rattle.just_lexer.specs.declared.quotes.Quotes.{Quotes}
use Rattle.just_lexer.specs.declared.mode.Open.{Open}
use Rattle.just_lexer.specs.declared.mode.Open.TheVariants.{Bracket, Interpolation, FormatInterpolation}
use Rattle.just_lexer.specs.Classes.{first, is_letter, is_word, is_blank, is_quote, at_closing_braces, at_byte_order_mark, at_line_end, at_continuation, continued_len, line_end_len, opens_format_interpolation, text_len, blank_len}
use Rattle.just_lexer.specs.Strings.{opened_len, opens_string, ends_in_format_interpolation}
use Rattle.just_lexer.specs.Modes.{in_brackets}
use Rattle.just_lexer.specs.Longest.{two, name_len, string_len, part_behind, white_len, reach}
use Rattle.justfile_syntax.specs.Fits.{last_byte, makes_line_end, makes_three, makes_four, takes_brace, is_string_letter, keeps_apart}
use Rattle.justfile_syntax.proofs.Parts.{ended_stays, opened_stays}
use Rattle.justfile_syntax.proofs.Texts.{line_stays, text_stays_line, text_stays_format_interpolation}
use Rattle.just_lexer.proofs.Beats.{neither}

-- the same front of another text, where a test comes first
guarded : (t : Bool) (a b n : ℕ) → 0 < n → cond t a 0 ≡ n → (a ≡ n → b ≡ n) → cond t b 0 ≡ n
guarded true a b n p h f = f h
guarded false a b n p h f = h

choose : (t : Bool) (a b c d n : ℕ) → cond t a b ≡ n → (t ≡ true → a ≡ n → c ≡ n) → (t ≡ false → b ≡ n → d ≡ n) → cond t c d ≡ n
choose true a b c d n h f g = f refl h
choose false a b c d n h f g = g refl h

pub run_none : (p : ℕ → Bool) (rest : List ℕ) → p (first rest) ≡ false → prefix_len p rest ≡ 0
run_none p [] e = refl
run_none p (b ∷ bs) e = rw e refl

pub run_stays : (p : ℕ → Bool) (l rest : List ℕ) → prefix_len p l ≡ length l → p (first rest) ≡ false → prefix_len p (l ++ rest) ≡ length l
run_stays p l rest h e = grind (arith, nat_tests, prefix_len-append p l rest, run_none p rest e)

two_stays : (a b c : ℕ) (cs rest : List ℕ) → 0 < b → two a b (c ∷ cs) ≡ length (c ∷ cs) → two a b (c ∷ cs ++ rest) ≡ length (c ∷ cs)
two_stays a b c [] rest p h = absurd (grind (arith, nat_tests))
two_stays a b c (d ∷ cs) rest p h = h

pub end_stays : (c : ℕ) (cs rest : List ℕ) → line_end_len (c ∷ cs) ≡ length (c ∷ cs) → line_end_len (c ∷ cs ++ rest) ≡ length (c ∷ cs)
end_stays c [] rest h = grind (arith, nat_tests)
end_stays c (d ∷ cs) rest h = h

mark_stays : (c : ℕ) (cs rest : List ℕ) → cond (at_byte_order_mark (c ∷ cs)) 3 0 ≡ length (c ∷ cs) → cond (at_byte_order_mark (c ∷ cs ++ rest)) 3 0 ≡ length (c ∷ cs)
mark_stays c [] rest h = absurd (grind (arith, nat_tests))
mark_stays c (d ∷ []) rest h = absurd (grind (arith, nat_tests))
mark_stays c (d ∷ e ∷ cs) rest h = h

-- names

no_string : (letter c : ℕ) (cs rest : List ℕ) → opens_string letter (c ∷ cs) ≡ false → (length (c ∷ cs) ≡ 1 → (c == letter && is_quote (first rest)) ≡ false) → opens_string letter (c ∷ cs ++ rest) ≡ false
no_string letter c [] rest h e = e refl
no_string letter c (d ∷ cs) rest h e = h

and_no : (b : Bool) → (b && false) ≡ false
and_no true = refl
and_no false = refl

letter_apart : (c : ℕ) (cs rest : List ℕ) → not (is_string_letter (c ∷ cs) && is_quote (first rest)) ≡ true → length (c ∷ cs) ≡ 1 → ((c == 120 && is_quote (first rest)) ≡ false) × ((c == 102 && is_quote (first rest)) ≡ false)
letter_apart c (d ∷ cs) rest h n = absurd (omega arith)
letter_apart c [] rest h n =
    elim (cases_Bool (is_quote (first rest))) [
      | inl q ↦ (
          let x : (c == 120) ≡ false = grind (arith, nat_tests) in
          let f : (c == 102) ≡ false = grind (arith, nat_tests) in
          rw (x, f) (refl, refl))
      | inr q ↦ rw q (and_no (c == 120), and_no (c == 102))
    ]

name_stays : (c : ℕ) (cs rest : List ℕ) → name_len (c ∷ cs) ≡ length (c ∷ cs) → keeps_apart Identifier (c ∷ cs) rest ≡ true → name_len (c ∷ cs ++ rest) ≡ length (c ∷ cs)
name_stays c cs rest h e =
    let l : List ℕ = c ∷ cs in
    let apart = and_parts (not (is_word (first rest))) (not (is_string_letter l && is_quote (first rest))) e in
    cond_both (is_letter c && not (opens_string 120 l || opens_string 102 l)) (prefix_len is_word l) 0 (λ n. n ≡ length l → name_len (l ++ rest) ≡ length l)
    (λ t run.
    let both = and_parts (is_letter c) (not (opens_string 120 l || opens_string 102 l)) t in
    let none = neither (opens_string 120 l) (opens_string 102 l) both.1 in
    let no_x : opens_string 120 (l ++ rest) ≡ false = no_string 120 c cs rest none.0 (λ n. (letter_apart c cs rest apart.1 n).0) in
    let no_f : opens_string 102 (l ++ rest) ≡ false = no_string 102 c cs rest none.1 (λ n. (letter_apart c cs rest apart.1 n).1) in
    let ends : is_word (first rest) ≡ false = grind (arith, nat_tests) in
    rw (both.0, no_x, no_f) (run_stays is_word l rest run ends))
    (λ _ z. absurd (omega arith))
    h

-- strings

never : (b : Bool) → not b ≡ true → b ≡ false
never true e = cc
never false e = refl

pub quote_some : (b : ℕ) → is_quote b ≡ true → 0 < b
quote_some b h = grind (arith, nat_tests)

-- a string after a letter
lettered_stays : (format : Bool) (letter c : ℕ) (cs rest : List ℕ) → opens_string letter (c ∷ cs) ≡ true → opened_len format 1 (c ∷ cs) ≡ length (c ∷ cs) → makes_three 1 (c ∷ cs) rest ≡ false → (format ≡ true → makes_four (c ∷ cs) rest ≡ false)
    → (opens_string letter (c ∷ cs ++ rest) ≡ true) × (opened_len format 1 (c ∷ cs ++ rest) ≡ length (c ∷ cs))
lettered_stays format letter c [] rest o h three four = absurd (let q : is_quote 0 ≡ true = (and_parts (c == letter) (is_quote 0) o).1 in cc)
lettered_stays format letter c (d ∷ cs) rest o h three four = (o, opened_stays format 1 (c ∷ d ∷ cs) rest (quote_some d (and_parts (c == letter) (is_quote d) o).1) (omega arith) h three four)

string_stays : (c : ℕ) (cs rest : List ℕ) → string_len (c ∷ cs) ≡ length (c ∷ cs) → keeps_apart StringToken (c ∷ cs) rest ≡ true → string_len (c ∷ cs ++ rest) ≡ length (c ∷ cs)
string_stays c cs rest h e =
    let l : List ℕ = c ∷ cs in
    elim (cases_Bool (is_quote c)) [
      | inl q ↦ (
          let len : opened_len false 0 l ≡ length l = rw q at h in
          let three : makes_three 0 l rest ≡ false = never _ (let x : not (makes_three 0 l rest) ≡ true = rw q at e in x) in
          rw q (opened_stays false 0 l rest (quote_some c q) (omega arith) len three (λ f. cc)))
      | inr q ↦ (
          let len : cond (opens_string 120 l) (opened_len false 1 l) 0 ≡ length l = rw q at h in
          let three : makes_three 1 l rest ≡ false = never _ (let x : not (makes_three 1 l rest) ≡ true = rw q at e in x) in
          elim (cases_Bool (opens_string 120 l)) [
            | inl o ↦ (
                let size : opened_len false 1 l ≡ length l = rw o at len in
                let stays = lettered_stays false 120 c cs rest o size three (λ f. cc) in
                rw (q, stays.0) stays.1)
            | inr o ↦ absurd (let z : 0 ≡ length l = rw o at len in omega arith)
          ])
    ]

format_stays : (c : ℕ) (cs rest : List ℕ) → cond (opens_string 102 (c ∷ cs)) (opened_len true 1 (c ∷ cs)) 0 ≡ length (c ∷ cs) → keeps_apart FormatStringStart (c ∷ cs) rest ≡ true → cond (opens_string 102 (c ∷ cs ++ rest)) (opened_len true 1 (c ∷ cs ++ rest)) 0 ≡ length (c ∷ cs)
format_stays c cs rest h e =
    let l : List ℕ = c ∷ cs in
    let both = and_parts (not (makes_three 1 l rest)) (not (makes_four l rest)) e in
    elim (cases_Bool (opens_string 102 l)) [
      | inl o ↦ (
          let size : opened_len true 1 l ≡ length l = rw o at h in
          let stays = lettered_stays true 102 c cs rest o size (never _ both.0) (λ f. never _ both.1) in
          rw stays.0 stays.1)
      | inr o ↦ absurd (let z : 0 ≡ length l = rw o at h in omega arith)
    ]

command_stays : (c : ℕ) (cs rest : List ℕ) → cond (c == 96) (opened_len false 0 (c ∷ cs)) 0 ≡ length (c ∷ cs) → keeps_apart Backtick (c ∷ cs) rest ≡ true → cond (c == 96) (opened_len false 0 (c ∷ cs ++ rest)) 0 ≡ length (c ∷ cs)
command_stays c cs rest h e =
    choose (c == 96) (opened_len false 0 (c ∷ cs)) 0 (opened_len false 0 (c ∷ cs ++ rest)) 0 _ h
    (λ t size. opened_stays false 0 (c ∷ cs) rest (grind (arith, nat_tests)) (omega arith) size (never _ e) (λ f. cc))
    (λ f z. z)

-- the parts of a format string

format_interpolation_part_stays : (q : Quotes) (around : Bool) (c : ℕ) (cs rest : List ℕ) → part_behind (Some (FormatInterpolation q around)) (c ∷ cs) ≡ length (c ∷ cs) → makes_four (c ∷ cs) rest ≡ false → part_behind (Some (FormatInterpolation q around)) (c ∷ cs ++ rest) ≡ length (c ∷ cs)
format_interpolation_part_stays q around c [] rest h four = absurd (grind (arith, nat_tests))
format_interpolation_part_stays q around c (d ∷ cs) rest h four = guarded (at_closing_braces (c ∷ d ∷ cs)) _ _ _ (omega arith) h (λ size. (ended_stays true q 2 (c ∷ d ∷ cs) rest (omega arith) size (λ _. four)).1)

part_stays : (inner : Option Open) (c : ℕ) (cs rest : List ℕ) → part_behind inner (c ∷ cs) ≡ length (c ∷ cs) → makes_four (c ∷ cs) rest ≡ false → part_behind inner (c ∷ cs ++ rest) ≡ length (c ∷ cs)
part_stays (Some (FormatInterpolation q around)) c cs rest h four = format_interpolation_part_stays q around c cs rest h four
part_stays (Some (Bracket d)) c cs rest h four = absurd (let z : 0 ≡ length (c ∷ cs) = h in omega arith)
part_stays (Some Interpolation) c cs rest h four = absurd (let z : 0 ≡ length (c ∷ cs) = h in omega arith)
part_stays None c cs rest h four = absurd (let z : 0 ≡ length (c ∷ cs) = h in omega arith)

pub last_same : (c : ℕ) (cs rest : List ℕ) → ends_in_format_interpolation (length (c ∷ cs)) (c ∷ cs ++ rest) ≡ (last_byte (c ∷ cs) == 123)
last_same c cs rest = ap (λ b. b == 123) (get_or_append_left (c ∷ cs) rest 0 (length (c ∷ cs) - 1) (omega arith))

continue_stays : (inner : Option Open) (c : ℕ) (cs rest : List ℕ) → reach inner FormatStringContinue (c ∷ cs) ≡ length (c ∷ cs) → makes_four (c ∷ cs) rest ≡ false → reach inner FormatStringContinue (c ∷ cs ++ rest) ≡ length (c ∷ cs)
continue_stays inner c cs rest h four =
    let l : List ℕ = c ∷ cs in
    cond_both (ends_in_format_interpolation (part_behind inner l) l) (part_behind inner l) 0 (λ n. n ≡ length l → reach inner FormatStringContinue (l ++ rest) ≡ length l)
    (λ format_interpolation size.
    let stays : part_behind inner (l ++ rest) ≡ length l = part_stays inner c cs rest size four in
    let last : (last_byte l == 123) ≡ true = rw size at format_interpolation in
    rw (stays, last_same c cs rest, last) refl)
    (λ _ z. absurd (omega arith))
    h

finish_stays : (inner : Option Open) (c : ℕ) (cs rest : List ℕ) → reach inner FormatStringEnd (c ∷ cs) ≡ length (c ∷ cs) → reach inner FormatStringEnd (c ∷ cs ++ rest) ≡ length (c ∷ cs)
finish_stays inner c cs rest h =
    let l : List ℕ = c ∷ cs in
    cond_both (ends_in_format_interpolation (part_behind inner l) l) 0 (part_behind inner l) (λ n. n ≡ length l → reach inner FormatStringEnd (l ++ rest) ≡ length l)
    (λ _ z. absurd (omega arith))
    (λ format_interpolation size.
    let last : (last_byte l == 123) ≡ false = rw size at format_interpolation in
    let stays : part_behind inner (l ++ rest) ≡ length l = part_stays inner c cs rest size (rw last refl) in
    rw (stays, last_same c cs rest, last) refl)
    h

-- white space

continued_stays : (c : ℕ) (cs rest : List ℕ) → at_continuation (c ∷ cs) ≡ true → 1 + continued_len (c ∷ cs) ≡ length (c ∷ cs) → continued_len (c ∷ cs ++ rest) ≡ length cs
continued_stays c [] rest a h = absurd (grind (arith, nat_tests))
continued_stays c (d ∷ ds) rest a h =
    elim (cases_Bool (c == 92)) [
      | inl t ↦ (let whole : 1 + line_end_len (d ∷ ds) ≡ length (c ∷ d ∷ ds) = rw t at h in rw t (end_stays d ds rest (omega arith)))
      | inr f ↦ absurd (let z : false ≡ true = rw f at a in cc)
    ]

white_stays : (brackets : Bool) (c : ℕ) (cs rest : List ℕ) → white_len brackets (c ∷ cs) ≡ length (c ∷ cs) → not (is_blank c && is_blank (first rest)) ≡ true → white_len brackets (c ∷ cs ++ rest) ≡ length (c ∷ cs)
white_stays brackets c cs rest h e =
    let l : List ℕ = c ∷ cs in
    choose (is_blank c) (blank_len l) (cond (at_continuation l) (1 + continued_len l) (cond brackets (line_end_len l) 0)) (blank_len (l ++ rest)) (cond (at_continuation (l ++ rest)) (1 + continued_len (l ++ rest)) (cond brackets (line_end_len (l ++ rest)) 0)) _ h
    (λ blank run. run_stays is_blank l rest run (never _ (let x : not (is_blank (first rest)) ≡ true = rw blank at e in x)))
    (λ plain more.
    elim (cases_Bool (at_continuation l)) [
      | inl continues ↦ (
          let whole : 1 + continued_len l ≡ length l = rw continues at more in
          let stays : continued_len (l ++ rest) ≡ length cs = continued_stays c cs rest continues whole in
          let some : 0 < length cs = grind (arith, nat_tests) in
          let still : at_continuation (l ++ rest) ≡ true = (let t : nat_lt 0 (length cs) ≡ true = grind (arith, nat_tests) in rw stays t) in
          rw (still, stays) (omega arith))
      | inr none ↦ elim (cases_Bool brackets) [
        | inl inside ↦ (
            let whole : line_end_len l ≡ length l = rw (none, inside) at more in
            let slash : (c == 92) ≡ false = grind (arith, nat_tests) in
            let still : at_continuation (l ++ rest) ≡ false = rw slash refl in
            rw (still, inside) (end_stays c cs rest whole))
        | inr outside ↦ absurd (let z : 0 ≡ length l = rw (none, outside) at more in omega arith)
      ]
    ])

-- text

or_parts : (a b : Bool) → (a || b) ≡ true → (a ≡ true) ⊎ (b ≡ true)
or_parts true b e = inl refl
or_parts false b e = inr e

text_stays : (l rest : List ℕ) → text_len l ≡ length l → keeps_apart Text l rest ≡ true → text_len (l ++ rest) ≡ length l
text_stays l rest h e =
    elim (or_parts (length rest == 0) ((at_line_end rest && not (makes_line_end l rest)) || (opens_format_interpolation rest && takes_brace l)) e) [
      | inl none ↦ (let nil : rest ≡ [] = nil_from_length rest (eqb-true (length rest) 0 none) in rw nil (ap text_len (append-nil l) ∙ h))
      | inr more ↦ elim (or_parts (at_line_end rest && not (makes_line_end l rest)) (opens_format_interpolation rest && takes_brace l) more) [
        | inl line ↦ text_stays_line l rest h line
        | inr format_interpolation ↦ text_stays_format_interpolation l rest h format_interpolation
      ]
    ]

pub reach_stays : (inner : Option Open) (k : TokenKind) (c : ℕ) (cs rest : List ℕ) → reach inner k (c ∷ cs) ≡ length (c ∷ cs) → keeps_apart k (c ∷ cs) rest ≡ true → reach inner k (c ∷ cs ++ rest) ≡ length (c ∷ cs)
reach_stays inner AmpersandAmpersand c cs rest h e = two_stays 38 38 c cs rest (omega arith) h
reach_stays inner Backtick c cs rest h e = command_stays c cs rest h e
reach_stays inner BangEquals c cs rest h e = two_stays 33 61 c cs rest (omega arith) h
reach_stays inner BangTilde c cs rest h e = two_stays 33 126 c cs rest (omega arith) h
reach_stays inner BarBar c cs rest h e = two_stays 124 124 c cs rest (omega arith) h
reach_stays inner ByteOrderMark c cs rest h e = mark_stays c cs rest h
reach_stays inner ColonColon c cs rest h e = two_stays 58 58 c cs rest (omega arith) h
reach_stays inner ColonEquals c cs rest h e = two_stays 58 61 c cs rest (omega arith) h
reach_stays inner Comment c cs rest h e = guarded (c == 35) _ _ _ (omega arith) h (λ x. line_stays (c ∷ cs) rest x e)
reach_stays inner Eol c cs rest h e = end_stays c cs rest h
reach_stays inner EqualsEquals c cs rest h e = two_stays 61 61 c cs rest (omega arith) h
reach_stays inner EqualsTilde c cs rest h e = two_stays 61 126 c cs rest (omega arith) h
reach_stays inner FormatStringContinue c cs rest h e = continue_stays inner c cs rest h (never _ e)
reach_stays inner FormatStringEnd c cs rest h e = finish_stays inner c cs rest h
reach_stays inner FormatStringStart c cs rest h e = format_stays c cs rest h e
reach_stays inner Identifier c cs rest h e = name_stays c cs rest h e
reach_stays inner Indent c cs rest h e = run_stays is_blank (c ∷ cs) rest h (never _ e)
reach_stays inner InterpolationEnd c cs rest h e = two_stays 125 125 c cs rest (omega arith) h
reach_stays inner InterpolationStart c cs rest h e = two_stays 123 123 c cs rest (omega arith) h
reach_stays inner PlusPlus c cs rest h e = two_stays 43 43 c cs rest (omega arith) h
reach_stays inner StringToken c cs rest h e = string_stays c cs rest h e
reach_stays inner Text c cs rest h e = text_stays (c ∷ cs) rest h e
reach_stays inner Whitespace c cs rest h e = white_stays (in_brackets inner) c cs rest h e
reach_stays inner k c cs rest h e = h
