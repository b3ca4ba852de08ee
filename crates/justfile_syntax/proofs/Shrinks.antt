-- A token's length is that of its own text.
use Rattle.std.proofs.Common.{◌≡◌, ℕ, zero, suc, ◌+◌, ◌<◌, ◌≤◌, Bool, true, false, not, cond, ◌&&◌, ◌||◌, ◌==◌, List, [], ◌∷◌, ◌++◌, length, Option, Some, None, refl, sym, ◌∙◌, inl, inr, arith}
use Rattle.std.proofs.lemmas.Bool.{and_parts, cond_both, cases_Bool}
use Rattle.std.proofs.lemmas.Bool.Decides.{nat_tests}
use Rattle.std.specs.List.{prefix_len}
use Rattle.just_text.specs.declared.token_kind.TokenKind.{TokenKind}
use Rattle.just_text.specs.declared.token_kind.TokenKind.TheVariants.{AmpersandAmpersand, Backtick, BangEquals, BangTilde, BarBar, ByteOrderMark, ColonColon, ColonEquals, Comment, Eol, EqualsEquals, EqualsTilde, FormatStringContinue, FormatStringEnd, FormatStringStart, Identifier, Indent, InterpolationEnd, InterpolationStart, PlusPlus, StringToken, Text, Whitespace}
use Rattle.just_lexer.specs.declared.quotes.Quotes.{Quotes}
use Rattle.just_lexer.specs.declared.mode.Open.{Open}
use Rattle.just_lexer.specs.declared.mode.Open.TheVariants.{Bracket, Interpolation, FormatInterpolation}
use Rattle.just_lexer.specs.Classes.{is_letter, is_word, is_blank, is_quote, at_two, at_braces, at_closing_braces, at_byte_order_mark, at_line_end, opens_format_interpolation, line_end_len, line_len, until, until_over, ends_text, brace_takes, text_len}
use Rattle.just_lexer.specs.Strings.{quotes_len, quotes_at, opened_len, ended_len, opens_string, ends_in_format_interpolation}
use Rattle.just_lexer.specs.Longest.{two, name_len, string_len, part_behind, reach, is_white}
use Rattle.justfile_syntax.specs.Fits.{last_byte}
use Rattle.justfile_syntax.proofs.PartsBack.{over_takes, four_there, format_interpolation_back, ended_alone, opened_alone}
use Rattle.justfile_syntax.proofs.Parts.{format_interpolation_same}
use Rattle.justfile_syntax.proofs.Stays.{last_same, quote_some}
use Rattle.just_lexer.proofs.Beats.{neither}

choose : (t : Bool) (a b c d n : ℕ) → cond t a b ≡ n → (t ≡ true → a ≡ n → c ≡ n) → (t ≡ false → b ≡ n → d ≡ n) → cond t c d ≡ n
choose true a b c d n h f g = f refl h
choose false a b c d n h f g = g refl h

run_alone : (p : ℕ → Bool) (l rest : List ℕ) → prefix_len p (l ++ rest) ≡ length l → prefix_len p l ≡ length l
run_alone p [] rest h = refl
run_alone p (b ∷ bs) rest h =
    choose (p b) (1 + prefix_len p (bs ++ rest)) 0 (1 + prefix_len p bs) 0 _ h
    (λ t size. (let more : prefix_len p bs ≡ length bs = run_alone p bs rest (omega arith) in omega arith))
    (λ f z. z)

two_alone : (a b c : ℕ) (cs rest : List ℕ) → two a b (c ∷ cs ++ rest) ≡ length (c ∷ cs) → two a b (c ∷ cs) ≡ length (c ∷ cs)
two_alone a b c [] rest h = absurd (cond_both (at_two a b (c ∷ rest)) 2 0 (λ n. n ≡ 1 → ⊥) (λ _ q. omega arith) (λ _ q. omega arith) h)
two_alone a b c (d ∷ cs) rest h = h

end_alone : (c : ℕ) (cs rest : List ℕ) → line_end_len (c ∷ cs ++ rest) ≡ length (c ∷ cs) → line_end_len (c ∷ cs) ≡ length (c ∷ cs)
end_alone c [] rest h = grind (arith, nat_tests)
end_alone c (d ∷ cs) rest h = h

mark_alone : (c : ℕ) (cs rest : List ℕ) → cond (at_byte_order_mark (c ∷ cs ++ rest)) 3 0 ≡ length (c ∷ cs) → cond (at_byte_order_mark (c ∷ cs)) 3 0 ≡ length (c ∷ cs)
mark_alone c [] rest h = absurd (cond_both (at_byte_order_mark (c ∷ rest)) 3 0 (λ n. n ≡ 1 → ⊥) (λ _ q. omega arith) (λ _ q. omega arith) h)
mark_alone c (d ∷ []) rest h = absurd (cond_both (at_byte_order_mark (c ∷ d ∷ rest)) 3 0 (λ n. n ≡ 2 → ⊥) (λ _ q. omega arith) (λ _ q. omega arith) h)
mark_alone c (d ∷ e ∷ cs) rest h = h

and_no : (b : Bool) → (b && false) ≡ false
and_no true = refl
and_no false = refl

-- names

not_a_string : (letter c : ℕ) (cs rest : List ℕ) → opens_string letter (c ∷ cs ++ rest) ≡ false → opens_string letter (c ∷ cs) ≡ false
not_a_string letter c [] rest h = and_no (c == letter)
not_a_string letter c (d ∷ cs) rest h = h

name_alone : (c : ℕ) (cs rest : List ℕ) → name_len (c ∷ cs ++ rest) ≡ length (c ∷ cs) → name_len (c ∷ cs) ≡ length (c ∷ cs)
name_alone c cs rest h =
    let l : List ℕ = c ∷ cs in
    cond_both (is_letter c && not (opens_string 120 (l ++ rest) || opens_string 102 (l ++ rest))) (prefix_len is_word (l ++ rest)) 0 (λ n. n ≡ length l → name_len l ≡ length l)
    (λ t run.
    let both = and_parts (is_letter c) (not (opens_string 120 (l ++ rest) || opens_string 102 (l ++ rest))) t in
    let none = neither (opens_string 120 (l ++ rest)) (opens_string 102 (l ++ rest)) both.1 in
    rw (both.0, not_a_string 120 c cs rest none.0, not_a_string 102 c cs rest none.1) (run_alone is_word l rest run))
    (λ _ z. absurd (omega arith))
    h

-- strings

-- one letter is no string
no_short : (format : Bool) (c r : ℕ) (rest : List ℕ) → opened_len format 1 (c ∷ r ∷ rest) ≡ 1 → ⊥
no_short format c r rest h =
    let q : Quotes = quotes_at (r ∷ rest) in
    let short : 1 + quotes_len q < 1 = (ended_alone format q (1 + quotes_len q) (c ∷ []) (r ∷ rest) (omega arith) h).0 in
    omega arith

lettered_alone : (format : Bool) (letter c : ℕ) (cs rest : List ℕ) → opens_string letter (c ∷ cs ++ rest) ≡ true → opened_len format 1 (c ∷ cs ++ rest) ≡ length (c ∷ cs) → (opens_string letter (c ∷ cs) ≡ true) × (opened_len format 1 (c ∷ cs) ≡ length (c ∷ cs))
lettered_alone format letter c (d ∷ cs) rest o h = (o, (opened_alone format 1 (c ∷ d ∷ cs) rest (quote_some d (and_parts (c == letter) (is_quote d) o).1) (omega arith) h).1)
lettered_alone format letter c [] [] o h = absurd (let q : is_quote 0 ≡ true = (and_parts (c == letter) (is_quote 0) o).1 in cc)
lettered_alone format letter c [] (r ∷ rest) o h = absurd (no_short format c r rest h)

string_alone : (c : ℕ) (cs rest : List ℕ) → string_len (c ∷ cs ++ rest) ≡ length (c ∷ cs) → string_len (c ∷ cs) ≡ length (c ∷ cs)
string_alone c cs rest h =
    let l : List ℕ = c ∷ cs in
    choose (is_quote c) (opened_len false 0 (l ++ rest)) (cond (opens_string 120 (l ++ rest)) (opened_len false 1 (l ++ rest)) 0) (opened_len false 0 l) (cond (opens_string 120 l) (opened_len false 1 l) 0) _ h
    (λ q size. (opened_alone false 0 l rest (quote_some c q) (omega arith) size).1)
    (λ q size.
    elim (cases_Bool (opens_string 120 (l ++ rest))) [
      | inl o ↦ (
          let len : opened_len false 1 (l ++ rest) ≡ length l = rw o at size in
          let alone = lettered_alone false 120 c cs rest o len in
          rw alone.0 alone.1)
      | inr o ↦ absurd (let z : 0 ≡ length l = rw o at size in omega arith)
    ])

format_alone : (c : ℕ) (cs rest : List ℕ) → cond (opens_string 102 (c ∷ cs ++ rest)) (opened_len true 1 (c ∷ cs ++ rest)) 0 ≡ length (c ∷ cs) → cond (opens_string 102 (c ∷ cs)) (opened_len true 1 (c ∷ cs)) 0 ≡ length (c ∷ cs)
format_alone c cs rest h =
    let l : List ℕ = c ∷ cs in
    elim (cases_Bool (opens_string 102 (l ++ rest))) [
      | inl o ↦ (
          let len : opened_len true 1 (l ++ rest) ≡ length l = rw o at h in
          let alone = lettered_alone true 102 c cs rest o len in
          rw alone.0 alone.1)
      | inr o ↦ absurd (let z : 0 ≡ length l = rw o at h in omega arith)
    ]

-- the parts of a format string

format_interpolation_part_alone : (q : Quotes) (around : Bool) (c : ℕ) (cs rest : List ℕ) → part_behind (Some (FormatInterpolation q around)) (c ∷ cs ++ rest) ≡ length (c ∷ cs) → part_behind (Some (FormatInterpolation q around)) (c ∷ cs) ≡ length (c ∷ cs)
format_interpolation_part_alone q around c (d ∷ cs) rest h =
    choose (at_closing_braces (c ∷ d ∷ cs)) (ended_len true q 2 (c ∷ d ∷ cs ++ rest)) 0 (ended_len true q 2 (c ∷ d ∷ cs)) 0 _ h (λ t size. (ended_alone true q 2 (c ∷ d ∷ cs) rest (omega arith) size).1) (λ f z. z)
format_interpolation_part_alone q around c [] rest h =
    absurd (cond_both (at_closing_braces (c ∷ rest)) (ended_len true q 2 (c ∷ rest)) 0 (λ n. n ≡ 1 → ⊥) (λ _ size. (let short : 2 < 1 = (ended_alone true q 2 (c ∷ []) rest (omega arith) size).0 in omega arith)) (λ _ z. omega arith) h)

part_alone : (inner : Option Open) (c : ℕ) (cs rest : List ℕ) → part_behind inner (c ∷ cs ++ rest) ≡ length (c ∷ cs) → part_behind inner (c ∷ cs) ≡ length (c ∷ cs)
part_alone (Some (FormatInterpolation q around)) c cs rest h = format_interpolation_part_alone q around c cs rest h
part_alone (Some (Bracket d)) c cs rest h = h
part_alone (Some Interpolation) c cs rest h = h
part_alone None c cs rest h = h

continue_alone : (inner : Option Open) (c : ℕ) (cs rest : List ℕ) → reach inner FormatStringContinue (c ∷ cs ++ rest) ≡ length (c ∷ cs) → reach inner FormatStringContinue (c ∷ cs) ≡ length (c ∷ cs)
continue_alone inner c cs rest h =
    let l : List ℕ = c ∷ cs in
    cond_both (ends_in_format_interpolation (part_behind inner (l ++ rest)) (l ++ rest)) (part_behind inner (l ++ rest)) 0 (λ n. n ≡ length l → reach inner FormatStringContinue l ≡ length l)
    (λ format_interpolation size.
    let alone : part_behind inner l ≡ length l = part_alone inner c cs rest size in
    let last : (last_byte l == 123) ≡ true = sym (last_same c cs rest) ∙ (let e : ends_in_format_interpolation (length l) (l ++ rest) ≡ true = rw size at format_interpolation in e) in
    rw (alone, last) refl)
    (λ _ z. absurd (omega arith))
    h

finish_alone : (inner : Option Open) (c : ℕ) (cs rest : List ℕ) → reach inner FormatStringEnd (c ∷ cs ++ rest) ≡ length (c ∷ cs) → reach inner FormatStringEnd (c ∷ cs) ≡ length (c ∷ cs)
finish_alone inner c cs rest h =
    let l : List ℕ = c ∷ cs in
    cond_both (ends_in_format_interpolation (part_behind inner (l ++ rest)) (l ++ rest)) 0 (part_behind inner (l ++ rest)) (λ n. n ≡ length l → reach inner FormatStringEnd l ≡ length l)
    (λ _ z. absurd (omega arith))
    (λ format_interpolation size.
    let alone : part_behind inner l ≡ length l = part_alone inner c cs rest size in
    let last : (last_byte l == 123) ≡ false = sym (last_same c cs rest) ∙ (let e : ends_in_format_interpolation (length l) (l ++ rest) ≡ false = rw size at format_interpolation in e) in
    rw (alone, last) refl)
    h

-- comments

no_end_alone : (b : ℕ) (bs rest : List ℕ) → at_line_end (b ∷ bs ++ rest) ≡ false → at_line_end (b ∷ bs) ≡ false
no_end_alone b [] rest h = grind (arith, nat_tests)
no_end_alone b (c ∷ bs) rest h = h

line_alone : (l rest : List ℕ) → until at_line_end (l ++ rest) ≡ length l → until at_line_end l ≡ length l
unfolding until
line_alone [] rest h = refl
line_alone (b ∷ bs) rest h =
    elim (cases_Bool (at_line_end (b ∷ bs ++ rest))) [
      | inl t ↦ absurd (let z : 0 ≡ length (b ∷ bs) = rw t at h in omega arith)
      | inr f ↦ (
          let more : until at_line_end (bs ++ rest) + 1 ≡ length (b ∷ bs) = rw f at h in
          let alone : until at_line_end bs ≡ length bs = line_alone bs rest (omega arith) in
          rw (no_end_alone b bs rest f) (omega arith))
    ]

-- text

abbrev over : ℕ → List ℕ → ℕ
over skip text = until_over ends_text brace_takes skip text

abbrev brace : List ℕ
brace = 123 ∷ []

either : (a b : Bool) → (a || b) ≡ false → (a ≡ false) × (b ≡ false)
either true b h = cc
either false b h = (refl, h)

-- braces take no byte of the rest along
record AloneToo (b : ℕ) (bs rest : List ℕ) : Type 0 where
  on : ends_text (b ∷ bs) ≡ false
  takes : brace_takes (b ∷ bs) ≡ brace_takes (b ∷ bs ++ rest)

last_alone : (b : ℕ) (rest : List ℕ) → ends_text (b ∷ rest) ≡ false → over (brace_takes (b ∷ rest)) rest ≡ 0 → AloneToo b [] rest
last_alone b [] h n = record { on = h; takes = refl }
last_alone b (r ∷ rest) h n =
    let both = either (at_line_end (b ∷ r ∷ rest)) (opens_format_interpolation (b ∷ r ∷ rest)) h in
    let no_end : at_line_end (b ∷ []) ≡ false = no_end_alone b [] (r ∷ rest) both.0 in
    let none : at_braces (b ∷ []) ≡ false = and_no (b == 123) in
    elim (cases_Bool (at_braces (b ∷ r ∷ rest))) [
      | inl t ↦ absurd (
          let there : 2 ≤ length rest = four_there b r rest t both.1 in
          let counted : 3 ≤ over 3 (r ∷ rest) = over_takes ends_text brace_takes 3 (r ∷ rest) (omega arith) in
          let z : over 3 (r ∷ rest) ≡ 0 = rw t at n in
          omega arith)
      | inr f ↦ record { on = rw (no_end, none) refl; takes = rw (none, f) refl }
    ]

longer_alone : (b c : ℕ) (bs rest : List ℕ) → ends_text (b ∷ c ∷ bs ++ rest) ≡ false → over (brace_takes (b ∷ c ∷ bs ++ rest)) (c ∷ bs ++ rest) ≡ length (c ∷ bs) → AloneToo b (c ∷ bs) rest
longer_alone b c bs rest h n =
    let both = either (at_line_end (b ∷ c ∷ bs ++ rest)) (opens_format_interpolation (b ∷ c ∷ bs ++ rest)) h in
    let room : at_braces (b ∷ c ∷ bs) ≡ true → 2 ≤ length bs =
    λ t.
    let there : 2 ≤ length (bs ++ rest) = four_there b c (bs ++ rest) t both.1 in
    let counted : 3 ≤ over 3 (c ∷ bs ++ rest) = over_takes ends_text brace_takes 3 (c ∷ bs ++ rest) (omega arith) in
    let z : over 3 (c ∷ bs ++ rest) ≡ length (c ∷ bs) = rw t at n in
    omega arith in
    let no_format_interpolation : opens_format_interpolation (b ∷ c ∷ bs) ≡ false = format_interpolation_back b c bs rest both.1 room in
    let no_end : at_line_end (b ∷ c ∷ bs) ≡ false = both.0 in
    record { on = rw (no_end, no_format_interpolation) refl; takes = refl }

alone_too : (b : ℕ) (bs rest : List ℕ) → ends_text (b ∷ bs ++ rest) ≡ false → over (brace_takes (b ∷ bs ++ rest)) (bs ++ rest) ≡ length bs → AloneToo b bs rest
alone_too b [] rest h n = last_alone b rest h n
alone_too b (c ∷ bs) rest h n = longer_alone b c bs rest h n

over_alone : (skip : ℕ) (l rest : List ℕ) → over skip (l ++ rest) ≡ length l → over skip l ≡ length l
unfolding until_over
over_alone zero [] rest h = refl
over_alone (suc k) [] rest h = refl
over_alone (suc k) (b ∷ bs) rest h = (let more : over k bs ≡ length bs = over_alone k bs rest (omega arith) in omega arith)
over_alone zero (b ∷ bs) rest h =
    elim (cases_Bool (ends_text (b ∷ bs ++ rest))) [
      | inl t ↦ absurd (let z : 0 ≡ length (b ∷ bs) = rw t at h in omega arith)
      | inr f ↦ (
          let more : over (brace_takes (b ∷ bs ++ rest)) (bs ++ rest) + 1 ≡ length (b ∷ bs) = rw f at h in
          let too = alone_too b bs rest f (omega arith) in
          let rest_of : over (brace_takes (b ∷ bs ++ rest)) bs ≡ length bs = over_alone (brace_takes (b ∷ bs ++ rest)) bs rest (omega arith) in
          rw (too.on, too.takes) (omega arith))
    ]

-- one brace more goes on as text
record GoesOnBraced (b : ℕ) (bs rest : List ℕ) : Type 0 where
  on : ends_text (b ∷ bs ++ brace) ≡ false
  takes : brace_takes (b ∷ bs ++ brace) ≡ brace_takes (b ∷ bs ++ rest)

last_braced : (b : ℕ) (rest : List ℕ) → opens_format_interpolation rest ≡ true → ends_text (b ∷ rest) ≡ false → over (brace_takes (b ∷ rest)) rest ≡ 0 → GoesOnBraced b [] rest
last_braced b [] format_interpolation h n = absurd (grind (arith, nat_tests))
last_braced b (r ∷ rest) format_interpolation h n =
    let both = either (at_line_end (b ∷ r ∷ rest)) (opens_format_interpolation (b ∷ r ∷ rest)) h in
    let opening : (r == 123) ≡ true = grind (arith, nat_tests) in
    let no_end : at_line_end (b ∷ brace) ≡ false = grind (arith, nat_tests) in
    elim (cases_Bool (b == 123)) [
      | inl t ↦ absurd (
          let braces : at_braces (b ∷ r ∷ rest) ≡ true = rw (t, opening) refl in
          let there : 2 ≤ length rest = four_there b r rest braces both.1 in
          let counted : 3 ≤ over 3 (r ∷ rest) = over_takes ends_text brace_takes 3 (r ∷ rest) (omega arith) in
          let z : over 3 (r ∷ rest) ≡ 0 = rw braces at n in
          omega arith)
      | inr f ↦ record { on = rw (no_end, f) refl; takes = rw f refl }
    ]

longer_braced : (b c : ℕ) (bs rest : List ℕ) → ends_text (b ∷ c ∷ bs ++ rest) ≡ false → over (brace_takes (b ∷ c ∷ bs ++ rest)) (c ∷ bs ++ rest) ≡ length (c ∷ bs) → GoesOnBraced b (c ∷ bs) rest
longer_braced b c bs rest h n =
    let too = longer_alone b c bs rest h n in
    let both = either (at_line_end (b ∷ c ∷ bs)) (opens_format_interpolation (b ∷ c ∷ bs)) too.on in
    let no_format_interpolation : opens_format_interpolation (b ∷ c ∷ bs ++ brace) ≡ false = format_interpolation_same b c bs brace both.1 in
    let no_end : at_line_end (b ∷ c ∷ bs ++ brace) ≡ false = both.0 in
    record { on = rw (no_end, no_format_interpolation) refl; takes = refl }

braced : (b : ℕ) (bs rest : List ℕ) → opens_format_interpolation rest ≡ true → ends_text (b ∷ bs ++ rest) ≡ false → over (brace_takes (b ∷ bs ++ rest)) (bs ++ rest) ≡ length bs → GoesOnBraced b bs rest
braced b [] rest format_interpolation h n = last_braced b rest format_interpolation h n
braced b (c ∷ bs) rest format_interpolation h n = longer_braced b c bs rest h n

-- text before an expression takes a brace more
pub over_braced : (skip : ℕ) (l rest : List ℕ) → opens_format_interpolation rest ≡ true → over skip (l ++ rest) ≡ length l → over skip (l ++ brace) ≡ length l + 1
unfolding until_over
over_braced zero [] rest format_interpolation h = refl
over_braced (suc k) [] [] format_interpolation h = absurd (grind (arith, nat_tests))
over_braced (suc k) [] (r ∷ rest) format_interpolation h = absurd (omega arith)
over_braced (suc k) (b ∷ bs) rest format_interpolation h = (let more : over k (bs ++ brace) ≡ length bs + 1 = over_braced k bs rest format_interpolation (omega arith) in omega arith)
over_braced zero (b ∷ bs) rest format_interpolation h =
    elim (cases_Bool (ends_text (b ∷ bs ++ rest))) [
      | inl t ↦ absurd (let z : 0 ≡ length (b ∷ bs) = rw t at h in omega arith)
      | inr f ↦ (
          let more : over (brace_takes (b ∷ bs ++ rest)) (bs ++ rest) + 1 ≡ length (b ∷ bs) = rw f at h in
          let goes = braced b bs rest format_interpolation f (omega arith) in
          let behind : over (brace_takes (b ∷ bs ++ rest)) (bs ++ brace) ≡ length bs + 1 = over_braced (brace_takes (b ∷ bs ++ rest)) bs rest format_interpolation (omega arith) in
          rw (goes.on, goes.takes) (omega arith))
    ]

-- where the start of an expression is the longest, one opens
pub opens_there : (text : List ℕ) → at_braces text ≡ true → text_len text < 2 → opens_format_interpolation text ≡ true
unfolding until_over
opens_there [] b h = absurd (grind (arith, nat_tests))
opens_there (a ∷ []) b h = absurd (grind (arith, nat_tests))
opens_there (a ∷ c ∷ xs) b h =
    elim (cases_Bool (opens_format_interpolation (a ∷ c ∷ xs))) [
      | inl t ↦ t
      | inr f ↦ absurd (
          let there : 2 ≤ length xs = four_there a c xs b f in
          let counted : 3 ≤ over 3 (c ∷ xs) = over_takes ends_text brace_takes 3 (c ∷ xs) (omega arith) in
          let no_end : at_line_end (a ∷ c ∷ xs) ≡ false = grind (arith, nat_tests) in
          let len : text_len (a ∷ c ∷ xs) ≡ over 3 (c ∷ xs) + 1 = rw (no_end, f, b) refl in
          omega arith)
    ]

pub reach_alone : (inner : Option Open) (k : TokenKind) (c : ℕ) (cs rest : List ℕ) → is_white k ≡ false → reach inner k (c ∷ cs ++ rest) ≡ length (c ∷ cs) → reach inner k (c ∷ cs) ≡ length (c ∷ cs)
reach_alone inner AmpersandAmpersand c cs rest w h = two_alone 38 38 c cs rest h
reach_alone inner Backtick c cs rest w h =
    choose (c == 96) (opened_len false 0 (c ∷ cs ++ rest)) 0 (opened_len false 0 (c ∷ cs)) 0 _ h (λ t size. (opened_alone false 0 (c ∷ cs) rest (grind (arith, nat_tests)) (omega arith) size).1) (λ f z. z)
reach_alone inner BangEquals c cs rest w h = two_alone 33 61 c cs rest h
reach_alone inner BangTilde c cs rest w h = two_alone 33 126 c cs rest h
reach_alone inner BarBar c cs rest w h = two_alone 124 124 c cs rest h
reach_alone inner ByteOrderMark c cs rest w h = mark_alone c cs rest h
reach_alone inner ColonColon c cs rest w h = two_alone 58 58 c cs rest h
reach_alone inner ColonEquals c cs rest w h = two_alone 58 61 c cs rest h
reach_alone inner Comment c cs rest w h = choose (c == 35) (line_len (c ∷ cs ++ rest)) 0 (line_len (c ∷ cs)) 0 _ h (λ t size. line_alone (c ∷ cs) rest size) (λ f z. z)
reach_alone inner Eol c cs rest w h = end_alone c cs rest h
reach_alone inner EqualsEquals c cs rest w h = two_alone 61 61 c cs rest h
reach_alone inner EqualsTilde c cs rest w h = two_alone 61 126 c cs rest h
reach_alone inner FormatStringContinue c cs rest w h = continue_alone inner c cs rest h
reach_alone inner FormatStringEnd c cs rest w h = finish_alone inner c cs rest h
reach_alone inner FormatStringStart c cs rest w h = format_alone c cs rest h
reach_alone inner Identifier c cs rest w h = name_alone c cs rest h
reach_alone inner Indent c cs rest w h = run_alone is_blank (c ∷ cs) rest h
reach_alone inner InterpolationEnd c cs rest w h = two_alone 125 125 c cs rest h
reach_alone inner InterpolationStart c cs rest w h = two_alone 123 123 c cs rest h
reach_alone inner PlusPlus c cs rest w h = two_alone 43 43 c cs rest h
reach_alone inner StringToken c cs rest w h = string_alone c cs rest h
reach_alone inner Text c cs rest w h = over_alone 0 (c ∷ cs) rest h
reach_alone inner Whitespace c cs rest w h = cc
reach_alone inner k c cs rest w h = h
