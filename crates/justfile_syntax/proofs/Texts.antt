-- A comment and a body's text go up to what ends them, whatever stands after that.
use Rattle.std.proofs.Common.{◌≡◌, ℕ, zero, suc, ◌+◌, ◌≤◌, Bool, true, false, not, ◌&&◌, ◌||◌, ◌==◌, List, [], ◌∷◌, ◌++◌, length, refl, inl, inr, arith}
use Rattle.std.proofs.lemmas.Bool.{and_parts, cond_both, cases_Bool}
use Rattle.std.proofs.lemmas.Bool.Decides.{nat_tests}
use Rattle.just_lexer.specs.Classes.{first, at_braces, opens_format_interpolation, at_line_end, until, until_over, ends_text, brace_takes, line_len, text_len}
use Rattle.justfile_syntax.specs.Fits.{last_byte, at_end, makes_line_end, takes_brace}
use Rattle.justfile_syntax.proofs.Parts.{last_on, format_interpolation_same}

-- no line end arises

line_on : (b c : ℕ) (cs rest : List ℕ) → makes_line_end (b ∷ c ∷ cs) rest ≡ false → makes_line_end (c ∷ cs) rest ≡ false
line_on b c cs rest h = rw (last_on b c cs) at h

pub tail_makes_none : (b : ℕ) (bs rest : List ℕ) → makes_line_end (b ∷ bs) rest ≡ false → makes_line_end bs rest ≡ false
tail_makes_none b [] rest h = refl
tail_makes_none b (c ∷ cs) rest h = line_on b c cs rest h

pub no_end_arises : (b : ℕ) (bs rest : List ℕ) → at_line_end (b ∷ bs) ≡ false → makes_line_end (b ∷ bs) rest ≡ false → at_line_end (b ∷ bs ++ rest) ≡ false
no_end_arises b [] rest h e = let last : last_byte (b ∷ []) ≡ b = refl in grind (arith, nat_tests)
no_end_arises b (c ∷ bs) rest h e = h

-- comments

line_from : (l rest : List ℕ) → until at_line_end l ≡ length l → at_end rest ≡ true → makes_line_end l rest ≡ false → until at_line_end (l ++ rest) ≡ length l
unfolding until
line_from [] [] h ends e = refl
line_from [] (b ∷ bs) h ends e = let stops : at_line_end (b ∷ bs) ≡ true = grind (arith, nat_tests) in rw stops refl
line_from (b ∷ bs) rest h ends e =
    elim (cases_Bool (at_line_end (b ∷ bs))) [
      | inl t ↦ absurd (let none : 0 ≡ length (b ∷ bs) = rw t at h in omega arith)
      | inr f ↦ (
          let more : until at_line_end bs + 1 ≡ length (b ∷ bs) = rw f at h in
          let there : until at_line_end (bs ++ rest) ≡ length bs = line_from bs rest (omega arith) ends (tail_makes_none b bs rest e) in
          rw (no_end_arises b bs rest f e) (omega arith))
    ]

pub line_stays : (l rest : List ℕ) → line_len l ≡ length l → (at_end rest && not (makes_line_end l rest)) ≡ true → line_len (l ++ rest) ≡ length l
line_stays l rest h e =
    let both = and_parts (at_end rest) (not (makes_line_end l rest)) e in
    line_from l rest h both.0 (grind (arith, nat_tests))

-- a body's text

abbrev over : ℕ → List ℕ → ℕ
over skip text = until_over ends_text brace_takes skip text

abbrev brace : List ℕ
brace = 123 ∷ []

braces_room : (b : ℕ) (bs : List ℕ) → ends_text (b ∷ bs) ≡ false → brace_takes (b ∷ bs) ≤ length bs
braces_room b [] h = grind (arith, nat_tests)
braces_room b (c ∷ []) h = grind (arith, nat_tests)
braces_room b (c ∷ d ∷ []) h = grind (arith, nat_tests)
braces_room b (c ∷ d ∷ e ∷ bs) h = cond_both (at_braces (b ∷ c ∷ d ∷ e ∷ bs)) 3 0 (λ n. n ≤ length (c ∷ d ∷ e ∷ bs)) (λ _. omega arith) (λ _. omega arith)

neither : (a b : Bool) → (a || b) ≡ false → (a ≡ false) × (b ≡ false)
neither true b h = cc
neither false b h = (refl, h)

-- text goes on where neither a line end nor an expression arises
record GoesOn (b : ℕ) (bs rest : List ℕ) : Type 0 where
  on : ends_text (b ∷ bs ++ rest) ≡ false
  takes : brace_takes (b ∷ bs ++ rest) ≡ brace_takes (b ∷ bs)

longer_goes_on : (b c : ℕ) (bs rest : List ℕ) → ends_text (b ∷ c ∷ bs) ≡ false → GoesOn b (c ∷ bs) rest
longer_goes_on b c bs rest h =
    let both = neither (at_line_end (b ∷ c ∷ bs)) (opens_format_interpolation (b ∷ c ∷ bs)) h in
    let no_end : at_line_end (b ∷ c ∷ bs ++ rest) ≡ false = both.0 in
    let no_format_interpolation : opens_format_interpolation (b ∷ c ∷ bs ++ rest) ≡ false = format_interpolation_same b c bs rest both.1 in
    record { on = rw (no_end, no_format_interpolation) refl; takes = refl }

-- before a line end

line_goes_on : (b : ℕ) (bs rest : List ℕ) → ends_text (b ∷ bs) ≡ false → at_line_end rest ≡ true → makes_line_end (b ∷ bs) rest ≡ false → GoesOn b bs rest
line_goes_on b (c ∷ bs) rest h ends e = longer_goes_on b c bs rest h
line_goes_on b [] rest h ends e =
    let both = neither (at_line_end (b ∷ [])) (opens_format_interpolation (b ∷ [])) h in
    let no_end : at_line_end (b ∷ rest) ≡ false = no_end_arises b [] rest both.0 e in
    let no_brace : (first rest == 123) ≡ false = grind (arith, nat_tests) in
    let no_braces : at_braces (b ∷ rest) ≡ false = grind (arith, nat_tests) in
    let none : at_braces (b ∷ []) ≡ false = grind (arith, nat_tests) in
    record { on = rw (no_end, no_braces) refl; takes = rw (no_braces, none) refl }

text_before_line : (skip : ℕ) (l rest : List ℕ) → skip ≤ length l → over skip l ≡ length l → at_line_end rest ≡ true → makes_line_end l rest ≡ false → over skip (l ++ rest) ≡ length l
unfolding until_over
text_before_line zero [] [] room h ends e = refl
text_before_line zero [] (b ∷ bs) room h ends e = let stops : ends_text (b ∷ bs) ≡ true = rw ends refl in rw stops refl
text_before_line (suc k) [] rest room h ends e = absurd (omega arith)
text_before_line (suc k) (b ∷ bs) rest room h ends e =
    let there : over k (bs ++ rest) ≡ length bs = text_before_line k bs rest (omega arith) (omega arith) ends (tail_makes_none b bs rest e) in
    omega arith
text_before_line zero (b ∷ bs) rest room h ends e =
    elim (cases_Bool (ends_text (b ∷ bs))) [
      | inl t ↦ absurd (let none : 0 ≡ length (b ∷ bs) = rw t at h in omega arith)
      | inr f ↦ (
          let more : over (brace_takes (b ∷ bs)) bs + 1 ≡ length (b ∷ bs) = rw f at h in
          let goes = line_goes_on b bs rest f ends e in
          let there : over (brace_takes (b ∷ bs)) (bs ++ rest) ≡ length bs = text_before_line (brace_takes (b ∷ bs)) bs rest (braces_room b bs f) (omega arith) ends (tail_makes_none b bs rest e) in
          rw (goes.on, goes.takes) (omega arith))
    ]

-- before an expression

format_interpolation_goes_on : (b : ℕ) (bs rest : List ℕ) → ends_text (b ∷ bs) ≡ false → ends_text (b ∷ bs ++ brace) ≡ false → first rest ≡ 123 → GoesOn b bs rest
format_interpolation_goes_on b (c ∷ bs) rest h g e = longer_goes_on b c bs rest h
format_interpolation_goes_on b [] rest h g e =
    let other : (b == 123) ≡ false = grind (arith, nat_tests) in
    let no_end : at_line_end (b ∷ rest) ≡ false = grind (arith, nat_tests) in
    record { on = rw (no_end, other) refl; takes = rw other refl }

text_before_format_interpolation : (skip : ℕ) (l rest : List ℕ) → skip ≤ length l → over skip l ≡ length l → over skip (l ++ brace) ≡ length l + 1 → opens_format_interpolation rest ≡ true → over skip (l ++ rest) ≡ length l
unfolding until_over
text_before_format_interpolation zero [] [] room h more format_interpolation = refl
text_before_format_interpolation zero [] (b ∷ bs) room h more format_interpolation = let stops : ends_text (b ∷ bs) ≡ true = (let is : opens_format_interpolation (b ∷ bs) ≡ true = format_interpolation in grind (arith, nat_tests)) in rw stops refl
text_before_format_interpolation (suc k) [] rest room h more format_interpolation = absurd (omega arith)
text_before_format_interpolation (suc k) (b ∷ bs) rest room h more format_interpolation =
    let there : over k (bs ++ rest) ≡ length bs = text_before_format_interpolation k bs rest (omega arith) (omega arith) (omega arith) format_interpolation in
    omega arith
text_before_format_interpolation zero (b ∷ bs) rest room h more format_interpolation =
    elim (cases_Bool (ends_text (b ∷ bs))) [
      | inl t ↦ absurd (let none : 0 ≡ length (b ∷ bs) = rw t at h in omega arith)
      | inr f ↦ elim (cases_Bool (ends_text (b ∷ bs ++ brace))) [
        | inl t ↦ absurd (let none : 0 ≡ length (b ∷ bs) + 1 = rw t at more in omega arith)
        | inr g ↦ (
            let opening : first rest ≡ 123 = grind (arith, nat_tests) in
            let before = format_interpolation_goes_on b bs brace f g refl in
            let goes = format_interpolation_goes_on b bs rest f g opening in
            let alone : over (brace_takes (b ∷ bs)) bs + 1 ≡ length (b ∷ bs) = rw f at h in
            let braced : over (brace_takes (b ∷ bs)) (bs ++ brace) + 1 ≡ length (b ∷ bs) + 1 = rw (g, before.takes) at more in
            let there : over (brace_takes (b ∷ bs)) (bs ++ rest) ≡ length bs = text_before_format_interpolation (brace_takes (b ∷ bs)) bs rest (braces_room b bs f) (omega arith) (omega arith) format_interpolation in
            rw (goes.on, goes.takes) (omega arith))
      ]
    ]

pub text_stays_line : (l rest : List ℕ) → text_len l ≡ length l → (at_line_end rest && not (makes_line_end l rest)) ≡ true → text_len (l ++ rest) ≡ length l
text_stays_line l rest h e =
    let both = and_parts (at_line_end rest) (not (makes_line_end l rest)) e in
    text_before_line 0 l rest (omega arith) h both.0 (grind (arith, nat_tests))

pub text_stays_format_interpolation : (l rest : List ℕ) → text_len l ≡ length l → (opens_format_interpolation rest && takes_brace l) ≡ true → text_len (l ++ rest) ≡ length l
text_stays_format_interpolation l rest h e =
    let both = and_parts (opens_format_interpolation rest) (takes_brace l) e in
    text_before_format_interpolation 0 l rest (omega arith) h (grind (arith, nat_tests)) both.0
