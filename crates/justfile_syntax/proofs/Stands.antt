-- A word that fits is the longest token at its place.
use Rattle.std.proofs.Common.{◌≡◌, ℕ, ◌+◌, ◌<◌, ◌≤◌, Bool, true, false, not, ◌&&◌, ◌||◌, ◌==◌, nat_lt, List, [], ◌∷◌, ◌++◌, length, take, Ok, Err, Option, None, is_some, refl, sym, ap, ◌∙◌, inl, inr, arith, eqb-true}
use Rattle.std.proofs.lemmas.Bool.{and_parts, cond_both, cases_Bool}
use Rattle.std.proofs.lemmas.Bool.Decides.{nat_tests}
use Rattle.std.proofs.lemmas.List.Folds.{prefix_len-append}
use Rattle.std.proofs.lemmas.List.Sums.{prefix_len-le-length}
use Rattle.std.proofs.Math.Seq.{drop-append-add, take-append_seam, take-length}
use Rattle.std.specs.List.{prefix_len}
use Rattle.just_text.specs.Tokens.{Word}
use Rattle.just_text.specs.declared.token_kind.TokenKind.{TokenKind}
use Rattle.just_text.specs.declared.token_kind.TokenKind.TheVariants.{Bang, Colon, Dedent, Eof, Eol, Equals, Indent, InterpolationStart, Plus, Text, Whitespace}
use Rattle.just_lexer.specs.declared.mode.Indentation.{Indentation}
use Rattle.just_lexer.specs.declared.mode.Indentation.TheVariants.{Spaces, Tabs}
use Rattle.just_lexer.specs.declared.mode.Open.{Open}
use Rattle.just_lexer.specs.declared.mode.Line.{Line}
use Rattle.just_lexer.specs.declared.mode.Line.TheVariants.{Begin, Start, Ahead, Inside, BodyStart, BodyLine, Over}
use Rattle.just_lexer.specs.Classes.{first, second, is_blank, at_two, at_braces, at_line_end, at_byte_order_mark, opens_format_interpolation, line_end_len, ends_text, brace_takes, text_len, blank_len, is_blank_line, is_mixed, breaks_off}
use Rattle.just_lexer.specs.Modes.{indent_byte, has_indentation, indent_width}
use Rattle.just_lexer.specs.Longest.{one, two, reach, is_line_kind, IsLongestIn}
use Rattle.just_lexer.specs.declared.fault.Fault.TheVariants as faults
use Rattle.just_lexer.specs.Lexing.{Found, line_token, word_token, blank_token, mark_token, single_token, other_token, start_token, begin_token, body_start_token, body_line_token, interpolation_token, token_at}
use Rattle.just_lexer.proofs.Scans.{over_none}
use Rattle.just_lexer.proofs.OnLongest.{longest_from_token}
use Rattle.justfile_syntax.specs.Fits.{is_lexeme, at_end, goes_no_further, keeps_apart, is_alone, fits_code, fits_line, fits_start, fits_body_start, fits_body_line, stays_in_line, fits_at}
use Rattle.justfile_syntax.proofs.Found.{word_is}
use Rattle.justfile_syntax.proofs.Stays.{run_none, reach_stays}
use Rattle.just_lexer.proofs.Beats.{two_from}

abbrev word : TokenKind → List ℕ → Word
word k l = record { kind = k; text = l }

never : (b : Bool) → not b ≡ true → b ≡ false
never true e = cc
never false e = refl

pub lexeme_reach : (inner : Option Open) (k : TokenKind) (l : List ℕ) → is_lexeme inner k l ≡ true → reach inner k l ≡ length l
lexeme_reach inner k l h = eqb-true (reach inner k l) (length l) (and_parts (nat_lt 0 (length l)) (reach inner k l == length l) h).1

pub alone : (inner : Option Open) (k : TokenKind) (c : ℕ) (cs rest : List ℕ) → is_alone inner (word k (c ∷ cs)) rest ≡ true → reach inner k (c ∷ cs ++ rest) ≡ length (c ∷ cs)
alone inner k c cs rest h =
    let both = and_parts (is_lexeme inner k (c ∷ cs)) (keeps_apart k (c ∷ cs) rest) h in
    reach_stays inner k c cs rest (lexeme_reach inner k (c ∷ cs) both.0) both.1

none_alone : (inner : Option Open) (k : TokenKind) (rest : List ℕ) → is_alone inner (word k []) rest ≡ true → ⊥
none_alone inner k rest h = grind (arith, nat_tests)

not_empty : (c : ℕ) (cs rest : List ℕ) → (length (c ∷ cs ++ rest) == 0) ≡ false
not_empty c cs rest = grind (arith, nat_tests)

-- in a line

one_le : (b : ℕ) (text : List ℕ) → one b text ≤ 1
one_le b text = cond_both (first text == b) 1 0 (λ n. n ≤ 1) (λ _. omega arith) (λ _. omega arith)

further : (inner : Option Open) (k : TokenKind) (c : ℕ) (cs rest : List ℕ) → reach inner k (c ∷ cs) ≡ length (c ∷ cs) → keeps_apart k (c ∷ cs) rest ≡ true → goes_no_further k (second (c ∷ cs ++ rest)) ≡ true
further inner Bang c [] rest r e = e
further inner Colon c [] rest r e = e
further inner Equals c [] rest r e = e
further inner Plus c [] rest r e = e
further inner Bang c (d ∷ cs) rest r e = absurd (omega (arith, one_le 33 (c ∷ d ∷ cs)))
further inner Colon c (d ∷ cs) rest r e = absurd (omega (arith, one_le 58 (c ∷ d ∷ cs)))
further inner Equals c (d ∷ cs) rest r e = absurd (omega (arith, one_le 61 (c ∷ d ∷ cs)))
further inner Plus c (d ∷ cs) rest r e = absurd (omega (arith, one_le 43 (c ∷ d ∷ cs)))
further inner k c cs rest r e = refl

code_word : (inner : Option Open) (k : TokenKind) (c : ℕ) (cs rest : List ℕ) → fits_code inner (word k (c ∷ cs)) rest ≡ true → word_token inner (c ∷ cs ++ rest) ≡ Ok (k, length (c ∷ cs))
code_word inner k c cs rest h =
    let both = and_parts (is_line_kind inner k) (is_alone inner (word k (c ∷ cs)) rest) h in
    let apart = and_parts (is_lexeme inner k (c ∷ cs)) (keeps_apart k (c ∷ cs) rest) both.1 in
    let r : reach inner k (c ∷ cs ++ rest) ≡ length (c ∷ cs) = alone inner k c cs rest both.1 in
    word_is inner (c ∷ cs ++ rest) k both.0 (omega arith) (further inner k c cs rest (lexeme_reach inner k (c ∷ cs) apart.0) apart.1) ∙ ap (λ n. Ok (k, n)) r

code_in_line : (inner : Option Open) (k : TokenKind) (c : ℕ) (cs rest : List ℕ) → fits_code inner (word k (c ∷ cs)) rest ≡ true → line_token inner (c ∷ cs ++ rest) ≡ Ok (k, length (c ∷ cs))
unfolding line_token
code_in_line inner k c cs rest h = rw (not_empty c cs rest) (code_word inner k c cs rest h)

none_fits : (inner : Option Open) (k : TokenKind) (rest : List ℕ) → fits_code inner (word k []) rest ≡ true → ⊥
none_fits inner k rest h = none_alone inner k rest (and_parts (is_line_kind inner k) (is_alone inner (word k []) rest) h).1

-- no token of a line begins with the first byte of a byte order mark
pub no_token : (inner : Option Open) (text : List ℕ) → first text ≡ 239 → word_token inner text ≡ Err faults.UnknownStart
unfolding word_token blank_token mark_token single_token other_token
no_token inner text e = rw e (rw e (rw e refl))

no_mark : (inner : Option Open) (k : TokenKind) (n : ℕ) (text : List ℕ) → first text ≡ 239 → word_token inner text ≡ Ok (k, n) → ⊥
no_mark inner k n text e h = let differ : ◌≡◌ {A = Found} (Err faults.UnknownStart) (Ok (k, n)) = sym (no_token inner text e) ∙ h in cc

no_mark_at : (inner : Option Open) (k : TokenKind) (n : ℕ) (text : List ℕ) → word_token inner text ≡ Ok (k, n) → at_byte_order_mark text ≡ false
no_mark_at inner k n text h =
    elim (cases_Bool (at_byte_order_mark text)) [
      | inl t ↦ absurd (let e : first text ≡ 239 = grind (arith, nat_tests) in no_mark inner k n text e h)
      | inr f ↦ f
    ]

two_nils : (l rest : List ℕ) (P : List ℕ → ℕ → Type 0) → (length l == 0 && length rest == 0) ≡ true → P [] 0 → P (l ++ rest) (length l)
two_nils [] [] P h x = x
two_nils [] (b ∷ bs) P h x = absurd (grind (arith, nat_tests))
two_nils (b ∷ bs) rest P h x = absurd (grind (arith, nat_tests))

end_ahead : (may : Bool) (inner : Option Open) → token_at (Ahead may) inner [] ≡ Ok (Eof, 0)
unfolding token_at line_token
end_ahead may inner = refl

end_inside : (may : Bool) (inner : Option Open) → token_at (Inside may) inner [] ≡ Ok (Eof, 0)
unfolding token_at line_token
end_inside may inner = refl

end_at_start : (may : Bool) (inner : Option Open) → token_at (Start may) inner [] ≡ Ok (Eof, 0)
unfolding token_at start_token line_token
end_at_start may inner = refl

end_at_begin : (inner : Option Open) → token_at Begin inner [] ≡ Ok (Eof, 0)
unfolding token_at begin_token start_token line_token
end_at_begin inner = refl

ahead_code : (may : Bool) (inner : Option Open) (k : TokenKind) (l rest : List ℕ) → fits_code inner (word k l) rest ≡ true → IsLongestIn (Ahead may) inner (l ++ rest) k (length l)
unfolding token_at
ahead_code may inner k [] rest h = absurd (none_fits inner k rest h)
ahead_code may inner k (c ∷ cs) rest h = longest_from_token (Ahead may) inner (c ∷ cs ++ rest) k _ refl (code_in_line inner k c cs rest h)

inside_code : (may : Bool) (inner : Option Open) (k : TokenKind) (l rest : List ℕ) → fits_code inner (word k l) rest ≡ true → IsLongestIn (Inside may) inner (l ++ rest) k (length l)
unfolding token_at
inside_code may inner k [] rest h = absurd (none_fits inner k rest h)
inside_code may inner k (c ∷ cs) rest h = longest_from_token (Inside may) inner (c ∷ cs ++ rest) k _ refl (code_in_line inner k c cs rest h)

ahead_word : (may : Bool) (inner : Option Open) (k : TokenKind) (l rest : List ℕ) → fits_line inner k (word k l) rest ≡ true → IsLongestIn (Ahead may) inner (l ++ rest) k (length l)
ahead_word may inner Eof l rest h = two_nils l rest (λ t n. IsLongestIn (Ahead may) inner t Eof n) h (longest_from_token (Ahead may) inner [] Eof 0 refl (end_ahead may inner))
ahead_word may inner k l rest h = ahead_code may inner k l rest h

inside_word : (may : Bool) (inner : Option Open) (k : TokenKind) (l rest : List ℕ) → fits_line inner k (word k l) rest ≡ true → IsLongestIn (Inside may) inner (l ++ rest) k (length l)
inside_word may inner Eof l rest h = two_nils l rest (λ t n. IsLongestIn (Inside may) inner t Eof n) h (longest_from_token (Inside may) inner [] Eof 0 refl (end_inside may inner))
inside_word may inner k l rest h = inside_code may inner k l rest h

-- at a line's start

start_code : (may : Bool) (inner : Option Open) (k : TokenKind) (c : ℕ) (cs rest : List ℕ) → (not (is_blank c) && fits_code inner (word k (c ∷ cs)) rest) ≡ true → start_token may inner (c ∷ cs ++ rest) ≡ Ok (k, length (c ∷ cs))
unfolding start_token
start_code may inner k c cs rest h =
    let both = and_parts (not (is_blank c)) (fits_code inner (word k (c ∷ cs)) rest) h in
    rw both.0 (code_in_line inner k c cs rest both.1)

code_at_start : (may : Bool) (inner : Option Open) (k : TokenKind) (l rest : List ℕ) → (not (is_blank (first l)) && fits_code inner (word k l) rest) ≡ true → IsLongestIn (Start may) inner (l ++ rest) k (length l)
unfolding token_at
code_at_start may inner k [] rest h = absurd (none_fits inner k rest (and_parts (not (is_blank 0)) (fits_code inner (word k []) rest) h).1)
code_at_start may inner k (c ∷ cs) rest h = longest_from_token (Start may) inner (c ∷ cs ++ rest) k _ refl (start_code may inner k c cs rest h)

code_at_begin : (inner : Option Open) (k : TokenKind) (l rest : List ℕ) → (not (is_blank (first l)) && fits_code inner (word k l) rest) ≡ true → IsLongestIn Begin inner (l ++ rest) k (length l)
unfolding token_at begin_token
code_at_begin inner k [] rest h = absurd (none_fits inner k rest (and_parts (not (is_blank 0)) (fits_code inner (word k []) rest) h).1)
code_at_begin inner k (c ∷ cs) rest h =
    let fits : fits_code inner (word k (c ∷ cs)) rest ≡ true = (and_parts (not (is_blank c)) (fits_code inner (word k (c ∷ cs)) rest) h).1 in
    let none : at_byte_order_mark (c ∷ cs ++ rest) ≡ false = no_mark_at inner k _ (c ∷ cs ++ rest) (code_word inner k c cs rest fits) in
    longest_from_token Begin inner (c ∷ cs ++ rest) k _ refl (rw none (start_code false inner k c cs rest h))

-- indentation

blank_line_behind : (l rest : List ℕ) → blank_len l ≡ length l → is_blank_line (l ++ rest) ≡ is_blank_line rest
blank_line_behind l rest h =
    let n : blank_len (l ++ rest) ≡ length l + blank_len rest = grind (arith, nat_tests, prefix_len-append is_blank l rest) in
    rw (n, drop-append-add l rest (blank_len rest)) refl

pub blank_line_end : (rest : List ℕ) → is_blank (first rest) ≡ false → is_blank_line rest ≡ at_end rest
blank_line_end rest e = rw (run_none is_blank rest e) refl

run_first : (p : ℕ → Bool) (c : ℕ) (cs : List ℕ) → 0 < prefix_len p (c ∷ cs) → p c ≡ true
run_first p c cs = cond_both (p c) (1 + prefix_len p cs) 0 (λ n. 0 < n → p c ≡ true) (λ h q. h) (λ h q. absurd (omega arith))

run_weaker : (p q : ℕ → Bool) (l : List ℕ) → ((c : ℕ) → p c ≡ true → q c ≡ true) → prefix_len p l ≡ length l → prefix_len q l ≡ length l
run_weaker p q [] f h = refl
run_weaker p q (c ∷ cs) f h =
    let here : p c ≡ true = run_first p c cs (omega arith) in
    let more : 1 + prefix_len p cs ≡ length (c ∷ cs) = rw here at h in
    let rest : prefix_len q cs ≡ length cs = run_weaker p q cs f (omega arith) in
    rw (f c here) (omega arith)

taken_front : (l rest : List ℕ) (n : ℕ) → n ≡ length l → take n (l ++ rest) ≡ l
taken_front l rest n e = rw e (take-append_seam l rest)

-- only the white space itself tells whether it is mixed
mixed_same : (l rest : List ℕ) → blank_len l ≡ length l → blank_len (l ++ rest) ≡ length l → is_mixed (l ++ rest) ≡ is_mixed l
mixed_same l rest h g =
    let long : take (blank_len (l ++ rest)) (l ++ rest) ≡ l = taken_front l rest _ g in
    let own : take (blank_len l) l ≡ l = ap (λ n. take n l) h ∙ take-length l in
    rw (long, own) refl

unmixed_if : (may : Bool) (a b : Bool) → not (may && a) ≡ true → b ≡ a → (may && b) ≡ false
unmixed_if true true b h e = cc
unmixed_if true false b h e = e
unmixed_if false a b h e = refl

indent_word : (may : Bool) (inner : Option Open) (c : ℕ) (cs rest : List ℕ) → fits_start may inner Indent (word Indent (c ∷ cs)) rest ≡ true → start_token may inner (c ∷ cs ++ rest) ≡ Ok (Indent, length (c ∷ cs))
unfolding start_token
indent_word may inner c cs rest h =
    let l : List ℕ = c ∷ cs in
    let both = and_parts (is_alone inner (word Indent l) rest) (not (at_end rest) && not (may && is_mixed l)) h in
    let ends = and_parts (not (at_end rest)) (not (may && is_mixed l)) both.1 in
    let is = and_parts (is_lexeme inner Indent l) (not (is_blank (first rest))) both.0 in
    let all : blank_len l ≡ length l = lexeme_reach inner Indent l is.0 in
    let stays : blank_len (l ++ rest) ≡ length l = alone inner Indent c cs rest both.0 in
    let blank : is_blank c ≡ true = run_first is_blank c cs (omega arith) in
    let going : is_blank_line (l ++ rest) ≡ false = blank_line_behind l rest all ∙ blank_line_end rest (never _ is.1) ∙ never _ ends.0 in
    let pure : (may && is_mixed (l ++ rest)) ≡ false = unmixed_if may (is_mixed l) (is_mixed (l ++ rest)) ends.1 (mixed_same l rest all stays) in
    let test : (not (is_blank c) || is_blank_line (l ++ rest)) ≡ false = rw (going, blank) refl in
    rw (test, pure) (ap (λ n. Ok (Indent, n)) stays)

blank_is_no_mark : (c : ℕ) (text : List ℕ) → is_blank c ≡ true → at_byte_order_mark (c ∷ text) ≡ false
blank_is_no_mark c text h = let e : (c == 239) ≡ false = grind (arith, nat_tests) in rw e refl

indent_at_start : (may : Bool) (inner : Option Open) (l rest : List ℕ) → fits_start may inner Indent (word Indent l) rest ≡ true → IsLongestIn (Start may) inner (l ++ rest) Indent (length l)
unfolding token_at
indent_at_start may inner [] rest h = absurd (none_alone inner Indent rest (and_parts (is_alone inner (word Indent []) rest) (not (at_end rest) && not (may && is_mixed [])) h).0)
indent_at_start may inner (c ∷ cs) rest h = longest_from_token (Start may) inner (c ∷ cs ++ rest) Indent _ refl (indent_word may inner c cs rest h)

indent_at_begin : (inner : Option Open) (l rest : List ℕ) → fits_start false inner Indent (word Indent l) rest ≡ true → IsLongestIn Begin inner (l ++ rest) Indent (length l)
unfolding token_at begin_token
indent_at_begin inner [] rest h = absurd (none_alone inner Indent rest (and_parts (is_alone inner (word Indent []) rest) (not (at_end rest) && not (false && is_mixed [])) h).0)
indent_at_begin inner (c ∷ cs) rest h =
    let alone_is = (and_parts (is_alone inner (word Indent (c ∷ cs)) rest) (not (at_end rest) && not (false && is_mixed (c ∷ cs))) h).0 in
    let all : blank_len (c ∷ cs) ≡ length (c ∷ cs) = lexeme_reach inner Indent (c ∷ cs) (and_parts (is_lexeme inner Indent (c ∷ cs)) (not (is_blank (first rest))) alone_is).0 in
    let none : at_byte_order_mark (c ∷ cs ++ rest) ≡ false = blank_is_no_mark c (cs ++ rest) (run_first is_blank c cs (omega arith)) in
    longest_from_token Begin inner (c ∷ cs ++ rest) Indent _ refl (rw none (indent_word false inner c cs rest h))

start_word : (may : Bool) (inner : Option Open) (k : TokenKind) (l rest : List ℕ) → fits_start may inner k (word k l) rest ≡ true → IsLongestIn (Start may) inner (l ++ rest) k (length l)
start_word may inner Eof l rest h = two_nils l rest (λ t n. IsLongestIn (Start may) inner t Eof n) h (longest_from_token (Start may) inner [] Eof 0 refl (end_at_start may inner))
start_word may inner Indent l rest h = indent_at_start may inner l rest h
start_word may inner k l rest h = code_at_start may inner k l rest h

begin_word : (inner : Option Open) (k : TokenKind) (l rest : List ℕ) → fits_start false inner k (word k l) rest ≡ true → IsLongestIn Begin inner (l ++ rest) k (length l)
begin_word inner Eof l rest h = two_nils l rest (λ t n. IsLongestIn Begin inner t Eof n) h (longest_from_token Begin inner [] Eof 0 refl (end_at_begin inner))
begin_word inner Indent l rest h = indent_at_begin inner l rest h
begin_word inner k l rest h = code_at_begin inner k l rest h

-- in a body

indent_is_blank : (i : Indentation) (c : ℕ) → (c == indent_byte i) ≡ true → is_blank c ≡ true
indent_is_blank (Spaces n) c e = grind (arith, nat_tests)
indent_is_blank (Tabs n) c e = grind (arith, nat_tests)

blank_no_end : (text : List ℕ) → is_blank (first text) ≡ true → at_line_end text ≡ false
blank_no_end text h = grind (arith, nat_tests)

body_indent : (i : Indentation) (inner : Option Open) (c : ℕ) (cs rest : List ℕ) → fits_body_start i Whitespace (word Whitespace (c ∷ cs)) rest ≡ true → body_start_token i (c ∷ cs ++ rest) ≡ Ok (Whitespace, length (c ∷ cs))
unfolding body_start_token
body_indent i inner c cs rest h =
    let l : List ℕ = c ∷ cs in
    let both = and_parts (nat_lt 0 (length l) && length l == indent_width i) (has_indentation i l && not (is_blank_line rest)) h in
    let width : length l ≡ indent_width i = eqb-true (length l) (indent_width i) (and_parts (nat_lt 0 (length l)) (length l == indent_width i) both.0).1 in
    let ends = and_parts (has_indentation i l) (not (is_blank_line rest)) both.1 in
    let p : ℕ → Bool = λ b. b == indent_byte i in
    let all : prefix_len p l ≡ length l = grind (arith, nat_tests, prefix_len-le-length p l) in
    let blank : is_blank c ≡ true = indent_is_blank i c (run_first p c cs (omega arith)) in
    let blanks : blank_len l ≡ length l = run_weaker p is_blank l (indent_is_blank i) all in
    let no_end : at_line_end (l ++ rest) ≡ false = blank_no_end (l ++ rest) blank in
    let going : is_blank_line (l ++ rest) ≡ false = blank_line_behind l rest blanks ∙ never _ ends.1 in
    let has : has_indentation i (l ++ rest) ≡ true = grind (arith, nat_tests, prefix_len-append p l rest) in
    rw (no_end, going, blank, has) (ap (λ n. Ok (Whitespace, n)) (sym width))

body_eol : (i : Indentation) (c : ℕ) (cs rest : List ℕ) → line_end_len (c ∷ cs ++ rest) ≡ length (c ∷ cs) → body_start_token i (c ∷ cs ++ rest) ≡ Ok (Eol, length (c ∷ cs))
unfolding body_start_token
body_eol i c cs rest h = let some : nat_lt 0 (length (c ∷ cs)) ≡ true = grind (arith, nat_tests) in rw (h, some) refl

dedent : (i : Indentation) (rest : List ℕ) → not (is_blank (first rest) || at_line_end rest) ≡ true → body_start_token i rest ≡ Ok (Dedent, 0)
unfolding body_start_token
dedent i rest h =
    let a : at_line_end rest ≡ false = grind (arith, nat_tests) in
    let b : is_blank (first rest) ≡ false = grind (arith, nat_tests) in
    rw (a, b) refl

body_start_word : (i : Indentation) (inner : Option Open) (k : TokenKind) (l rest : List ℕ) → fits_body_start i k (word k l) rest ≡ true → IsLongestIn (BodyStart i) inner (l ++ rest) k (length l)
unfolding token_at
body_start_word i inner Eol [] rest h = absurd (none_alone None Eol rest h)
body_start_word i inner Eol (c ∷ cs) rest h = longest_from_token (BodyStart i) inner (c ∷ cs ++ rest) Eol _ refl (body_eol i c cs rest (alone None Eol c cs rest h))
body_start_word i inner Dedent [] rest h = longest_from_token (BodyStart i) inner rest Dedent 0 refl (dedent i rest h)
body_start_word i inner Dedent (c ∷ cs) rest h = absurd (grind (arith, nat_tests))
body_start_word i inner Whitespace [] rest h = absurd (grind (arith, nat_tests))
body_start_word i inner Whitespace (c ∷ cs) rest h = longest_from_token (BodyStart i) inner (c ∷ cs ++ rest) Whitespace _ refl (body_indent i inner c cs rest h)
body_start_word i inner k l rest h = cc

end_of_body : (i : Indentation) (inner : Option Open) → is_some inner ≡ false → token_at (BodyLine i) inner [] ≡ Ok (Dedent, 0)
unfolding token_at body_line_token
end_of_body i inner e = rw e refl

line_eol : (c : ℕ) (cs rest : List ℕ) → line_end_len (c ∷ cs ++ rest) ≡ length (c ∷ cs) → body_line_token (c ∷ cs ++ rest) ≡ Ok (Eol, length (c ∷ cs))
unfolding body_line_token
line_eol c cs rest h =
    let some : nat_lt 0 (length (c ∷ cs)) ≡ true = grind (arith, nat_tests) in
    rw (not_empty c cs rest, h, some) refl

pub text_no_end : (text : List ℕ) → 0 < text_len text → at_line_end text ≡ false
text_no_end text h = elim (cases_Bool (at_line_end text)) [ inl t ↦ absurd (let none : text_len text ≡ 0 = over_none ends_text brace_takes text (rw t refl) in omega arith) | inr f ↦ f ]

text_word : (c : ℕ) (cs rest : List ℕ) → text_len (c ∷ cs ++ rest) ≡ length (c ∷ cs) → body_line_token (c ∷ cs ++ rest) ≡ Ok (Text, length (c ∷ cs))
unfolding body_line_token
text_word c cs rest h =
    let test : (text_len (c ∷ cs ++ rest) == 0) ≡ false = grind (arith, nat_tests) in
    rw (not_empty c cs rest, text_no_end (c ∷ cs ++ rest) (omega arith), test) (ap (λ n. Ok (Text, n)) h)

two_is : (a b : ℕ) (text : List ℕ) → 0 < two a b text → two a b text ≡ 2
two_is a b text = cond_both (at_two a b text) 2 0 (λ n. 0 < n → n ≡ 2) (λ _ p. refl) (λ _ p. absurd (omega arith))

opening : (c : ℕ) (cs rest : List ℕ) → two 123 123 (c ∷ cs ++ rest) ≡ length (c ∷ cs) → not (at_braces rest) ≡ true → body_line_token (c ∷ cs ++ rest) ≡ Ok (InterpolationStart, length (c ∷ cs))
unfolding body_line_token
opening c [] rest h apart = absurd (omega (arith, two_is 123 123 (c ∷ rest) (omega arith)))
opening c (d ∷ e ∷ cs) rest h apart = absurd (omega (arith, two_is 123 123 (c ∷ d ∷ e ∷ cs ++ rest) (omega arith)))
opening c (d ∷ []) rest h apart =
    let braces = two_from 123 123 (c ∷ d ∷ rest) (omega arith) in
    let format_interpolation : opens_format_interpolation (c ∷ d ∷ rest) ≡ true = grind (arith, nat_tests) in
    let no_end : at_line_end (c ∷ d ∷ rest) ≡ false = grind (arith, nat_tests) in
    let none : text_len (c ∷ d ∷ rest) ≡ 0 = over_none ends_text brace_takes (c ∷ d ∷ rest) (rw (no_end, format_interpolation) refl) in
    rw (not_empty c (d ∷ []) rest, no_end, none) refl

body_word : (i : Indentation) (inner : Option Open) (k : TokenKind) (l rest : List ℕ) → is_some inner ≡ false → fits_body_line k (word k l) rest ≡ true → IsLongestIn (BodyLine i) inner (l ++ rest) k (length l)
unfolding token_at
body_word i inner Eol [] rest shut h = absurd (none_alone None Eol rest h)
body_word i inner Text [] rest shut h = absurd (none_alone None Text rest h)
body_word i inner InterpolationStart [] rest shut h = absurd (none_alone None InterpolationStart rest h)
body_word i inner Eol (c ∷ cs) rest shut h = longest_from_token (BodyLine i) inner (c ∷ cs ++ rest) Eol _ refl (rw shut (line_eol c cs rest (alone None Eol c cs rest h)))
body_word i inner Text (c ∷ cs) rest shut h = longest_from_token (BodyLine i) inner (c ∷ cs ++ rest) Text _ refl (rw shut (text_word c cs rest (alone None Text c cs rest h)))
body_word i inner InterpolationStart (c ∷ cs) rest shut h =
    longest_from_token (BodyLine i) inner (c ∷ cs ++ rest) InterpolationStart _ refl (rw shut (opening c cs rest (alone None InterpolationStart c cs rest h) (and_parts (is_lexeme None InterpolationStart (c ∷ cs)) (not (at_braces rest)) h).1))
body_word i inner Dedent l rest shut h = two_nils l rest (λ t n. IsLongestIn (BodyLine i) inner t Dedent n) h (longest_from_token (BodyLine i) inner [] Dedent 0 refl (end_of_body i inner shut))
body_word i inner k l rest shut h = cc

stays_on : (c : ℕ) (cs rest : List ℕ) → stays_in_line (c ∷ cs) ≡ true → breaks_off (c ∷ cs ++ rest) ≡ false
stays_on c cs rest h =
    let no_end : at_line_end (c ∷ cs ++ rest) ≡ false = grind (arith, nat_tests) in
    let slash : (c == 92) ≡ false = grind (arith, nat_tests) in
    rw (not_empty c cs rest, no_end, slash) refl

expression_token : (inner : Option Open) (k : TokenKind) (c : ℕ) (cs rest : List ℕ) → stays_in_line (c ∷ cs) ≡ true → fits_code inner (word k (c ∷ cs)) rest ≡ true → interpolation_token inner (c ∷ cs ++ rest) ≡ Ok (k, length (c ∷ cs))
unfolding interpolation_token
expression_token inner k c cs rest stays h = rw (stays_on c cs rest stays) (code_in_line inner k c cs rest h)

open_word : (i : Indentation) (inner : Option Open) (k : TokenKind) (l rest : List ℕ) → is_some inner ≡ true → (stays_in_line l && fits_code inner (word k l) rest) ≡ true → IsLongestIn (BodyLine i) inner (l ++ rest) k (length l)
unfolding token_at
open_word i inner k [] rest is_open h = absurd (none_fits inner k rest (and_parts (stays_in_line []) (fits_code inner (word k []) rest) h).1)
open_word i inner k (c ∷ cs) rest is_open h =
    let both = and_parts (stays_in_line (c ∷ cs)) (fits_code inner (word k (c ∷ cs)) rest) h in
    longest_from_token (BodyLine i) inner (c ∷ cs ++ rest) k _ refl (rw is_open (expression_token inner k c cs rest both.0 both.1))

pub stands : (line : Line) (inner : Option Open) (w : Word) (rest : List ℕ) → fits_at line inner w rest ≡ true → IsLongestIn line inner (w.text ++ rest) w.kind (length w.text)
stands Begin inner w rest h = begin_word inner w.kind w.text rest h
stands (Start may) inner w rest h = start_word may inner w.kind w.text rest h
stands (Ahead may) inner w rest h = ahead_word may inner w.kind w.text rest h
stands (Inside may) inner w rest h = inside_word may inner w.kind w.text rest h
stands (BodyStart i) inner w rest h = body_start_word i inner w.kind w.text rest h
stands (BodyLine i) inner w rest h =
    cond_both (is_some inner) (stays_in_line w.text && fits_code inner w rest) (fits_body_line w.kind w rest) (λ b. b ≡ true → IsLongestIn (BodyLine i) inner (w.text ++ rest) w.kind (length w.text))
    (λ t q. open_word i inner w.kind w.text rest t q)
    (λ f q. body_word i inner w.kind w.text rest f q) h
stands Over inner w rest h = cc
