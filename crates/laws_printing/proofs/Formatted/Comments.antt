-- A comment without the white space at its end is one token.
use Rattle.std.proofs.Common.{◌≡◌, ℕ, suc, ◌+◌, ◌<◌, ◌≤◌, Bool, true, false, ◌&&◌, List, [], ◌∷◌, ◌++◌, length, drop, get_or, Option, None, refl, sym, ap, subst, ◌∙◌, arith, inl, inr, ◌⊎◌, length-append, length-drop, eqb-true, append-nil}
use Rattle.std.specs.Prelude.{◌==◌, not, nat_lt}
use Rattle.std.specs.Char.{is_whitespace}
use Rattle.std.proofs.Math.Utf8.{scalar}
use Rattle.std.specs.Str.{IsUtf8, all_scalars, chars, drop_trailing_whitespace, encode_utf8_all, trim_end}
use Rattle.std.proofs.lemmas.Bool.{and_parts}
use Rattle.std.proofs.lemmas.Bool.Decides.{nat_tests}
use Rattle.std.proofs.lemmas.List.{drop_at, take_at}
use Rattle.std.proofs.lemmas.Str.{IsUtf8-take, IsUtf8-drop, IsCharBoundary-before_ascii, chars_from_encodes, encodes-chars, scalars-chars, chars_past_char, encodes-append, encode_ascii}
use Rattle.just_text.specs.declared.token_kind.TokenKind.TheVariants.{Comment}
use Rattle.just_lexer.specs.Classes.{first, at_line_end, until, line_len}
use Rattle.parse_expressions.proofs.Taken.{test}
use Rattle.justfile_syntax.specs.Fits.{is_lexeme, last_byte}
use Rattle.just_lexer.specs.declared.mode.Line.{Line}
use Rattle.just_lexer.specs.declared.mode.Line.TheVariants.{Begin, Start, Ahead, Inside, BodyStart, BodyLine, Over}
use Rattle.just_lexer.specs.declared.mode.Open.{Open}
use Rattle.just_lexer.specs.Lexes.{behind}
use Rattle.just_lexer.specs.Longest.{reach, reach_in}
use Rattle.just_lexer.specs.Modes.{innermost}
use Rattle.just_text.specs.Tokens.{Word}
use Rattle.laws_printing.specs.Printing.Words.{word}
use Rattle.laws_printing.proofs.Formatted.Seen.{Out, next_out}
use Rattle.justfile_syntax.proofs.Parts.{last_on, drop_suc, dropped_front}
use Rattle.justfile_syntax.proofs.Begins.{begins_with}
use Rattle.justfile_syntax.proofs.Stands.{lexeme_reach}
use Rattle.laws_printing.specs.Formatting.Written.{is_comment_written}
use Rattle.laws_printing.proofs.Formatting.ItemsLexed.{all_so}

-- ---- characters without the white space at their end

record Kept (cs : List ℕ) : Type 0 where
  white : List ℕ
  whole : cs ≡ drop_trailing_whitespace cs ++ white

kept_front : (cs : List ℕ) → Kept cs
kept_front [] = record { white = []; whole = refl }
kept_front (c ∷ cs) =
    let k = kept_front cs in
    elim (test (is_whitespace c && length (drop_trailing_whitespace cs) == 0)) [
      | inl h ↦ record { white = c ∷ cs; whole = rw h refl }
      | inr h ↦ record { white = k.white; whole = rw h (ap (λ (xs : List ℕ). c ∷ xs) k.whole) }
    ]

dropped_twice : (cs : List ℕ) → drop_trailing_whitespace (drop_trailing_whitespace cs) ≡ drop_trailing_whitespace cs
dropped_twice [] = refl
dropped_twice (c ∷ cs) =
    elim (test (is_whitespace c && length (drop_trailing_whitespace cs) == 0)) [
      | inl h ↦ rw h refl
      | inr h ↦ rw h (rw (dropped_twice cs, h) refl)
    ]

dropped_le : (cs : List ℕ) → length (drop_trailing_whitespace cs) ≤ length cs
dropped_le cs = let k = kept_front cs in omega (arith, ap length k.whole, length-append (drop_trailing_whitespace cs) k.white)

dropped_last : (cs : List ℕ) (w : ℕ) → is_whitespace w ≡ true → drop_trailing_whitespace (cs ++ w ∷ []) ≡ drop_trailing_whitespace cs
dropped_last [] w h = rw h refl
dropped_last (c ∷ cs) w h = rw (dropped_last cs w h) refl

and_true : (b : Bool) → (b && true) ≡ b
and_true true = refl
and_true false = refl

one_scalar : (c : ℕ) (cs : List ℕ) → all_scalars (c ∷ cs) ≡ true → all_scalars (c ∷ []) && all_scalars cs ≡ true
one_scalar c cs h = ap (λ b. b && all_scalars cs) (and_true (scalar c)) ∙ h

more_scalars : (c : ℕ) (cs : List ℕ) → all_scalars (c ∷ []) ≡ true → all_scalars cs ≡ true → all_scalars (c ∷ cs) ≡ true
more_scalars c cs h hs = all_so (scalar c) (all_scalars cs) (sym (and_true (scalar c)) ∙ h) hs

front_scalars : (cs ws : List ℕ) → all_scalars (cs ++ ws) ≡ true → all_scalars cs ≡ true
front_scalars [] ws h = refl
front_scalars (c ∷ cs) ws h =
    let b = and_parts (all_scalars (c ∷ [])) (all_scalars (cs ++ ws)) (one_scalar c (cs ++ ws) h) in
    more_scalars c cs b.0 (front_scalars cs ws b.1)

-- ---- the bytes

front_no_end : (b : ℕ) (bs z : List ℕ) → at_line_end (b ∷ bs ++ z) ≡ false → at_line_end (b ∷ bs) ≡ false
front_no_end b [] z h = grind (arith, nat_tests, h)
front_no_end b (c ∷ bs) z h = h

line_front : (t z : List ℕ) → until at_line_end (t ++ z) ≡ length (t ++ z) → until at_line_end t ≡ length t
unfolding until
line_front [] z h = refl
line_front (b ∷ bs) z h =
    elim (test (at_line_end (b ∷ bs ++ z))) [
      | inl e ↦ absurd (let none : 0 ≡ length (b ∷ bs ++ z) = rw e at h in omega arith)
      | inr e ↦
          let more : until at_line_end (bs ++ z) + 1 ≡ length (b ∷ bs ++ z) = rw e at h in
          let there : until at_line_end bs ≡ length bs = line_front bs z (omega arith) in
          rw (front_no_end b bs z e) (omega (arith, there))
    ]

line_stops : (t : List ℕ) → until at_line_end t < length t → at_line_end (drop (until at_line_end t) t) ≡ true
unfolding until
line_stops [] h = absurd (omega arith)
line_stops (b ∷ bs) h =
    elim (test (at_line_end (b ∷ bs))) [
      | inl e ↦ rw (e, e) refl
      | inr e ↦
          let n : until at_line_end (b ∷ bs) ≡ until at_line_end bs + 1 = rw e refl in
          rw (n, drop_suc (until at_line_end bs) b bs) (line_stops bs (omega arith))
    ]

split_last : (b : ℕ) (bs : List ℕ) → (front : List ℕ) × ((b ∷ bs) ≡ front ++ last_byte (b ∷ bs) ∷ [])
split_last b [] = ([], refl)
split_last b (c ∷ cs) = let r = split_last c cs in (b ∷ r.0, ap (λ (xs : List ℕ). b ∷ xs) r.1 ∙ ap (λ x. (b ∷ r.0) ++ x ∷ []) (sym (last_on b c cs)))

-- ---- comments

eqb-self : (n : ℕ) → (n == n) ≡ true
eqb-self n = grind (arith, nat_tests)

encode_one : (c : ℕ) → c < 128 → encode_utf8_all (c ∷ []) ≡ c ∷ []
encode_one c h = ap (λ x. x ++ []) (encode_ascii c h)

encode_more : (c : ℕ) (cs : List ℕ) → c < 128 → encode_utf8_all (c ∷ cs) ≡ c ∷ encode_utf8_all cs
encode_more c cs h = ap (λ x. x ++ encode_utf8_all cs) (encode_ascii c h)

-- a text before a byte of ASCII, or before nothing
front_utf8 : (l r : List ℕ) → IsUtf8 (l ++ r) → ((length r == 0) ≡ true) ⊎ (first r < 128) → IsUtf8 l
front_utf8 l [] u e = subst IsUtf8 (append-nil l) u
front_utf8 l (b ∷ bs) u (inl e) = absurd (grind (arith, nat_tests, e))
front_utf8 l (b ∷ bs) u (inr e) =
    let whole : List ℕ = l ++ b ∷ bs in
    let inside : length l < length whole = omega (arith, length-append l (b ∷ bs)) in
    let byte : get_or whole (length l) 0 ≡ b = sym (dropped_front (length l) whole inside) ∙ ap first (drop_at l (b ∷ bs) (length l) refl) in
    subst IsUtf8 (take_at l (b ∷ bs) (length l) refl) (IsUtf8-take whole (length l) u (IsCharBoundary-before_ascii whole (length l) inside (rw byte e)))

-- characters that end in no white space don't end in a carriage return
no_white_end : (ds es : List ℕ) → drop_trailing_whitespace ds ≡ ds → ds ≡ es ++ 13 ∷ [] → ⊥
no_white_end ds es d same =
    let shorter : drop_trailing_whitespace es ≡ es ++ 13 ∷ [] = sym (dropped_last es 13 refl) ∙ ap drop_trailing_whitespace (sym same) ∙ d ∙ same in
    omega (arith, dropped_le es, ap length shorter, length-append es (13 ∷ []))

same_characters : (ds es t front : List ℕ) → IsUtf8 t → encode_utf8_all ds ≡ t → encode_utf8_all es ≡ front → t ≡ front ++ 13 ∷ [] → ds ≡ es ++ 13 ∷ []
same_characters ds es t front u e f whole =
    let made : encode_utf8_all (es ++ 13 ∷ []) ≡ t = encodes-append es (13 ∷ []) ∙ ap (λ x. encode_utf8_all es ++ x) (encode_one 13 (omega arith)) ∙ ap (λ x. x ++ 13 ∷ []) f ∙ sym whole in
    chars_from_encodes ds t u e ∙ sym (chars_from_encodes (es ++ 13 ∷ []) t u made)

-- the bytes before a carriage return at the end are UTF-8
front_of_end : (t front : List ℕ) → IsUtf8 t → t ≡ front ++ 13 ∷ [] → IsUtf8 front
front_of_end t front u whole = front_utf8 front (13 ∷ []) (subst IsUtf8 whole u) (inr (omega arith))

no_return_at : (ds t front : List ℕ) → drop_trailing_whitespace ds ≡ ds → all_scalars ds ≡ true → encode_utf8_all ds ≡ t → t ≡ front ++ 13 ∷ [] → ⊥
no_return_at ds t front d sc e whole =
    let f = front_of_end t front (ds, (sc, e)) whole in
    no_white_end ds f.0 d (same_characters ds f.0 t front (ds, (sc, e)) e f.1.1 whole)

-- so the last byte of what is left isn't one
no_return : (ds t : List ℕ) → drop_trailing_whitespace ds ≡ ds → all_scalars ds ≡ true → encode_utf8_all ds ≡ t → 0 < length t → (last_byte t == 13) ≡ false
no_return ds [] d sc e h = absurd (omega arith)
no_return ds (b ∷ bs) d sc e h =
    elim (test (last_byte (b ∷ bs) == 13)) [
      | inr other ↦ other
      | inl is ↦
          let r = split_last b bs in
          absurd (no_return_at ds (b ∷ bs) r.0 d sc e (r.1 ∙ ap (λ x. r.0 ++ x ∷ []) (eqb-true (last_byte (b ∷ bs)) 13 is)))
    ]

comment_front : (cs t z : List ℕ) → line_len (t ++ z) ≡ length (t ++ z) → t ≡ 35 ∷ cs → (last_byte t == 13) ≡ false → is_comment_written t ≡ true
comment_front cs t z line e last =
    let here : line_len t ≡ length t = line_front t z line in
    let size : length t ≡ suc (length cs) = ap length e in
    let some : nat_lt 0 (length t) ≡ true = grind (arith, nat_tests, size) in
    let mark : (first t == 35) ≡ true = rw e refl in
    let reached : (reach None Comment t == length t) ≡ true = rw (mark, here) (eqb-self (length t)) in
    all_so (is_lexeme None Comment t) (not (last_byte t == 13)) (all_so (nat_lt 0 (length t)) (reach None Comment t == length t) some reached) (rw last refl)

-- a comment without the white space at its end is one, and stays as it is
pub comment_kept : (l : List ℕ) → IsUtf8 l → is_lexeme None Comment l ≡ true → (is_comment_written (trim_end l) ≡ true) × (trim_end l ≡ trim_end (trim_end l))
unfolding trim_end
comment_kept [] u h = absurd (grind (arith, nat_tests))
comment_kept (c ∷ cs) u h =
    let l : List ℕ = c ∷ cs in
    let mark : c ≡ 35 = eqb-true c 35 (begins_with None Comment c cs (rw (lexeme_reach None Comment l h) (omega arith))) in
    let is_mark : (c == 35) ≡ true = rw mark refl in
    let r : reach None Comment l ≡ length l = lexeme_reach None Comment l h in
    let line : line_len l ≡ length l = rw is_mark at r in
    let ds : List ℕ = drop_trailing_whitespace (chars l) in
    let k = kept_front (chars l) in
    let twice : drop_trailing_whitespace ds ≡ ds = dropped_twice (chars l) in
    let sc : all_scalars ds ≡ true = front_scalars ds k.white (subst (λ x. all_scalars x ≡ true) k.whole (scalars-chars l u)) in
    let t : List ℕ = encode_utf8_all ds in
    let whole : l ≡ t ++ encode_utf8_all k.white = sym (encodes-chars l u) ∙ ap encode_utf8_all k.whole ∙ encodes-append ds k.white in
    let first_char : chars l ≡ 35 ∷ chars cs = chars_past_char l cs 35 u (ap (λ x. x ∷ cs) mark ∙ ap (λ x. x ++ cs) (sym (encode_ascii 35 (omega arith)))) in
    let front : ds ≡ 35 ∷ drop_trailing_whitespace (chars cs) = ap drop_trailing_whitespace first_char in
    let bytes : t ≡ 35 ∷ encode_utf8_all (drop_trailing_whitespace (chars cs)) = ap encode_utf8_all front ∙ encode_more 35 (drop_trailing_whitespace (chars cs)) (omega arith) in
    let some : 0 < length t = omega (arith, ap length bytes) in
    let last = no_return ds t twice sc refl some in
    let back : ds ≡ chars t = chars_from_encodes ds t (ds, (sc, refl)) refl in (
      comment_front (encode_utf8_all (drop_trailing_whitespace (chars cs))) t (encode_utf8_all k.white) (subst (λ x. line_len x ≡ length x) whole line) bytes last,
      ap encode_utf8_all (sym twice ∙ ap drop_trailing_whitespace back),
    )

-- ---- comments of a text

reach_comment : (line : Line) (inner : Option Open) (r : List ℕ) → reach_in line inner Comment r ≡ reach inner Comment r
reach_comment Begin inner r = refl
reach_comment (Start may) inner r = refl
reach_comment (Ahead may) inner r = refl
reach_comment (Inside may) inner r = refl
reach_comment (BodyStart i) inner r = refl
reach_comment (BodyLine i) inner r = refl
reach_comment Over inner r = refl

low_end : (r : List ℕ) → at_line_end r ≡ true → first r < 128
low_end r h = grind (arith, nat_tests, h)

-- a text that begins with a byte of ASCII
back_utf8 : (before : List ℕ) (b : ℕ) (bs : List ℕ) → b < 128 → IsUtf8 (before ++ b ∷ bs) → IsUtf8 (b ∷ bs)
back_utf8 before b bs e u =
    let whole : List ℕ = before ++ b ∷ bs in
    let inside : length before < length whole = omega (arith, length-append before (b ∷ bs)) in
    let byte : get_or whole (length before) 0 ≡ b = sym (dropped_front (length before) whole inside) ∙ ap first (drop_at before (b ∷ bs) (length before) refl) in
    subst IsUtf8 (drop_at before (b ∷ bs) (length before) refl) (IsUtf8-drop whole (length before) u (IsCharBoundary-before_ascii whole (length before) inside (rw byte e)))

comment_utf8 : (before l r : List ℕ) → is_lexeme None Comment l ≡ true → IsUtf8 (before ++ (l ++ r)) → ((length r == 0) ≡ true) ⊎ (first r < 128) → IsUtf8 l
comment_utf8 before [] r h u e = absurd (grind (arith, nat_tests))
comment_utf8 before (c ∷ cs) r h u e =
    let mark : c ≡ 35 = eqb-true c 35 (begins_with None Comment c cs (rw (lexeme_reach None Comment (c ∷ cs) h) (omega arith))) in
    front_utf8 (c ∷ cs) r (back_utf8 before c (cs ++ r) (rw mark (omega arith)) u) e

-- what stands after a comment's token
after_comment : (r : List ℕ) (n : ℕ) → 0 < n → n ≡ reach None Comment r → ((length (drop n r) == 0) ≡ true) ⊎ (first (drop n r) < 128)
after_comment r n some size =
    elim (test (first r == 35)) [
      | inr h ↦ absurd (let z : n ≡ 0 = rw h at size in omega (arith, z))
      | inl h ↦
          let line : n ≡ line_len r = rw h at size in
          elim (test (length (drop n r) == 0)) [
            | inl z ↦ inl z
            | inr z ↦ (let less : line_len r < length r = (let d = length-drop n r in grind (arith, nat_tests, z, d, line)) in inr (rw line (low_end (drop (line_len r) r) (line_stops r less))))
          ]
    ]

-- a comment outside bodies is UTF-8
pub comment_in : (l : List ℕ) (ws : List Word) (s : Out [] (word Comment l ∷ ws)) → is_lexeme None Comment l ≡ true → IsUtf8 l
comment_in l ws s h =
    let n = next_out [] (word Comment l) ws s in
    let text : n.token.text ≡ l = ap (λ (v : Word). v.text) n.is in
    let r : List ℕ = (behind n.at n.token).rest in
    let left : r ≡ drop (length l) n.at.rest = ap (λ x. drop (length x) n.at.rest) text in
    let size : length l ≡ reach None Comment n.at.rest =
    subst (λ (v : Word). length v.text ≡ reach_in n.at.mode.line None v.kind n.at.rest) n.is (subst (λ os. length n.token.text ≡ reach_in n.at.mode.line (innermost os) n.token.kind n.at.rest) n.same n.here.longest.reaches) ∙ reach_comment n.at.mode.line None n.at.rest in
    let some : 0 < length l = grind (arith, nat_tests, (and_parts (nat_lt 0 (length l)) (reach None Comment l == length l) h).0) in
    let u : IsUtf8 (n.suffix.0 ++ (l ++ r)) = subst (λ x. IsUtf8 (n.suffix.0 ++ x)) (n.here.front ∙ ap (λ x. x ++ r) text) n.suffix.1 in
    comment_utf8 n.suffix.0 l r h u (subst (λ x. ((length x == 0) ≡ true) ⊎ (first x < 128)) (sym left) (after_comment n.at.rest (length l) some size))
