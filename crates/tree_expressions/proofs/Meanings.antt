-- The answers to texts with escapes are what they mean.
use Rattle.std.proofs.Common.{◌≡◌, ◌≢◌, ℕ, ◌+◌, ◌*◌, ◌<◌, ◌≤◌, ◌==◌, nat_lt, Bool, true, false, ◌&&◌, inl, inr, List, [], ◌∷◌, ◌++◌, length, length-append, append_assoc, refl, sym, ap, subst, ◌∙◌, arith}
use Rattle.std.specs.Prelude.{fold, Result, Ok, Err, codes}
use Rattle.std.specs.List.{list_all}
use Rattle.std.specs.Char.{digit_value}
use Rattle.std.proofs.lemmas.Bool.{cond_both}
use Rattle.std.proofs.lemmas.Bool.Decides.{nat_tests}
use Rattle.std.proofs.lemmas.List.Sums.{fold-append}
use Rattle.std.proofs.lemmas.List.Folds.{list_all-append}
use Rattle.tree_expressions.specs.declared.escapes.Escape.{Escape}
use Rattle.tree_expressions.specs.declared.escapes.Escape.TheVariants.{Outside, Backslash, Unicode, Digits}
use Rattle.tree_expressions.specs.declared.escapes.Step.{Step}
use Rattle.tree_expressions.specs.declared.escapes.Step.TheVariants.{Adds, Reads, Breaks}
use Rattle.tree_expressions.specs.Escaping.{is_scalar, turn, onto, goes_on, unescaped_from}
use Rattle.tree_expressions.specs.Meaning as meaning
use Rattle.tree_expressions.specs.Meaning.{is_hex, spelled, spell_character, AreDigits, IsEscape, StandsFor, IsBegun, IsBroken, IsRefusedAt, Means, AnswersMean, MeaningsAreAnswered}

-- what was read of an escape, at its place
pub data IsAt : Escape → List ℕ → Type 0 where
  at_outside : IsAt Outside []
  at_backslash : IsAt Backslash (codes "\\")
  at_u : IsAt Unicode (codes "\\u")
  at_digits : (digits : List ℕ) → AreDigits digits → IsAt (Digits (length digits) (spelled digits)) (codes "\\u{" ++ digits)

refused_behind : (e d cs bad : List ℕ) → ((front out : List ℕ) → StandsFor front out → StandsFor (e ++ front) (d ++ out)) → IsRefusedAt cs bad → IsRefusedAt (e ++ cs) bad
refused_behind e d cs bad stands r = record {
  front = e ++ r.front;
  rest = r.rest;
  out = d ++ r.out;
  whole = ap (λ x. e ++ x) r.whole ∙ sym (append_assoc e r.front (bad ++ r.rest));
  stands = stands r.front r.out r.stands;
  bad_is = r.bad_is;
}

means_plain : (c : ℕ) (cs : List ℕ) (r : Result (List ℕ) (List ℕ)) → c ≢ 92 → Means cs r → Means (c ∷ cs) (onto c r)
means_plain c cs (Ok out) other m = meaning.plain c other m
means_plain c cs (Err bad) other m = refused_behind (c ∷ []) (c ∷ []) cs bad (λ front out s. meaning.plain c other s) m

means_one : (e cs : List ℕ) (d : ℕ) (r : Result (List ℕ) (List ℕ)) → IsEscape e (d ∷ []) → Means cs r → Means (e ++ cs) (onto d r)
means_one e cs d (Ok out) is m = meaning.escaped is m
means_one e cs d (Err bad) is m = refused_behind e (d ∷ []) cs bad (λ front out s. meaning.escaped is s) m

means_none : (e cs : List ℕ) (r : Result (List ℕ) (List ℕ)) → IsEscape e [] → Means cs r → Means (e ++ cs) r
means_none e cs (Ok out) is m = meaning.escaped is m
means_none e cs (Err bad) is m = refused_behind e [] cs bad (λ front out s. meaning.escaped is s) m

broken : (text bad rest : List ℕ) → text ≡ bad ++ rest → IsBroken bad → IsRefusedAt text bad
broken text bad rest whole is = record { front = []; rest = rest; out = []; whole = whole; stands = meaning.nothing; bad_is = inl is }

begun : (bad : List ℕ) → IsBegun bad → IsRefusedAt (bad ++ []) bad
begun bad is = record { front = []; rest = []; out = []; whole = refl; stands = meaning.nothing; bad_is = inr (is, refl) }

both : (x y : Bool) → (x && y) ≡ true → (x ≡ true) × (y ≡ true)
both true y e = (refl, e)
both false y e = absurd (cc e)

one_more : (digits : List ℕ) (c : ℕ) → AreDigits digits → (is_hex c && nat_lt (length digits) 6) ≡ true → AreDigits (digits ++ c ∷ [])
one_more digits c are ok =
    let h = both (is_hex c) (nat_lt (length digits) 6) ok in
    let below : length digits < 6 = grind (arith, nat_tests) in
    record { hex = rw (list_all-append is_hex digits (c ∷ []), are.hex, h.0) refl; few = omega (arith, length-append digits (c ∷ []), below) }

next_at : (digits : List ℕ) (c : ℕ) → AreDigits digits → (is_hex c && nat_lt (length digits) 6) ≡ true → IsAt (Digits (length digits + 1) (spelled digits * 16 + digit_value c)) ((codes "\\u{" ++ digits) ++ c ∷ [])
next_at digits c are ok =
    let longer : length (digits ++ c ∷ []) ≡ length digits + 1 = length-append digits (c ∷ []) in
    let larger : spelled (digits ++ c ∷ []) ≡ spelled digits * 16 + digit_value c = fold-append (λ value c. value * 16 + digit_value c) 0 digits (c ∷ []) in
    let read : List ℕ = (codes "\\u{" ++ digits) ++ c ∷ [] in
    let from : IsAt (Digits (length (digits ++ c ∷ [])) (spelled (digits ++ c ∷ []))) read = at_digits (digits ++ c ∷ []) (one_more digits c are ok) in
    subst (λ n. IsAt (Digits n (spelled digits * 16 + digit_value c)) read) longer (subst (λ v. IsAt (Digits (length (digits ++ c ∷ [])) v) read) larger from)

pub means : (escape : Escape) (read cs : List ℕ) → IsAt escape read → Means (read ++ cs) (unescaped_from escape read cs)
unfolding unescaped_from turn
means _ _ [] at_outside = meaning.nothing
means _ _ [] at_backslash = begun (codes "\\") meaning.behind_backslash
means _ _ [] at_u = begun (codes "\\u") meaning.behind_u
means _ _ [] (at_digits digits are) = begun (codes "\\u{" ++ digits) (meaning.behind_digits digits are)
means _ _ (c ∷ cs) at_outside =
    cond_both (c == 92) (Reads Backslash) (Adds c) (λ step. Means (c ∷ cs) (goes_on step (c ∷ []) (λ next read. unescaped_from next read cs)))
    (λ e. let is : c ≡ 92 = grind (arith, nat_tests) in rw is (means Backslash (codes "\\") cs at_backslash))
    (λ e. means_plain c cs (unescaped_from Outside [] cs) (grind (arith, nat_tests)) (means Outside [] cs at_outside))
means _ _ (c ∷ cs) at_backslash =
    let P : Step → Type 0 = λ step. Means (codes "\\" ++ c ∷ cs) (goes_on step (codes "\\" ++ c ∷ []) (λ next read. unescaped_from next read cs)) in
    let rest : Means cs (unescaped_from Outside [] cs) = means Outside [] cs at_outside in
    cond_both (c == 117) _ _ P (λ e. let is : c ≡ 117 = grind (arith, nat_tests) in rw is (means Unicode (codes "\\u") cs at_u)) (λ not_u.
    cond_both (c == 10) _ _ P (λ e. let is : c ≡ 10 = grind (arith, nat_tests) in rw is (means_none (codes "\\\n") cs _ meaning.newline rest)) (λ not_newline.
    cond_both (c == 110) _ _ P (λ e. let is : c ≡ 110 = grind (arith, nat_tests) in rw is (means_one (codes "\\n") cs 10 _ meaning.letter_n rest)) (λ not_n.
    cond_both (c == 114) _ _ P (λ e. let is : c ≡ 114 = grind (arith, nat_tests) in rw is (means_one (codes "\\r") cs 13 _ meaning.letter_r rest)) (λ not_r.
    cond_both (c == 116) _ _ P (λ e. let is : c ≡ 116 = grind (arith, nat_tests) in rw is (means_one (codes "\\t") cs 9 _ meaning.letter_t rest)) (λ not_t.
    cond_both (c == 34) _ _ P (λ e. let is : c ≡ 34 = grind (arith, nat_tests) in rw is (means_one (codes "\\\"") cs 34 _ meaning.quote rest)) (λ not_quote.
    cond_both (c == 92) _ _ P (λ e. let is : c ≡ 92 = grind (arith, nat_tests) in rw is (means_one (codes "\\\\") cs 92 _ meaning.backslash rest)) (λ not_backslash.
    broken (codes "\\" ++ c ∷ cs) (codes "\\" ++ c ∷ []) cs refl (meaning.by_letter c (rw (not_u, not_newline, not_n, not_r, not_t, not_quote, not_backslash) refl)))))))))
means _ _ (c ∷ cs) at_u =
    cond_both (c == 123) (Reads (Digits 0 0)) Breaks (λ step. Means (codes "\\u" ++ c ∷ cs) (goes_on step (codes "\\u" ++ c ∷ []) (λ next read. unescaped_from next read cs)))
    (λ e. let is : c ≡ 123 = grind (arith, nat_tests) in rw is (means (Digits 0 0) (codes "\\u{") cs (at_digits [] (record { hex = refl; few = omega arith }))))
    (λ e. broken _ _ cs refl (meaning.by_no_brace c (grind (arith, nat_tests))))
means _ _ (c ∷ cs) (at_digits digits are) =
    let P : Step → Type 0 = λ step. Means ((codes "\\u{" ++ digits) ++ c ∷ cs) (goes_on step ((codes "\\u{" ++ digits) ++ c ∷ []) (λ next read. unescaped_from next read cs)) in
    let whole : (codes "\\u{" ++ digits) ++ c ∷ cs ≡ ((codes "\\u{" ++ digits) ++ c ∷ []) ++ cs = ap (λ x. codes "\\u{" ++ x) (sym (append_assoc digits (c ∷ []) cs)) in
    cond_both (c == 125) _ _ P
    (λ e. let is : c ≡ 125 = grind (arith, nat_tests) in
    cond_both (spell_character digits) (Adds (spelled digits)) Breaks P
    (λ ok. subst (λ x. Means x (onto (spelled digits) (unescaped_from Outside [] cs))) (sym whole) (rw is (means_one (codes "\\u{" ++ digits ++ codes "}") cs (spelled digits) _ (meaning.number digits are ok) (means Outside [] cs at_outside))))
    (λ no. broken _ _ cs whole (rw is (meaning.by_number digits are no))))
    (λ e.
    cond_both (is_hex c && nat_lt (length digits) 6) _ Breaks P
    (λ ok. subst (λ x. Means x (unescaped_from (Digits (length digits + 1) (spelled digits * 16 + digit_value c)) ((codes "\\u{" ++ digits) ++ c ∷ []) cs)) (sym whole)
    (means _ ((codes "\\u{" ++ digits) ++ c ∷ []) cs (next_at digits c are ok)))
    (λ no. broken _ _ cs whole (meaning.by_no_digit digits c are (grind (arith, nat_tests)) no)))

-- the other way
onto_all : List ℕ → Result (List ℕ) (List ℕ) → Result (List ℕ) (List ℕ)
onto_all [] r = r
onto_all (d ∷ ds) r = onto d (onto_all ds r)

onto_all_ok : (d out : List ℕ) → onto_all d (Ok out) ≡ Ok (d ++ out)
unfolding onto_all
onto_all_ok [] out = refl
onto_all_ok (d ∷ ds) out = ap (onto d) (onto_all_ok ds out)

hex_no_brace : (c : ℕ) → is_hex c ≡ true → (c == 125) ≡ false
hex_no_brace c h = grind (arith, nat_tests)

read_digits : (digits : List ℕ) (n v : ℕ) (read cs : List ℕ) → list_all is_hex digits ≡ true → n + length digits ≤ 6 → 0 < n + length digits
    → is_scalar (fold (λ value c. value * 16 + digit_value c) v digits) ≡ true
    → unescaped_from (Digits n v) read (digits ++ codes "}" ++ cs) ≡ onto (fold (λ value c. value * 16 + digit_value c) v digits) (unescaped_from Outside [] cs)
unfolding unescaped_from turn
read_digits [] n v read cs hex few some scalar =
    let more : 0 < n = omega arith in
    let test : nat_lt 0 n ≡ true = grind (arith, nat_tests) in
    rw (test, scalar) refl
read_digits (c ∷ digits) n v read cs hex few some scalar =
    let h = both (is_hex c) (list_all is_hex digits) hex in
    let below : n < 6 = omega arith in
    let test : nat_lt n 6 ≡ true = grind (arith, nat_tests) in
    rw (hex_no_brace c h.0, h.0, test) (read_digits digits (n + 1) (v * 16 + digit_value c) (read ++ c ∷ []) cs h.1 (omega arith) (omega arith) scalar)

read_escape : (e d cs : List ℕ) → IsEscape e d → unescaped_from Outside [] (e ++ cs) ≡ onto_all d (unescaped_from Outside [] cs)
unfolding unescaped_from turn onto_all
read_escape _ _ cs meaning.newline = refl
read_escape _ _ cs meaning.letter_n = refl
read_escape _ _ cs meaning.letter_r = refl
read_escape _ _ cs meaning.letter_t = refl
read_escape _ _ cs meaning.quote = refl
read_escape _ _ cs meaning.backslash = refl
read_escape _ _ cs (meaning.number digits are ok) =
    let h = both (nat_lt 0 (length digits)) (is_scalar (spelled digits)) ok in
    let some : 0 < length digits = grind (arith, nat_tests) in
    read_digits digits 0 0 (codes "\\u{") cs are.hex (omega (arith, are.few)) (omega arith) h.1

pub answered : (cs out : List ℕ) → StandsFor cs out → unescaped_from Outside [] cs ≡ Ok out
unfolding unescaped_from turn
answered _ _ meaning.nothing = refl
answered _ _ (meaning.plain c other m) = let test : (c == 92) ≡ false = grind (arith, nat_tests) in rw test (ap (onto c) (answered _ _ m))
answered _ _ (meaning.escaped {e} {d} {cs} {out} is m) = read_escape e d cs is ∙ ap (onto_all d) (answered cs out m) ∙ onto_all_ok d out
