-- What the characters of a text are escaped as, byte by byte.
use Rattle.std.proofs.Common.{ℕ, List, [], ◌∷◌, ◌++◌, ◌≡◌, ◌≢◌, ◌≤◌, ◌+◌, ◌/◌, Bool, true, false, cond, refl, arith, sym, append-nil, append_assoc, length, ◌∙◌}
use Rattle.std.proofs.lemmas.Bool.{false_from_ne_true, eqb-true}
use Rattle.std.proofs.lemmas.Grind.{flat_map-append}
use Rattle.std.proofs.lemmas.Str.{encodes-append}
use Rattle.std.proofs.Math.Dec.{eqb}
use Rattle.std.specs.List.{flat_map}
use lib.Utf8.{encode, encodes, next}
use Rattle.std.proofs.Math.Dec.{ltb}
use Rattle.just_value.specs.Values.{escaped}

not_equal : (a b : ℕ) → a ≢ b → eqb a b ≡ false
not_equal a b ne = false_from_ne_true (eqb a b) (λ e. ne (eqb-true a b e))

-- a byte that needs no escape
as_it_is : (b : ℕ) → b ≢ 9 → b ≢ 10 → b ≢ 13 → b ≢ 34 → b ≢ 92 → escaped b ≡ b ∷ []
as_it_is b tab newline return quote slash =
    rw (not_equal b 9 tab, not_equal b 10 newline, not_equal b 13 return, not_equal b 34 quote, not_equal b 92 slash) refl

-- a byte that is no ASCII
high : (b : ℕ) → 128 ≤ b → escaped b ≡ b ∷ []
high b from = as_it_is b (omega arith) (omega arith) (omega arith) (omega arith) (omega arith)

two : (a b : ℕ) → 128 ≤ a → 128 ≤ b → flat_map escaped (a ∷ b ∷ []) ≡ a ∷ b ∷ []
two a b p q = rw (high a p, high b q) refl

three : (a b d : ℕ) → 128 ≤ a → 128 ≤ b → 128 ≤ d → flat_map escaped (a ∷ b ∷ d ∷ []) ≡ a ∷ b ∷ d ∷ []
three a b d p q r = rw (high a p, high b q, high d r) refl

four : (a b d e : ℕ) → 128 ≤ a → 128 ≤ b → 128 ≤ d → 128 ≤ e → flat_map escaped (a ∷ b ∷ d ∷ e ∷ []) ≡ a ∷ b ∷ d ∷ e ∷ []
four a b d e p q r s = rw (high a p, high b q, high d r, high e s) refl

either : (b : Bool) (xs ys : List ℕ) → flat_map escaped xs ≡ xs → flat_map escaped ys ≡ ys → flat_map escaped (cond b xs ys) ≡ cond b xs ys
either true xs ys p q = p
either false xs ys p q = q

alone : (b : ℕ) → escaped b ≡ b ∷ [] → flat_map escaped (b ∷ []) ≡ b ∷ []
alone b e = rw e refl

-- a character that needs no escape
pub kept : (c : ℕ) → c ≢ 9 → c ≢ 10 → c ≢ 13 → c ≢ 34 → c ≢ 92 → flat_map escaped (encode c) ≡ encode c
unfolding encode
kept c tab newline return quote slash =
    either (ltb c 128) _ _ (alone c (as_it_is c tab newline return quote slash))
    (either (ltb c 2048) _ _ (two (192 + c / 64) (next c) (omega arith) (omega arith))
    (either (ltb c 65536) _ _ (three (224 + c / 4096) (next (c / 64)) (next c) (omega arith) (omega arith) (omega arith))
    (four (240 + c / 262144) (next (c / 4096)) (next (c / 64)) (next c) (omega arith) (omega arith) (omega arith) (omega arith))))

-- the characters so far, and one more
pub escaped_next : (cs : List ℕ) (c : ℕ) → flat_map escaped (encodes cs) ++ flat_map escaped (encode c) ≡ flat_map escaped (encodes (cs ++ c ∷ []))
escaped_next cs c =
    let one : encodes (c ∷ []) ≡ encode c = append-nil (encode c) in
    rw (encodes-append cs (c ∷ []), one, flat_map-append escaped (encodes cs) (encode c)) refl

-- nothing is left
pub ended : (done rest text : List ℕ) → done ++ rest ≡ text → length rest ≡ 0 → done ≡ text
ended done [] text e none_left = sym (append-nil done) ∙ e
ended done (b ∷ rest) text e none_left = absurd (omega (arith, none_left))

-- one more character is spelled
pub spelled : (cs rest left text : List ℕ) (c : ℕ) → encodes cs ++ rest ≡ text → rest ≡ encode c ++ left → encodes (cs ++ c ∷ []) ++ left ≡ text
spelled cs rest left text c e is =
    let one : encodes (c ∷ []) ≡ encode c = append-nil (encode c) in
    rw (encodes-append cs (c ∷ []), one, append_assoc (encodes cs) (encode c) left, ← is) e
