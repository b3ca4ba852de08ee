-- A text in single quotes, character by character.
use Rattle.std.proofs.Common.{ℕ, List, [], ◌∷◌, ◌++◌, ◌≡◌, ◌≢◌, ◌+◌, ◌/◌, Bool, true, false, cond, codes, refl, arith, sym, ◌∙◌, append-nil}
use mathlib.Core.Bool.{true≢false}
use Rattle.std.proofs.lemmas.Bool.{false_from_ne_true, eqb-true, eq-eqb}
use Rattle.std.proofs.lemmas.Grind.{flat_map-append}
use Rattle.std.proofs.lemmas.Str.{encodes-append}
use Rattle.std.proofs.Math.Dec.{eqb, ltb}
use Rattle.std.specs.List.{flat_map}
use lib.Utf8.{encode, encodes, next}
use Rattle.evaluate_functions.specs.Values.{shell_byte}

-- no byte but 39 is changed
plain : (b : ℕ) → b ≢ 39 → shell_byte b ≡ b ∷ []
plain b ne = rw (false_from_ne_true (eqb b 39) (λ e. ne (eqb-true b 39 e))) refl

alone : (a : ℕ) → a ≢ 39 → flat_map shell_byte (a ∷ []) ≡ a ∷ []
alone a n = rw (plain a n) refl

two : (a b : ℕ) → a ≢ 39 → b ≢ 39 → flat_map shell_byte (a ∷ b ∷ []) ≡ a ∷ b ∷ []
two a b n m = rw (plain a n, plain b m) refl

three : (a b d : ℕ) → a ≢ 39 → b ≢ 39 → d ≢ 39 → flat_map shell_byte (a ∷ b ∷ d ∷ []) ≡ a ∷ b ∷ d ∷ []
three a b d n m k = rw (plain a n, plain b m, plain d k) refl

four : (a b d e : ℕ) → a ≢ 39 → b ≢ 39 → d ≢ 39 → e ≢ 39 → flat_map shell_byte (a ∷ b ∷ d ∷ e ∷ []) ≡ a ∷ b ∷ d ∷ e ∷ []
four a b d e n m k l = rw (plain a n, plain b m, plain d k, plain e l) refl

either : (b : Bool) (xs ys : List ℕ) → flat_map shell_byte xs ≡ xs → flat_map shell_byte ys ≡ ys → flat_map shell_byte (cond b xs ys) ≡ cond b xs ys
either true xs ys p q = p
either false xs ys p q = q

-- a character that is no single quote
kept : (c : ℕ) → c ≢ 39 → flat_map shell_byte (encode c) ≡ encode c
unfolding encode
kept c ne =
    either (ltb c 128) _ _ (alone c ne)
    (either (ltb c 2048) _ _ (two (192 + c / 64) (next c) (omega arith) (omega arith))
    (either (ltb c 65536) _ _ (three (224 + c / 4096) (next (c / 64)) (next c) (omega arith) (omega arith) (omega arith))
    (four (240 + c / 262144) (next (c / 4096)) (next (c / 64)) (next c) (omega arith) (omega arith) (omega arith) (omega arith))))

a_quote : flat_map shell_byte (encode 39) ≡ codes "'\\''"
unfolding encode
a_quote = refl

-- what stands for a character
pub shell_character : (c : ℕ) → flat_map shell_byte (encode c) ≡ cond (eqb c 39) (codes "'\\''") (encode c)
shell_character c = by_test (eqb c 39) refl
  where
    by_test : (b : Bool) → eqb c 39 ≡ b → flat_map shell_byte (encode c) ≡ cond b (codes "'\\''") (encode c)
    by_test true e = rw (eqb-true c 39 e) a_quote
    by_test false e = kept c (λ same. true≢false (sym (eq-eqb c 39 same) ∙ e))

-- the characters so far, and one more
pub quoted_next : (cs : List ℕ) (c : ℕ) → flat_map shell_byte (encodes (cs ++ c ∷ [])) ≡ flat_map shell_byte (encodes cs) ++ flat_map shell_byte (encode c)
quoted_next cs c =
    let one : encodes (c ∷ []) ≡ encode c = append-nil (encode c) in
    rw (encodes-append cs (c ∷ []), one, flat_map-append shell_byte (encodes cs) (encode c)) refl
