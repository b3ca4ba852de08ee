-- Letters of ASCII texts.
use Rattle.std.proofs.Common.{ℕ, zero, suc, List, [], ◌∷◌, ◌++◌, ◌≡◌, ◌<◌, ◌≤◌, ◌-◌, ◌&&◌, Bool, true, false, cond, if◌then◌else◌, map, length, get_or, drop, length-append, nat_lt, codes, Ok, Err, refl, arith, sym, ap, ◌∙◌}
use Rattle.std.proofs.lemmas.Bool.Decides.{nat_tests}
use Rattle.std.proofs.lemmas.Str.{char_from_byte, encode_ascii, length-encode, len_utf8_bounds}
use Rattle.std.specs.Char.{encode_utf8, is_ascii, to_ascii_lowercase, to_ascii_uppercase}
use Rattle.std.specs.List.{list_all}
use Rattle.std.specs.Str.{IsAscii, IsNotAscii}
use Rattle.evaluate_functions.specs.Functions.{recased, capitalized}

low : (b : ℕ) → b < 128 → is_ascii b ≡ true
low b h = grind (arith, nat_tests)

high : (b : ℕ) → 128 ≤ b → is_ascii b ≡ false
high b h = grind (arith, nat_tests)

and_false : (a b : Bool) → b ≡ false → (a && b) ≡ false
and_false true b e = e
and_false false b e = refl

all_ascii : (text : List ℕ) → IsAscii text → list_all is_ascii text ≡ true
all_ascii [] h = refl
all_ascii (b ∷ text) h = ap (λ t. t && list_all is_ascii text) (low b (h 0)) ∙ all_ascii text (λ i. h (suc i))

other_there : (text : List ℕ) (i : ℕ) → 128 ≤ get_or text i 0 → list_all is_ascii text ≡ false
other_there [] zero h = absurd (omega (arith, h))
other_there [] (suc i) h = absurd (omega (arith, h))
other_there (b ∷ text) zero h = ap (λ t. t && list_all is_ascii text) (high b h)
other_there (b ∷ text) (suc i) h = and_false (is_ascii b) (list_all is_ascii text) (other_there text i h)

pub recased_ascii : (to : List ℕ → List ℕ) (text : List ℕ) → IsAscii text → recased to text ≡ Ok (to text ∷ [])
recased_ascii to text h = ap (λ t. if t then Ok (to text ∷ []) else Err (codes "`" ++ (text ++ codes "` is not ASCII"))) (all_ascii text h)

pub refused_other : (to : List ℕ → List ℕ) (text : List ℕ) → IsNotAscii text → recased to text ≡ Err (codes "`" ++ (text ++ codes "` is not ASCII"))
refused_other to text h = ap (λ t. if t then Ok (to text ∷ []) else Err (codes "`" ++ (text ++ codes "` is not ASCII"))) (other_there text h.0 h.1)

small : (p q : Bool) (b : ℕ) → b < 128 → cond p b (cond q (b - 32) b) < 128
small true q b h = h
small false true b h = omega (arith, h)
small false false b h = h

tail_of : (b : ℕ) (text rest : List ℕ) → b ∷ text ≡ b ∷ rest → text ≡ rest
tail_of b text rest e = ap (drop 1) e

pub capitalized_is : (text rest : List ℕ) (c : ℕ) → IsAscii text → text ≡ encode_utf8 c ++ rest → encode_utf8 (to_ascii_uppercase c) ++ map to_ascii_lowercase rest ≡ capitalized text
capitalized_is [] rest c h e = absurd (omega (arith, ap length e, length-append (encode_utf8 c) rest, length-encode c, (len_utf8_bounds c).0))
capitalized_is (b ∷ text) rest c h e =
    let same : c ≡ b = char_from_byte (b ∷ text) rest c e (h 0) (omega arith) in
    let one : encode_utf8 c ≡ b ∷ [] = ap encode_utf8 same ∙ encode_ascii b (h 0) in
    let left : text ≡ rest = tail_of b text rest (e ∙ ap (λ l. l ++ rest) one) in
    let upper : encode_utf8 (to_ascii_uppercase c) ≡ to_ascii_uppercase b ∷ [] = ap (λ d. encode_utf8 (to_ascii_uppercase d)) same ∙ encode_ascii (to_ascii_uppercase b) (small (nat_lt b 97) (nat_lt b 123) b (h 0)) in
    ap (λ l. l ++ map to_ascii_lowercase rest) upper ∙ ap (λ l. to_ascii_uppercase b ∷ map to_ascii_lowercase l) (sym left)
