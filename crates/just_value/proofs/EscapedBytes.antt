-- The set of escaped bytes is that of the definition.
use Rattle.std.proofs.Common.{◌≡◌, ℕ, zero, suc, ◌<◌, Bool, true, ◌&&◌, List, [], ◌∷◌, ◌++◌, length, get_or, refl, ap₂, subst, arith, sym}
use Rattle.std.proofs.lemmas.Bool.{and_parts, cases_eq}
use Rattle.std.proofs.Common.{⊎_elim}
use Rattle.std.proofs.lemmas.Slice.Eq.{bytes_eq-Decides}
use Rattle.std.specs.List.{flat_map}
use Rattle.std.specs.Str.{bytes_eq}
use Rattle.percent_encoding.specs.AsciiSet.{should_percent_encode}
use Rattle.percent_encoding.specs.Percent.{percent_encode, percent_encode_byte, encode_byte}
use Rattle.just_value.specs.declared.uri.TheConstants.{ESCAPED}
use Rattle.just_value.specs.Uris.{uri_byte}

-- the test holds of all numbers below
abbrev each_below : (ℕ → Bool) → ℕ → Bool
each_below test zero = true
each_below test (suc n) = test n && each_below test n

each_below_at : (test : ℕ → Bool) (n i : ℕ) → each_below test n ≡ true → i < n → test i ≡ true
each_below_at test zero i e l = absurd (omega (arith, l))
each_below_at test (suc n) i e l =
    let both = and_parts (test n) (each_below test n) e in
    ⊎_elim (λ here. subst (λ k. test k ≡ true) (sym here) both.0) (λ other. each_below_at test n i both.1 (omega arith)) (cases_eq i n)

all_same : each_below (λ b. bytes_eq (encode_byte ESCAPED b) (uri_byte b)) 256 ≡ true
unfolding should_percent_encode percent_encode_byte
all_same = refl

same_byte : (b : ℕ) → b < 256 → encode_byte ESCAPED b ≡ uri_byte b
same_byte b l = (bytes_eq-Decides (encode_byte ESCAPED b) (uri_byte b)).0 (each_below_at (λ k. bytes_eq (encode_byte ESCAPED k) (uri_byte k)) 256 b all_same l)

same_bytes : (bytes : List ℕ) → ((i : ℕ) → i < length bytes → get_or bytes i 0 < 256) → flat_map (encode_byte ESCAPED) bytes ≡ flat_map uri_byte bytes
same_bytes [] small = refl
same_bytes (b ∷ bytes) small = ap₂ ◌++◌ (same_byte b (small 0 (omega arith))) (same_bytes bytes (λ i l. small (suc i) (omega (arith, l))))

pub escaped_is : (bytes : List ℕ) → ((i : ℕ) → i < length bytes → get_or bytes i 0 < 256) → percent_encode ESCAPED bytes ≡ flat_map uri_byte bytes
unfolding percent_encode
escaped_is bytes small = same_bytes bytes small
