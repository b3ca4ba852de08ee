-- The last character of a text that ends with a backslash is that backslash.
use Rattle.std.proofs.Common.{◌≡◌, ℕ, ◌+◌, ◌-◌, ◌<◌, ◌≤◌, List, [], ◌∷◌, ◌++◌, length, get_or, length-append, append-nil, refl, sym, ap, ◌∙◌, arith}
use Rattle.std.proofs.Math.Utf8.{encode}
use Rattle.std.proofs.Math.Seq.{get_or-append_seam}
use Rattle.std.proofs.lemmas.List.{append_cancel_right, get_or-append_right}
use Rattle.std.proofs.lemmas.Str.{length-encode, len_utf8_bounds, inside_one, encode_ascii}
use Rattle.meaning_evaluation.specs.Bodies.{without_last}
use Rattle.laws_evaluation.specs.Bodies.Marked.{EndsSlashed}
use Rattle.laws_evaluation.proofs.Bodies.Cutting.{without_seam}

backslash_last : (new front : List ℕ) (c : ℕ) → new ++ encode c ≡ front ++ 92 ∷ [] → new ≡ front
backslash_last new front c e =
    let one : 1 ≤ length (encode c) = omega (arith, length-encode c, (len_utf8_bounds c).0) in
    let total : length new + length (encode c) ≡ length front + 1 = sym (length-append new (encode c)) ∙ (ap length e ∙ length-append front (92 ∷ [])) in
    let at_end : length new ≤ length front = omega (arith, one, total) in
    let k : length front - length new < length (encode c) = omega (arith, one, total) in
    let byte : get_or (encode c) (length front - length new) 0 ≡ 92 =
    sym (get_or-append_right new (encode c) (length new) (length front) 0 refl at_end) ∙ (ap (λ l. get_or l (length front) 0) e ∙ get_or-append_seam front 92 [] 0) in
    let small : get_or (encode c) (length front - length new) 0 < 128 = omega (arith, byte) in
    let is : c ≡ 92 = inside_one c [] (encode c) (length front - length new) (sym (append-nil (encode c))) k small ∙ byte in
    let spelt : encode c ≡ 92 ∷ [] = ap encode is ∙ encode_ascii 92 (omega arith) in
    append_cancel_right new front (92 ∷ []) (ap (λ l. new ++ l) (sym spelt) ∙ e)

-- without its last character a text that ends with a backslash is without its last byte
pub slash_popped : (old new : List ℕ) (c : ℕ) → EndsSlashed old → old ≡ new ++ encode c → new ≡ without_last old
slash_popped old new c h e = backslash_last new h.front c (sym e ∙ h.is) ∙ (sym (without_seam h.front 92) ∙ ap without_last (sym h.is))
