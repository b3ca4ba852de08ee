-- A text without its last backslash, and lines by their first and last parts.
use Rattle.std.proofs.Common.{◌≡◌, ℕ, ◌+◌, ◌-◌, ◌<◌, List, [], ◌∷◌, ◌++◌, length, take, get_or, length-append, sym, ap, ◌∙◌, arith}
use Rattle.std.proofs.Math.Seq.{get_or-append_seam}
use Rattle.meaning_evaluation.specs.Bodies.{without_last}
use Rattle.laws_evaluation.specs.Bodies.Marked.{EndsSlashed}

-- a text that ends with a backslash has a last byte, which is ASCII
pub slash_cut : (old new : List ℕ) (n : ℕ) → n ≡ length old → EndsSlashed old → (0 < n → get_or old (n - 1) 0 < 128 → new ≡ take (n - 1) old) → new ≡ without_last old
slash_cut old new n long h cut =
    let total : length old ≡ length h.front + 1 = ap length h.is ∙ length-append h.front (92 ∷ []) in
    let place : n - 1 ≡ length h.front = omega (arith, long, total) in
    let byte : get_or old (n - 1) 0 ≡ 92 = ap (λ k. get_or old k 0) place ∙ (ap (λ l. get_or l (length h.front) 0) h.is ∙ get_or-append_seam h.front 92 [] 0) in
    cut (omega (arith, long, total)) (omega (arith, byte)) ∙ ap (λ k. take (k - 1) old) long
