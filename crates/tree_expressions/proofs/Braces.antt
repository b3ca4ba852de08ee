-- Two braces for four, one after the other.
use Rattle.std.proofs.Common.{◌≡◌, ℕ, suc, zero, ◌<◌, ◌≤◌, false, List, [], ◌∷◌, ◌++◌, take, drop, length, refl, sym, ap, ◌∙◌, append_assoc, arith}
use Rattle.std.specs.Prelude.{codes}
use Rattle.std.specs.Str.Pattern.{LacksTextAt}
use Rattle.std.proofs.lemmas.Str.Pattern.{starts_text}
use Rattle.tree_expressions.specs.Cutting.{begins}
use Rattle.tree_expressions.specs.Parts.{halved_behind, halved}

none_here : (bs : List ℕ) → LacksTextAt (codes "{{{{") bs 0 → begins bs (codes "{{{{") ≡ false
none_here bs lacks = sym (starts_text false (codes "{{{{") bs lacks)

skipped : (b : ℕ) (bs : List ℕ) → begins (b ∷ bs) (codes "{{{{") ≡ false → halved (b ∷ bs) ≡ b ∷ halved bs
unfolding halved_behind
skipped b bs e = rw e refl

four : (after : List ℕ) → halved (codes "{{{{" ++ after) ≡ codes "{{" ++ halved after
unfolding halved_behind
four after = refl

pub halved_lacks : (bs : List ℕ) → ((i : ℕ) → i ≤ length bs → LacksTextAt (codes "{{{{") bs i) → halved bs ≡ bs
unfolding halved_behind
halved_lacks [] lacks = refl
halved_lacks (b ∷ bs) lacks = skipped b bs (none_here (b ∷ bs) (lacks 0 (omega arith))) ∙ ap (λ xs. b ∷ xs) (halved_lacks bs (λ i h. lacks (suc i) (omega arith)))

pub halved_at : (bs : List ℕ) (i : ℕ) (after : List ℕ) → ((k : ℕ) → k < i → LacksTextAt (codes "{{{{") bs k) → drop i bs ≡ codes "{{{{" ++ after
    → halved bs ≡ take i bs ++ (codes "{{" ++ halved after)
halved_at bs zero after lacks e = ap halved e ∙ four after
halved_at [] (suc i) after lacks e = absurd (cc e)
halved_at (b ∷ bs) (suc i) after lacks e = skipped b bs (none_here (b ∷ bs) (lacks 0 (omega arith))) ∙ ap (λ xs. b ∷ xs) (halved_at bs i after (λ k h. lacks (suc k) (omega arith)) e)

-- one turn of the loop
pub halved_on : (out rest before after : List ℕ) (i j : ℕ) → ((k : ℕ) → k < i → LacksTextAt (codes "{{{{") rest k) → drop i rest ≡ codes "{{{{" ++ drop j rest → before ≡ take i rest → after ≡ drop j rest
    → ((out ++ before) ++ codes "{{") ++ halved after ≡ out ++ halved rest
halved_on out rest before after i j lacks split front back =
    rw (front, back) (append_assoc (out ++ take i rest) (codes "{{") (halved (drop j rest)) ∙ append_assoc out (take i rest) (codes "{{" ++ halved (drop j rest))
    ∙ ap (λ x. out ++ x) (sym (halved_at rest i (drop j rest) lacks split)))
