-- Words cut at `::`, and texts that are names.
use Rattle.std.proofs.Common.{◌≡◌, ℕ, suc, zero, ◌<◌, ◌≤◌, Bool, true, false, ◌&&◌, eqb, eqb-true, List, [], ◌∷◌, ◌++◌, take, drop, length, refl, ap, arith}
use Rattle.std.specs.Prelude.{codes}
use Rattle.std.specs.List.{onto_first}
use Rattle.std.specs.Str.Pattern.{LacksTextAt}
use Rattle.modules_compilation.specs.Modulepaths.{pieces}

pub by_test : {G : Type 0} (b : Bool) → (b ≡ true → G) → (b ≡ false → G) → G
by_test true holds fails = holds refl
by_test false holds fails = fails refl

both_colons : (a b : Bool) → (a && b) ≡ true → (a ≡ true) × (b ≡ true)
both_colons true b e = (refl, e)
both_colons false b e = absurd (cc e)

apart : (b c : ℕ) (bs : List ℕ) → LacksTextAt (codes "::") (b ∷ c ∷ bs) 0 → (eqb b 58 && eqb c 58) ≡ false
apart b c bs lacks = by_test (eqb b 58 && eqb c 58) (λ e.
    let both = both_colons (eqb b 58) (eqb c 58) e in
    absurd (lacks bs (rw (eqb-true b 58 both.0, eqb-true c 58 both.1) refl))) (λ e. e)

pub pieces_lacks : (bs : List ℕ) → ((i : ℕ) → i ≤ length bs → LacksTextAt (codes "::") bs i) → pieces bs ≡ bs ∷ []
pieces_lacks [] lacks = refl
pieces_lacks (b ∷ []) lacks = refl
pieces_lacks (b ∷ c ∷ bs) lacks = rw (apart b c bs (lacks 0 (omega arith))) (ap (onto_first b) (pieces_lacks (c ∷ bs) (λ i h. lacks (suc i) (omega (arith, h)))))

pieces_at : (bs : List ℕ) (i : ℕ) (after : List ℕ) → ((k : ℕ) → k < i → LacksTextAt (codes "::") bs k) → drop i bs ≡ codes "::" ++ after → pieces bs ≡ take i bs ∷ pieces after
pieces_at bs zero after lacks e = ap pieces e
pieces_at [] (suc i) after lacks e = absurd (cc e)
pieces_at (b ∷ []) (suc zero) after lacks e = absurd (cc e)
pieces_at (b ∷ []) (suc (suc i)) after lacks e = absurd (cc e)
pieces_at (b ∷ c ∷ bs) (suc i) after lacks e = rw (apart b c bs (lacks 0 (omega arith))) (ap (onto_first b) (pieces_at (c ∷ bs) i after (λ k h. lacks (suc k) (omega (arith, h))) e))

-- the first piece, and those after its `::`
pub first_piece : (rest name others : List ℕ) (i j : ℕ) → ((k : ℕ) → k < i → LacksTextAt (codes "::") rest k) → drop i rest ≡ codes "::" ++ drop j rest → name ≡ take i rest → others ≡ drop j rest
    → pieces rest ≡ name ∷ pieces others
first_piece rest name others i j lacks split front back = rw (front, back) (pieces_at rest i (drop j rest) lacks split)
