-- Walks along needs: longer, shorter, closed.
use Rattle.std.proofs.Common.{◌≡◌, sym, ◌∙◌, ap, subst, List, [], ◌∷◌, ◌++◌, ℕ, zero, suc, ◌+◌, ◌-◌, ◌<◌, Some, arith, length, drop, append_assoc}
use Rattle.std.specs.Prelude.{slice_get}
use Rattle.std.proofs.lemmas.Option.{slice_get_within, get_or_from_slice_get}
use Rattle.std.proofs.lemmas.List.{drop_more, drop-append-le, length-drop, length_push}
use Rattle.resolve_order.specs.Needs.{Needs, Walks, IsCycle}
use Rattle.resolve_order.proofs.Places.{push_here}

pub walk_front : (rs : List (List ℕ)) (xs : List ℕ) (x : ℕ) → Walks rs (xs ++ x ∷ []) → Walks rs xs
walk_front rs [] x w = tt
walk_front rs (a ∷ []) x w = tt
walk_front rs (a ∷ b ∷ xs) x w = (w.0, walk_front rs (b ∷ xs) x w.1)

walk_on : (rs : List (List ℕ)) (xs : List ℕ) (a b : ℕ) → Walks rs (xs ++ a ∷ []) → Needs rs a b → Walks rs (xs ++ a ∷ b ∷ [])
walk_on rs [] a b w d = (d, tt)
walk_on rs (x ∷ []) a b w d = (w.0, (d, tt))
walk_on rs (x ∷ y ∷ xs) a b w d = (w.0, walk_on rs (y ∷ xs) a b w.1 d)

pub walk_more : (rs : List (List ℕ)) (xs : List ℕ) (a b : ℕ) → Walks rs (xs ++ a ∷ []) → Needs rs a b → Walks rs ((xs ++ a ∷ []) ++ b ∷ [])
walk_more rs xs a b w d = subst (Walks rs) (sym (append_assoc xs (a ∷ []) (b ∷ []))) (walk_on rs xs a b w d)

walk_tail : (rs : List (List ℕ)) (x : ℕ) (xs : List ℕ) → Walks rs (x ∷ xs) → Walks rs xs
walk_tail rs x [] w = tt
walk_tail rs x (y ∷ xs) w = w.1

walk_drop : (rs : List (List ℕ)) (k : ℕ) (xs : List ℕ) → Walks rs xs → Walks rs (drop k xs)
walk_drop rs zero xs w = w
walk_drop rs (suc k) [] w = tt
walk_drop rs (suc k) (x ∷ xs) w = walk_drop rs k xs (walk_tail rs x xs w)

-- a walk back to one of its places holds a cycle
pub cycle_behind : (rs : List (List ℕ)) (xs : List ℕ) (k : ℕ) (d : ℕ) → slice_get xs k ≡ Some d → Walks rs (xs ++ d ∷ []) → IsCycle rs (drop k xs ++ d ∷ [])
cycle_behind rs xs k d at w =
    let within : k < length xs = slice_get_within xs k d at in
    let e : drop k xs ≡ d ∷ drop (k + 1) xs = drop_more xs k d within ∙ ap (λ y. y ∷ drop (k + 1) xs) (get_or_from_slice_get xs k d d at) in
    let n : length (drop k xs ++ d ∷ []) ≡ length (drop k xs) + 1 = length_push (drop k xs) d in
    let m : length (drop k xs) ≡ length xs - k = length-drop k xs in
    let last : length (drop k xs ++ d ∷ []) - 1 ≡ length (drop k xs) = omega arith in
    record {
      long = omega arith;
      closed = ap (λ ys. slice_get (ys ++ d ∷ []) 0) e ∙ sym (push_here (drop k xs) d []) ∙ sym (ap (slice_get (drop k xs ++ d ∷ [])) last);
      walk = subst (Walks rs) (drop-append-le k xs (d ∷ []) (omega arith)) (walk_drop rs k (xs ++ d ∷ []) w);
    }
