-- Names that differ pass the test that they do.
use Rattle.std.proofs.Common.{◌≡◌, ℕ, zero, suc, Bool, true, false, ◌||◌, List, [], ◌∷◌, refl, arith}
use Rattle.std.specs.List.{IsAmong, list_any}
use Rattle.std.specs.Str.{bytes_eq}
use Rattle.std.proofs.lemmas.Slice.Eq.{bytes_eq-Decides}
use Rattle.parse_recipes.specs.Headers.{AreDistinct}
use Rattle.parse_attributed_items.specs.Rules.{are_distinct, is_among}

among_so : (name : List ℕ) (names : List (List ℕ)) → is_among names name ≡ true → IsAmong names name
among_so name [] h = absurd cc
among_so name (x ∷ xs) h =
    elim (bytes_eq name x) as (λ b. bytes_eq name x ≡ b → (b || list_any (bytes_eq name) xs) ≡ true → IsAmong (x ∷ xs) name) [
      | true ↦ λ same k. (zero, (omega arith, (bytes_eq-Decides name x).0 same))
      | false ↦ λ other k. let a = among_so name xs k in (suc a.0, (omega (arith, a.1.0), a.1.1))
    ] refl h

pub distinct_so : (names : List (List ℕ)) → AreDistinct names → are_distinct names ≡ true
distinct_so [] h = refl
distinct_so (name ∷ names) h =
    elim (is_among names name) as (λ b. is_among names name ≡ b → (let n : Bool = is_among names name in n) ≡ b → are_distinct (name ∷ names) ≡ true) [
      | true ↦ λ a b. absurd (h.0 (among_so name names a))
      | false ↦ λ a b. rw a (distinct_so names h.1)
    ] refl refl
