-- Names that differ are those that a reader with the names before never meets twice.
use Rattle.std.proofs.Common.{◌≡◌, ℕ, zero, suc, Bool, true, false, ◌||◌, List, [], ◌∷◌, refl, sym, arith, inl, inr}
use Rattle.std.specs.List.{IsAmong}
use Rattle.std.specs.Str.{bytes_eq}
use Rattle.std.proofs.lemmas.Slice.Eq.{bytes_eq-Decides}
use Rattle.parse_recipes.specs.Headers.{AreDistinct}
use Rattle.parse_recipes.specs.Reading.{is_named}
use Rattle.parse_expressions.proofs.Taken.{test, text_same, text_itself}

-- none of the names is one of those before
abbrev pub AreNew : List (List ℕ) → List (List ℕ) → Type 0
AreNew before [] = Unit {0}
AreNew before (name ∷ names) = (is_named before name ≡ false) × AreNew before names

either : (a b : Bool) → (a || b) ≡ false → (a ≡ false) × (b ≡ false)
either true b h = absurd cc
either false b h = (refl, h)

neither : (a b : Bool) → a ≡ false → b ≡ false → (a || b) ≡ false
neither a b p q = rw (p, q) refl

pub nothing_before : (names : List (List ℕ)) → AreNew [] names
nothing_before [] = tt
nothing_before (name ∷ names) = (refl, nothing_before names)

-- ---- from names that are new to names that differ

not_among : (before names : List (List ℕ)) (x : List ℕ) → AreNew (x ∷ before) names → IsAmong names x → ⊥
not_among before [] x new (i, (less, is)) = absurd (omega arith)
not_among before (name ∷ names) x new (zero, (less, is)) = let p = text_itself name in let f = (either (bytes_eq name x) (is_named before name) new.0).0 in let q : bytes_eq name name ≡ false = rw is at f in absurd cc
not_among before (name ∷ names) x new (suc i, (less, is)) = not_among before names x new.1 (i, (omega arith, is))

fewer_before : (before names : List (List ℕ)) (x : List ℕ) → AreNew (x ∷ before) names → AreNew before names
fewer_before before [] x new = tt
fewer_before before (name ∷ names) x new = ((either _ _ new.0).1, fewer_before before names x new.1)

pub one_more : (before names : List (List ℕ)) (x : List ℕ) → is_named before x ≡ false → AreNew (x ∷ before) names → AreDistinct names → AreDistinct (x ∷ names) × AreNew before (x ∷ names)
one_more before names x first new differ = ((λ a. not_among before names x new a, differ), (first, fewer_before before names x new))

-- ---- from names that differ to names that are new

pub more_before : (before names : List (List ℕ)) (x : List ℕ) → (IsAmong names x → ⊥) → AreNew before names → AreNew (x ∷ before) names
more_before before [] x other new = tt
more_before before (name ∷ names) x other new =
    elim (test (bytes_eq name x)) [
      | inl e ↦ absurd (other (zero, (omega arith, sym (text_same name x e))))
      | inr e ↦ (neither _ _ e new.0, more_before before names x (λ a. other (suc a.0, (omega (arith, a.1.0), a.1.1))) new.1)
    ]
