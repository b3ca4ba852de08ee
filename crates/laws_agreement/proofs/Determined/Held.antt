-- What is held by name.
use Rattle.std.proofs.Common.{◌≡◌, ℕ, List, [], ◌∷◌, ◌++◌, map, Bool, true, false, cond, Some, None, ◌⊎◌, inl, inr, refl, ap}
use Rattle.std.specs.Prelude.{Contains}
use Rattle.std.specs.Str.{bytes_eq}
use Rattle.std.proofs.lemmas.Slice.Eq.{bytes_eq-Decides}
use Rattle.meaning_dialogues.specs.Evaluation.{Value}
use Rattle.meaning_rules.proofs.Worlds.Places.{contains_cases, contains_none}
use Rattle.just_meaning.specs.Opening.{Held, held}

abbrev pub names_of : List Held → List (List ℕ)
names_of hs = map (λ h. h.name) hs

pub names_append : (hs gs : List Held) → names_of (hs ++ gs) ≡ names_of hs ++ names_of gs
names_append [] gs = refl
names_append (h ∷ hs) gs = ap (λ l. h.name ∷ l) (names_append hs gs)

-- what is held stays held
pub held_before : (name : List ℕ) (hs gs : List Held) (v : Value) → held name hs ≡ Some v → held name (hs ++ gs) ≡ Some v
held_before name [] gs v e = absurd (cc)
held_before name (h ∷ hs) gs v e = by_test (bytes_eq h.name name) (λ g. held_before name hs gs v g) e
  where
    by_test : (b : Bool) → (held name hs ≡ Some v → held name (hs ++ gs) ≡ Some v) → cond b (Some h.value) (held name hs) ≡ Some v → cond b (Some h.value) (held name (hs ++ gs)) ≡ Some v
    by_test true go g = g
    by_test false go g = go g

-- what is held with one more is held without it, or is that one
pub held_cases : (name : List ℕ) (hs : List Held) (h : Held) (v : Value) → held name (hs ++ h ∷ []) ≡ Some v → (held name hs ≡ Some v) ⊎ ((h.name ≡ name) × (h.value ≡ v))
held_cases name [] h v e = by_test (bytes_eq h.name name) refl e
  where
    by_test : (b : Bool) → bytes_eq h.name name ≡ b → cond b (Some h.value) None ≡ Some v → (held name [] ≡ Some v) ⊎ ((h.name ≡ name) × (h.value ≡ v))
    by_test true t g = inr ((bytes_eq-Decides h.name name).0 t, cc)
    by_test false t g = absurd (cc)
held_cases name (x ∷ xs) h v e = by_test (bytes_eq x.name name) (λ g. held_cases name xs h v g) e
  where
    by_test : (b : Bool) → (held name (xs ++ h ∷ []) ≡ Some v → (held name xs ≡ Some v) ⊎ ((h.name ≡ name) × (h.value ≡ v))) → cond b (Some x.value) (held name (xs ++ h ∷ [])) ≡ Some v
        → (cond b (Some x.value) (held name xs) ≡ Some v) ⊎ ((h.name ≡ name) × (h.value ≡ v))
    by_test true go g = inl g
    by_test false go g = go g

-- each of the names is held
pub held_some : (name : List ℕ) (hs : List Held) → Contains (names_of hs) name → (v : Value) × (held name hs ≡ Some v)
held_some name [] c = absurd (contains_none [] name refl c)
held_some name (h ∷ hs) c = by_test (bytes_eq h.name name) refl (contains_cases h.name (names_of hs) name c) (λ g. held_some name hs g)
  where
    by_test : (b : Bool) → bytes_eq h.name name ≡ b → (h.name ≡ name) ⊎ Contains (names_of hs) name → (Contains (names_of hs) name → (v : Value) × (held name hs ≡ Some v)) → (v : Value) × (cond b (Some h.value) (held name hs) ≡ Some v)
    by_test true t d go = (h.value, refl)
    by_test false t (inl same) go = absurd (let u = (bytes_eq-Decides h.name name).1 same in cc)
    by_test false t (inr later) go = go later
