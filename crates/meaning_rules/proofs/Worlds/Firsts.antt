-- Numbers where they stand first.
use Rattle.std.proofs.Common.{◌≡◌, ◌⊎◌, inl, inr, sym, ◌∙◌, ap, subst, Bool, true, false, cond, ◌||◌, List, ◌∷◌, ◌++◌, ℕ, refl, append_assoc, []}
use Rattle.std.proofs.lemmas.List.{append-nil}
use Rattle.std.specs.Str.{bytes_eq}
use Rattle.std.proofs.lemmas.Slice.Eq.{bytes_eq-Decides}
use Rattle.std.specs.Prelude.{Contains}
use Rattle.std.specs.List.{IsDistinct, AllByRecursion}
use Rattle.std.proofs.lemmas.List.Folds.{list_any-append}
use Rattle.meaning_rules.specs.Worlds.Order.{is_among, firsts_behind}
use Rattle.meaning_rules.proofs.Worlds.Places.{contains_cases, contains_first, contains_later}

-- a key
abbrev Text : Type 0
Text = List ℕ

-- ---- one list after another

more_if : (earlier xs ys : List Text) (x : Text) (b : Bool)
    → earlier ++ firsts_behind earlier (xs ++ ys) ≡ (earlier ++ firsts_behind earlier xs) ++ firsts_behind (earlier ++ firsts_behind earlier xs) ys
    → (earlier ++ x ∷ []) ++ firsts_behind (earlier ++ x ∷ []) (xs ++ ys) ≡ ((earlier ++ x ∷ []) ++ firsts_behind (earlier ++ x ∷ []) xs) ++ firsts_behind ((earlier ++ x ∷ []) ++ firsts_behind (earlier ++ x ∷ []) xs) ys
    → earlier ++ cond b (firsts_behind earlier (xs ++ ys)) (x ∷ firsts_behind (earlier ++ x ∷ []) (xs ++ ys))
    ≡ (earlier ++ cond b (firsts_behind earlier xs) (x ∷ firsts_behind (earlier ++ x ∷ []) xs)) ++ firsts_behind (earlier ++ cond b (firsts_behind earlier xs) (x ∷ firsts_behind (earlier ++ x ∷ []) xs)) ys
more_if earlier xs ys x true h k = h
more_if earlier xs ys x false h k =
    let e : (earlier ++ x ∷ []) ++ firsts_behind (earlier ++ x ∷ []) xs ≡ earlier ++ (x ∷ firsts_behind (earlier ++ x ∷ []) xs) = append_assoc earlier (x ∷ []) (firsts_behind (earlier ++ x ∷ []) xs) in
    sym (append_assoc earlier (x ∷ []) (firsts_behind (earlier ++ x ∷ []) (xs ++ ys))) ∙ k ∙ ap (λ zs. zs ++ firsts_behind zs ys) e

pub firsts_more : (earlier xs ys : List Text) → earlier ++ firsts_behind earlier (xs ++ ys) ≡ (earlier ++ firsts_behind earlier xs) ++ firsts_behind (earlier ++ firsts_behind earlier xs) ys
firsts_more earlier [] ys = ap (λ zs. zs ++ firsts_behind zs ys) (sym (append-nil earlier))
firsts_more earlier (x ∷ xs) ys = more_if earlier xs ys x (is_among earlier x) (firsts_more earlier xs ys) (firsts_more (earlier ++ x ∷ []) xs ys)

-- ---- none is lost, and none is added

some_if : (earlier xs : List Text) (x y : Text) (b : Bool) → (Contains (firsts_behind earlier xs) y → Contains xs y) → (Contains (firsts_behind (earlier ++ x ∷ []) xs) y → Contains xs y)
    → Contains (cond b (firsts_behind earlier xs) (x ∷ firsts_behind (earlier ++ x ∷ []) xs)) y → Contains (x ∷ xs) y
some_if earlier xs x y true h k c = contains_later x xs y (h c)
some_if earlier xs x y false h k c = elim (contains_cases x (firsts_behind (earlier ++ x ∷ []) xs) y c) [
  | inl e ↦ subst (Contains (x ∷ xs)) e (contains_first x xs)
  | inr d ↦ contains_later x xs y (k d)
]

pub firsts_from : (earlier xs : List Text) (y : Text) → Contains (firsts_behind earlier xs) y → Contains xs y
firsts_from earlier [] y c = c
firsts_from earlier (x ∷ xs) y c = some_if earlier xs x y (is_among earlier x) (firsts_from earlier xs y) (firsts_from (earlier ++ x ∷ []) xs y) c

pub or_cases : (a b : Bool) → (a || b) ≡ true → (a ≡ true) ⊎ (b ≡ true)
or_cases true b e = inl refl
or_cases false b e = inr e

among_push : (earlier : List Text) (x y : Text) → is_among (earlier ++ x ∷ []) y ≡ true → (is_among earlier y ≡ true) ⊎ (x ≡ y)
among_push earlier x y e = elim (or_cases (is_among earlier y) (is_among (x ∷ []) y) (sym (list_any-append (λ z. bytes_eq z y) earlier (x ∷ [])) ∙ e)) [
  | inl p ↦ inl p
  | inr p ↦ elim (or_cases (bytes_eq x y) false p) [ inl q ↦ inr ((bytes_eq-Decides x y).0 q) | inr q ↦ absurd (let f : false ≡ true = q in cc) ]
]

abbrev Kept : List Text → List Text → Text → Type 0
Kept earlier ys y = (is_among earlier y ≡ true) ⊎ Contains ys y

kept_if : (earlier xs : List Text) (x y : Text) (b : Bool) → is_among earlier x ≡ b → (x ≡ y) ⊎ (Kept earlier (firsts_behind earlier xs) y × Kept (earlier ++ x ∷ []) (firsts_behind (earlier ++ x ∷ []) xs) y)
    → Kept earlier (cond b (firsts_behind earlier xs) (x ∷ firsts_behind (earlier ++ x ∷ []) xs)) y
kept_if earlier xs x y true is (inl same) = inl (ap (is_among earlier) (sym same) ∙ is)
kept_if earlier xs x y false is (inl same) = inr (subst (Contains (x ∷ firsts_behind (earlier ++ x ∷ []) xs)) same (contains_first x (firsts_behind (earlier ++ x ∷ []) xs)))
kept_if earlier xs x y true is (inr h) = h.0
kept_if earlier xs x y false is (inr h) = elim h.1 [
  | inl p ↦ elim (among_push earlier x y p) [
    | inl q ↦ inl q
    | inr same ↦ inr (subst (Contains (x ∷ firsts_behind (earlier ++ x ∷ []) xs)) same (contains_first x (firsts_behind (earlier ++ x ∷ []) xs)))
  ]
  | inr c ↦ inr (contains_later x (firsts_behind (earlier ++ x ∷ []) xs) y c)
]

pub firsts_keep : (earlier xs : List Text) (y : Text) → Contains xs y → Kept earlier (firsts_behind earlier xs) y
firsts_keep earlier [] y c = inr c
firsts_keep earlier (x ∷ xs) y c = elim (contains_cases x xs y c) [
  | inl same ↦ kept_if earlier xs x y (is_among earlier x) refl (inl same)
  | inr later ↦ kept_if earlier xs x y (is_among earlier x) refl (inr (firsts_keep earlier xs y later, firsts_keep (earlier ++ x ∷ []) xs y later))
]

-- ---- each stands once

abbrev AreNew : List Text → List Text → Type 0
AreNew earlier ys = AllByRecursion (λ y. is_among earlier y ≡ false) ys

or_false : (a b : Bool) → (a || (b || false)) ≡ false → (a ≡ false) × (b ≡ false)
or_false true b e = absurd (let f : true ≡ false = e in cc)
or_false false true e = absurd (let f : true ≡ false = e in cc)
or_false false false e = (refl, refl)

new_earlier : (earlier : List Text) (x : Text) (ys : List Text) → AreNew (earlier ++ x ∷ []) ys → AreNew earlier ys × AllByRecursion (λ y. (bytes_eq x y) ≡ false) ys
new_earlier earlier x [] h = (tt, tt)
new_earlier earlier x (y ∷ ys) h =
    let p = or_false (is_among earlier y) (bytes_eq x y) (sym (list_any-append (λ z. bytes_eq z y) earlier (x ∷ [])) ∙ h.0) in
    let q = new_earlier earlier x ys h.1 in
    ((p.0, q.0), (p.1, q.1))

new_if : (earlier xs : List Text) (x : Text) (b : Bool) → is_among earlier x ≡ b → AreNew earlier (firsts_behind earlier xs) × IsDistinct bytes_eq (firsts_behind earlier xs)
    → AreNew (earlier ++ x ∷ []) (firsts_behind (earlier ++ x ∷ []) xs) × IsDistinct bytes_eq (firsts_behind (earlier ++ x ∷ []) xs)
    → AreNew earlier (cond b (firsts_behind earlier xs) (x ∷ firsts_behind (earlier ++ x ∷ []) xs)) × IsDistinct bytes_eq (cond b (firsts_behind earlier xs) (x ∷ firsts_behind (earlier ++ x ∷ []) xs))
unfolding IsDistinct
new_if earlier xs x true is h k = h
new_if earlier xs x false is h k =
    let p = new_earlier earlier x (firsts_behind (earlier ++ x ∷ []) xs) k.0 in
    ((is, p.0), (p.1, k.1))

pub firsts_new : (earlier xs : List Text) → AreNew earlier (firsts_behind earlier xs) × IsDistinct bytes_eq (firsts_behind earlier xs)
unfolding IsDistinct
firsts_new earlier [] = (tt, tt)
firsts_new earlier (x ∷ xs) = new_if earlier xs x (is_among earlier x) refl (firsts_new earlier xs) (firsts_new (earlier ++ x ∷ []) xs)
