-- The places at which names stand.
use Rattle.std.proofs.Common.{◌≡◌, ◌≢◌, ℕ, zero, suc, ◌+◌, ◌<◌, Bool, true, false, List, [], ◌∷◌, length, get_or, Some, None, Option, refl, sym, ap, ◌∙◌, arith, inl, inr}
use Rattle.std.proofs.lemmas.Bool.{cases_lt}
use Rattle.std.specs.Prelude.{not, ◌&&◌, ◌||◌, is_some, if◌then◌else◌}
use Rattle.std.specs.Option.{option_or}
use Rattle.std.specs.Str.{bytes_eq}
use Rattle.parse_attributed_items.specs.Places.{HasPlaces, last_place, place_in}
use Rattle.parse_attributed_items.specs.declared.places.Places.{Places}
use Rattle.parse_attributed_items.specs.Rules.{are_distinct, is_among}
use Rattle.parse_attributed_items.proofs.Lists.{either_way}
use Rattle.parse_expressions.proofs.Taken.{text_same}

-- ---- a name has a place where it is among the names

one_of : (same : Bool) (o : Option ℕ) (at : ℕ) (among : Bool) → is_some o ≡ among → is_some (option_or o (let p : Option ℕ = if same then Some at else None in p)) ≡ (same || among)
one_of true None at among h = refl
one_of true (Some k) at among h = refl
one_of false None at among h = h
one_of false (Some k) at among h = h

placed : (name : List ℕ) (at : ℕ) (names : List (List ℕ)) → is_some (last_place name at names) ≡ is_among names name
placed name at [] = refl
placed name at (x ∷ names) = rw (sym (either_way x name)) (one_of (bytes_eq x name) (last_place name (at + 1) names) at (is_among names name) (placed name (at + 1) names))

module _ (places : Places) (names : List (List ℕ)) (has : HasPlaces places names) (name : List ℕ) where
  pub among_if_placed : is_among names name ≡ is_some (place_in places name)
  among_if_placed = sym (ap is_some (has name) ∙ placed name 0 names)

-- ---- what stands at a place

-- the name stands at that place of the names, where the first has this number
abbrev Stands : List ℕ → ℕ → List (List ℕ) → ℕ → Type 0
Stands name at names k = (i : ℕ) × (k ≡ at + i) × (i < length names) × ((d : List ℕ) → get_or names i d ≡ name)

first_or : (same : Bool) (name x : List ℕ) (at k : ℕ) (names : List (List ℕ)) → bytes_eq x name ≡ same → (let p : Option ℕ = if same then Some at else None in p) ≡ Some k → Stands name at (x ∷ names) k
first_or true name x at k names same is = let e : at ≡ k = cc in (0, omega arith, omega arith, λ d. text_same x name same)
first_or false name x at k names same is = absurd cc

later : (name x : List ℕ) (at k : ℕ) (names : List (List ℕ)) → Stands name (at + 1) names k → Stands name at (x ∷ names) k
later name x at k names (i, is, less, here) = (suc i, omega arith, omega arith, here)

one_or : (o : Option ℕ) (name x : List ℕ) (at k : ℕ) (names : List (List ℕ)) → (o ≡ Some k → Stands name (at + 1) names k) → option_or o (let p : Option ℕ = if bytes_eq x name then Some at else None in p) ≡ Some k → Stands name at (x ∷ names) k
one_or None name x at k names behind is = first_or (bytes_eq x name) name x at k names refl is
one_or (Some j) name x at k names behind is = later name x at k names (behind is)

stands : (name : List ℕ) (at k : ℕ) (names : List (List ℕ)) → last_place name at names ≡ Some k → Stands name at names k
stands name at k [] is = absurd cc
stands name at k (x ∷ names) is = one_or (last_place name (at + 1) names) name x at k names (stands name (at + 1) k names) is

-- the name that has a place stands there
pub there : (places : Places) (names : List (List ℕ)) (name : List ℕ) (k : ℕ) → HasPlaces places names → place_in places name ≡ Some k → (k < length names) × ((d : List ℕ) → get_or names k d ≡ name)
there places names name k has is =
    let s = stands name 0 k names (sym (has name) ∙ is) in
    let e : k ≡ s.0 = omega (arith, s.1) in
    (omega (arith, s.2, e), λ d. ap (λ j. get_or names j d) e ∙ s.3 d)

-- ---- names that differ

both : (a b : Bool) → (a && b) ≡ true → (a ≡ true) × (b ≡ true)
both true b h = (refl, h)
both false b h = absurd cc

neither : (a b : Bool) → not (a || b) ≡ true → (a ≡ false) × (not b ≡ true)
neither true b h = absurd cc
neither false b h = (refl, h)

not_so : (b : Bool) → not b ≡ true → b ≡ false
not_so true h = absurd cc
not_so false h = refl

-- a name that is not among names is none of them
pub none_of : (name : List ℕ) (names : List (List ℕ)) (i : ℕ) (d : List ℕ) → is_among names name ≡ false → i < length names → bytes_eq name (get_or names i d) ≡ false
none_of name [] i d none less = absurd (omega arith)
none_of name (x ∷ names) zero d none less = (neither (bytes_eq name x) (is_among names name) (ap not none)).0
none_of name (x ∷ names) (suc i) d none less = let rest = (neither (bytes_eq name x) (is_among names name) (ap not none)).1 in none_of name names i d (not_so (is_among names name) rest) (omega arith)

apart_on : (names : List (List ℕ)) (i j : ℕ) (d : List ℕ) → are_distinct names ≡ true → i < j → j < length names → bytes_eq (get_or names i d) (get_or names j d) ≡ false
apart_on [] i j d differ less within = absurd (omega arith)
apart_on (x ∷ names) i zero d differ less within = absurd (omega arith)
apart_on (x ∷ names) zero (suc j) d differ less within = none_of x names j d (not_so (is_among names x) (both (not (is_among names x)) (are_distinct names) differ).0) (omega arith)
apart_on (x ∷ names) (suc i) (suc j) d differ less within = apart_on names i j d (both (not (is_among names x)) (are_distinct names) differ).1 (omega arith) (omega arith)

-- of names that differ, those at two places do
pub apart : (names : List (List ℕ)) (i j : ℕ) (d : List ℕ) → are_distinct names ≡ true → i ≢ j → i < length names → j < length names → bytes_eq (get_or names i d) (get_or names j d) ≡ false
apart names i j d differ other first second =
    elim (cases_lt i j) [
      | inl less ↦ apart_on names i j d differ less second
      | inr more ↦ either_way (get_or names i d) (get_or names j d) ∙ apart_on names j i d differ (omega arith) first
    ]
