-- What stands at a place of gathered results.
use Rattle.std.proofs.Common.{◌≡◌, ℕ, zero, suc, List, [], ◌∷◌, Option, Some, None, Result, Ok, Err, refl, subst, sym, ap, ◌∙◌}
use Rattle.std.specs.List.{cons_option, filter_map, slice_get}
use Rattle.std.proofs.lemmas.Option.{none-some, same_Some}
use Rattle.just_resolve.specs.Gathered.{all_before, gathered}

-- where each element gives a result, and none is refused, the result at a place comes of the element there
pub record ComesOf {A E : Type 0} (of : ℕ → Option (Result A E)) (xs : List ℕ) (place : ℕ) (a : A) : Type 0 where
  pub x : ℕ
  pub here : slice_get xs place ≡ Some x
  pub gives : of x ≡ Some (Ok a)

module _ {A E : Type 0} (of : ℕ → Option (Result A E)) where
  abbrev Gives : List ℕ → Type 0
  Gives xs = (i x : ℕ) → slice_get xs i ≡ Some x → of x ≡ None → ⊥

  after_one : (b : A) (r : Result (List A) E) (all : List A) → all_before (b ∷ []) r ≡ Ok all → (rest : List A) × (r ≡ Ok rest) × (b ∷ rest ≡ all)
  after_one b (Ok rest) all e = (rest, refl, cc e)
  after_one b (Err fault) all e = absurd (cc e)

  ok_same : (x y : List A) (r : Result (List A) E) → r ≡ Ok x → r ≡ Ok y → x ≡ y
  ok_same x y (Ok z) a b =
      let f : z ≡ x = cc a in
      let g : z ≡ y = cc b in
      sym f ∙ g
  ok_same x y (Err fault) a b = absurd (cc a)

  -- what comes of the elements behind one
  abbrev Behind : List ℕ → Type 0
  Behind xs = (rest : List A) → gathered (λ r. r) (filter_map of xs) ≡ Ok rest → (place : ℕ) (a : A) → slice_get rest place ≡ Some a → ComesOf of xs place a

  at_place : (x : ℕ) (xs : List ℕ) (b : A) → of x ≡ Some (Ok b) → (rest : List A) → Behind xs → gathered (λ r. r) (filter_map of xs) ≡ Ok rest → (place : ℕ) (a : A) → slice_get (b ∷ rest) place ≡ Some a → ComesOf of (x ∷ xs) place a
  at_place x xs b is rest behind so zero a at = record { x = x; here = refl; gives = is ∙ ap (λ c. Some (Ok c)) (same_Some b a at) }
  at_place x xs b is rest behind so (suc place) a at =
      let more = behind rest so place a at in
      record { x = more.x; here = more.here; gives = more.gives }

  by_result : (x : ℕ) (xs : List ℕ) (o : Option (Result A E)) → of x ≡ o → (of x ≡ None → ⊥) → Behind xs → (all : List A) → gathered (λ r. r) (cons_option (of x) (filter_map of xs)) ≡ Ok all → (place : ℕ) (a : A) → slice_get all place ≡ Some a → ComesOf of (x ∷ xs) place a
  by_result x xs None is some behind all e place a at = absurd (some is)
  by_result x xs (Some (Err fault)) is some behind all e place a at =
      absurd (let f : Err fault ≡ Ok all = sym (ap (λ o. gathered (λ r. r) (cons_option o (filter_map of xs))) is) ∙ e in cc f)
  by_result x xs (Some (Ok b)) is some behind all e place a at =
      let rest = after_one b (gathered (λ r. r) (filter_map of xs)) all (sym (ap (λ o. gathered (λ r. r) (cons_option o (filter_map of xs))) is) ∙ e) in
      at_place x xs b is rest.0 behind rest.1 place a (ap (λ found. slice_get found place) rest.2 ∙ at)

  pub comes_of : (xs : List ℕ) (all : List A) → Gives xs → gathered (λ r. r) (filter_map of xs) ≡ Ok all → (place : ℕ) (a : A) → slice_get all place ≡ Some a → ComesOf of xs place a
  comes_of [] all gives e place a at = absurd (none-some a (ap (λ found. slice_get found place) (ok_same [] all (gathered (λ r. r) (filter_map of [])) refl e) ∙ at))
  comes_of (x ∷ xs) all gives e place a at = by_result x xs (of x) refl (gives zero x refl) (λ rest so. comes_of xs rest (λ i y there. gives (suc i) y there) so) all e place a at

-- where each element gives a result, and none is refused, that of an element stands at its place
pub record GoesTo {A E : Type 0} (of : ℕ → Option (Result A E)) (all : List A) (place x : ℕ) : Type 0 where
  pub a : A
  pub here : slice_get all place ≡ Some a
  pub gives : of x ≡ Some (Ok a)

module _ {A E : Type 0} (of : ℕ → Option (Result A E)) where
  abbrev Ahead : List ℕ → Type 0
  Ahead xs = (rest : List A) → gathered (λ r. r) (filter_map of xs) ≡ Ok rest → (place x : ℕ) → slice_get xs place ≡ Some x → GoesTo of rest place x

  stands_at : (y : ℕ) (xs : List ℕ) (b : A) → of y ≡ Some (Ok b) → (rest : List A) → Ahead xs → gathered (λ r. r) (filter_map of xs) ≡ Ok rest → (place x : ℕ) → slice_get (y ∷ xs) place ≡ Some x → GoesTo of (b ∷ rest) place x
  stands_at y xs b is rest ahead so zero x at = record { a = b; here = refl; gives = ap of (sym (same_Some y x at)) ∙ is }
  stands_at y xs b is rest ahead so (suc place) x at =
      let more = ahead rest so place x at in
      record { a = more.a; here = more.here; gives = more.gives }

  of_result : (y : ℕ) (xs : List ℕ) (o : Option (Result A E)) → of y ≡ o → (of y ≡ None → ⊥) → Ahead xs → (all : List A) → gathered (λ r. r) (cons_option (of y) (filter_map of xs)) ≡ Ok all → (place x : ℕ) → slice_get (y ∷ xs) place ≡ Some x → GoesTo of all place x
  of_result y xs None is some ahead all e place x at = absurd (some is)
  of_result y xs (Some (Err fault)) is some ahead all e place x at =
      absurd (let f : Err fault ≡ Ok all = sym (ap (λ o. gathered (λ r. r) (cons_option o (filter_map of xs))) is) ∙ e in cc f)
  of_result y xs (Some (Ok b)) is some ahead all e place x at =
      let rest = after_one of b (gathered (λ r. r) (filter_map of xs)) all (sym (ap (λ o. gathered (λ r. r) (cons_option o (filter_map of xs))) is) ∙ e) in
      subst (λ found. GoesTo of found place x) rest.2 (stands_at y xs b is rest.0 ahead rest.1 place x at)

  pub goes_to : (xs : List ℕ) (all : List A) → ((i x : ℕ) → slice_get xs i ≡ Some x → of x ≡ None → ⊥) → gathered (λ r. r) (filter_map of xs) ≡ Ok all → (place x : ℕ) → slice_get xs place ≡ Some x → GoesTo of all place x
  goes_to [] all gives e place x at = absurd (none-some x at)
  goes_to (y ∷ xs) all gives e place x at = of_result y xs (of y) refl (gives zero y refl) (λ rest so. goes_to xs rest (λ i z there. gives (suc i) z there) so) all e place x at

-- what is kept of a list comes of one of its elements
pub record IsGiven {X Y : Type 0} (gives : X → Option Y) (xs : List X) (y : Y) : Type 0 where
  pub place : ℕ
  pub x : X
  pub here : slice_get xs place ≡ Some x
  pub given : gives x ≡ Some y

module _ {X Y : Type 0} (gives : X → Option Y) where
  further : (x : X) (xs : List X) (y : Y) → IsGiven gives xs y → IsGiven gives (x ∷ xs) y
  further x xs y more = record { place = suc more.place; x = more.x; here = more.here; given = more.given }

  by_option : (x : X) (xs : List X) (o : Option Y) → gives x ≡ o → ((place : ℕ) (y : Y) → slice_get (filter_map gives xs) place ≡ Some y → IsGiven gives xs y) → (place : ℕ) (y : Y) → slice_get (cons_option o (filter_map gives xs)) place ≡ Some y → IsGiven gives (x ∷ xs) y
  by_option x xs None is behind place y at = further x xs y (behind place y at)
  by_option x xs (Some z) is behind zero y at = record { place = zero; x = x; here = refl; given = is ∙ at }
  by_option x xs (Some z) is behind (suc place) y at = further x xs y (behind place y at)

  pub is_given : (xs : List X) (place : ℕ) (y : Y) → slice_get (filter_map gives xs) place ≡ Some y → IsGiven gives xs y
  is_given [] place y at = absurd (none-some y at)
  is_given (x ∷ xs) place y at = by_option x xs (gives x) refl (is_given xs) place y at
