-- The earliest of the places that pass a test.
use Rattle.std.proofs.Common.{◌≡◌, ◌⊎◌, inl, inr, refl, sym, ◌∙◌, ap, subst, Bool, true, false, cond, ◌&&◌, ◌||◌, true≢false, arith, List, [], ◌∷◌, ℕ, zero, suc, ◌<◌, ◌≤◌, nat_eq, nat_le, nat_lt, Option, Some, None}
use Rattle.std.specs.Prelude.{filter, slice_get}
use Rattle.std.proofs.lemmas.Bool.{eqb-false, eqb-true, leb-false, leb-true, ltb-false, ltb-true}
use Rattle.std.proofs.lemmas.Bool.Decides.{leb_tells}
use Rattle.std.proofs.lemmas.Option.{none-some, same_Some}
use Rattle.modules_compilation.specs.declared.place.Place.{Place}
use Rattle.resolve_recipes.specs.Defaults.{earlier, earliest_from, is_no_later}

-- by the file, and then by the item
abbrev pub IsNoLater : Place → Place → Type 0
IsNoLater a b = (a.file < b.file) ⊎ ((a.file ≡ b.file) × (a.item ≤ b.item))

either_true : (a b c : Bool) → (a || b && c) ≡ true → (a ≡ true) ⊎ ((b ≡ true) × (c ≡ true))
either_true true b c e = inl refl
either_true false true true e = inr (refl, refl)
either_true false true false e = absurd (true≢false (sym e))
either_true false false c e = absurd (true≢false (sym e))

all_false : (a b c : Bool) → (a || b && c) ≡ false → (a ≡ false) × ((b ≡ false) ⊎ (c ≡ false))
all_false true b c e = absurd (true≢false e)
all_false false true true e = absurd (true≢false e)
all_false false true false e = (refl, inr refl)
all_false false false c e = (refl, inl refl)

-- what the test tells
no_later : (a b : Place) → is_no_later a b ≡ true → IsNoLater a b
no_later a b e = elim (either_true (nat_lt a.file b.file) (nat_eq a.file b.file) (nat_le a.item b.item) e) [
  | inl p ↦ inl (ltb-true a.file b.file p)
  | inr p ↦ inr (eqb-true a.file b.file p.0, leb-true a.item b.item p.1)
]

later : (a b : Place) → is_no_later a b ≡ false → IsNoLater b a
later a b e =
    let p = all_false (nat_lt a.file b.file) (nat_eq a.file b.file) (nat_le a.item b.item) e in
    let le = ltb-false a.file b.file p.0 in
    elim (leb_tells (suc b.file) a.file) [
      | inl q ↦ inl q.1
      | inr q ↦
          let more = q.1 in
          let same : b.file ≡ a.file = omega (arith, le, more) in
          elim p.1 [
            | inl apart ↦ absurd (eqb-false a.file b.file apart (sym same))
            | inr r ↦ let lt = leb-false a.item b.item r in inr (same, omega (arith, lt))
          ]
    ]

-- each is no later than itself, and than what another is no later than
itself : (a : Place) → IsNoLater a a
itself a = inr (refl, omega arith)

through : (a b c : Place) → IsNoLater a b → IsNoLater b c → IsNoLater a c
through a b c (inl p) (inl q) = inl (omega (arith, p, q))
through a b c (inl p) (inr q) = let same = q.0 in inl (omega (arith, p, same))
through a b c (inr p) (inl q) = let same = p.0 in inl (omega (arith, same, q))
through a b c (inr p) (inr q) = let x = p.1 in let y = q.1 in inr (p.0 ∙ q.0, omega (arith, x, y))

-- the earlier of two is one of them, and neither is before it
record IsEarlier (found : Option Place) (place : Place) : Type 0 where
  pub one : Place
  pub is : earlier found place ≡ Some one
  pub from : (found ≡ Some one) ⊎ (place ≡ one)
  pub first : (a : Place) → found ≡ Some a → IsNoLater one a
  pub second : IsNoLater one place

earlier_is : (found : Option Place) (place : Place) → IsEarlier found place
earlier_is None place = record { one = place; is = refl; from = inr refl; first = λ a e. absurd (none-some a e); second = itself place }
earlier_is (Some a) place = by_test (is_no_later a place) refl
  where
    by_test : (b : Bool) → is_no_later a place ≡ b → IsEarlier (Some a) place
    by_test true e = record {
      one = a;
      is = ap (λ b. cond b (Some a) (Some place)) e;
      from = inl refl;
      first = λ x same. subst (IsNoLater a) (same_Some a x same) (itself a);
      second = no_later a place e;
    }
    by_test false e = record {
      one = place;
      is = ap (λ b. cond b (Some a) (Some place)) e;
      from = inr refl;
      first = λ x same. subst (IsNoLater place) (same_Some a x same) (later a place e);
      second = itself place;
    }

module _ (test : Place → Bool) where
  -- a place is that which was found or passes, and is no later than any of those
  record IsEarliestFrom (found : Option Place) (places : List Place) (place : Place) : Type 0 where
    pub from : (found ≡ Some place) ⊎ ((n : ℕ) × (slice_get places n ≡ Some place) × (test place ≡ true))
    pub first : (a : Place) → found ≡ Some a → IsNoLater place a
    pub least : (n : ℕ) (a : Place) → slice_get places n ≡ Some a → test a ≡ true → IsNoLater place a

  abbrev passing : List Place → List Place
  passing places = filter test places

  earliest_by : (found : Option Place) (p : Place) (places : List Place) (place : Place) (b : Bool) → test p ≡ b
      → ((found' : Option Place) → earliest_from found' (passing places) ≡ Some place → IsEarliestFrom found' places place)
      → earliest_from found (cond b (p ∷ passing places) (passing places)) ≡ Some place → IsEarliestFrom found (p ∷ places) place
  earliest_by found p places place true is rest e =
      let c = earlier_is found p in
      let h = rest (earlier found p) e in
      let front : IsNoLater place c.one = h.first c.one c.is in
      record {
        from = elim h.from [
          | inl same ↦ let one : c.one ≡ place = same_Some c.one place (sym c.is ∙ same) in elim c.from [
            | inl x ↦ inl (x ∙ ap (λ (a : Place). Some a) one)
            | inr x ↦ inr (0, ap (λ (a : Place). Some a) (x ∙ one), ap test (sym (x ∙ one)) ∙ is)
          ]
          | inr x ↦ inr (suc x.0, x.1, x.2)
        ];
        first = λ a same. through place c.one a front (c.first a same);
        least = behind h front c.second;
      }
    where
      behind : (h : IsEarliestFrom (earlier found p) places place) {one : Place} → IsNoLater place one → IsNoLater one p → (n : ℕ) (a : Place) → slice_get (p ∷ places) n ≡ Some a → test a ≡ true → IsNoLater place a
      behind h {one} front second zero a at passes = subst (IsNoLater place) (same_Some p a at) (through place one p front second)
      behind h {one} front second (suc n) a at passes = h.least n a at passes
  earliest_by found p places place false is rest e =
      let h = rest found e in
      record {
        from = elim h.from [ inl same ↦ inl same | inr x ↦ inr (suc x.0, x.1, x.2) ];
        first = h.first;
        least = behind h;
      }
    where
      behind : IsEarliestFrom found places place → (n : ℕ) (a : Place) → slice_get (p ∷ places) n ≡ Some a → test a ≡ true → IsNoLater place a
      behind h zero a at passes = absurd (true≢false (sym passes ∙ ap test (sym (same_Some p a at)) ∙ is))
      behind h (suc n) a at passes = h.least n a at passes

  earliest_is_from : (found : Option Place) (places : List Place) (place : Place) → earliest_from found (passing places) ≡ Some place → IsEarliestFrom found places place
  earliest_is_from found [] place e = record { from = inl e; first = λ a same. subst (IsNoLater place) (same_Some place a (sym e ∙ same)) (itself place); least = λ n a at passes. absurd (none-some a at) }
  earliest_is_from found (p ∷ places) place e = earliest_by found p places place (test p) refl (λ found'. earliest_is_from found' places place) e

  -- the earliest of those that pass passes, and is no later than any that does
  pub record IsEarliest (places : List Place) (place : Place) : Type 0 where
    pub n : ℕ
    pub listed : slice_get places n ≡ Some place
    pub passes : test place ≡ true
    pub least : (m : ℕ) (a : Place) → slice_get places m ≡ Some a → test a ≡ true → IsNoLater place a

  pub earliest_is : (places : List Place) (place : Place) → earliest_from None (filter test places) ≡ Some place → IsEarliest places place
  earliest_is places place e = let h = earliest_is_from None places place e in elim h.from [
    | inl none ↦ absurd (none-some place none)
    | inr p ↦ record { n = p.0; listed = p.1; passes = p.2; least = h.least }
  ]

  -- where there is none, none passes
  abbrev NonePasses : List Place → Type 0
  NonePasses places = (n : ℕ) (a : Place) → slice_get places n ≡ Some a → test a ≡ true → ⊥

  none_by : (found : Option Place) (p : Place) (places : List Place) (b : Bool) → test p ≡ b
      → ((found' : Option Place) → earliest_from found' (passing places) ≡ None → (found' ≡ None) × NonePasses places)
      → earliest_from found (cond b (p ∷ passing places) (passing places)) ≡ None → (found ≡ None) × NonePasses (p ∷ places)
  none_by found p places true is rest e = let c = earlier_is found p in absurd (none-some c.one (sym (rest (earlier found p) e).0 ∙ c.is))
  none_by found p places false is rest e = let h = rest found e in (h.0, behind h.1)
    where
      behind : NonePasses places → NonePasses (p ∷ places)
      behind none zero a at passes = true≢false (sym passes ∙ ap test (sym (same_Some p a at)) ∙ is)
      behind none (suc n) a at passes = none n a at passes

  none_from : (found : Option Place) (places : List Place) → earliest_from found (passing places) ≡ None → (found ≡ None) × NonePasses places
  none_from found [] e = (e, λ n a at passes. none-some a at)
  none_from found (p ∷ places) e = none_by found p places (test p) refl (λ found'. none_from found' places) e

  pub none_passes : (places : List Place) → earliest_from None (filter test places) ≡ None → NonePasses places
  none_passes places e = (none_from None places e).1
