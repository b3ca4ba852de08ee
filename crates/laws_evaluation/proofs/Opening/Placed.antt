-- Variables in an order of places, in which each place stands after those that it needs.
use Rattle.std.proofs.Common.{◌≡◌, ◌<◌, inl, inr, ℕ, zero, suc, List, [], ◌∷◌, ◌++◌, length, Option, Some, None, refl, sym, ap, subst, ◌∙◌, arith}
use Rattle.std.specs.Prelude.{slice_get}
use Rattle.resolve_order.specs.Needs.{Needs}
use Rattle.resolve_order.specs.Order.{IsOrder}
use Rattle.meaning_evaluation.specs.Stages.Assigned.{Assigned}
use Rattle.laws_evaluation.specs.Opening.Opened.{HasNumber}

-- the variable at a place, if there is one, before others
abbrev pub before : Option Assigned → List Assigned → List Assigned
before None others = others
before (Some a) others = a ∷ others

at_seam : (ps qs : List ℕ) (p : ℕ) → slice_get (ps ++ p ∷ qs) (length ps) ≡ Some p
at_seam [] qs p = refl
at_seam (x ∷ xs) qs p = at_seam xs qs p

in_front : (ps qs : List ℕ) (i : ℕ) → i < length ps → slice_get (ps ++ qs) i ≡ slice_get ps i
in_front [] qs i lt = absurd (omega (arith, lt))
in_front (x ∷ xs) qs zero lt = refl
in_front (x ∷ xs) qs (suc i) lt = in_front xs qs i (omega (arith, lt))

module _ (at : ℕ → Option Assigned) where
  -- the variables at these places, in order
  abbrev pub placed : List ℕ → List Assigned
  placed [] = []
  placed (p ∷ ps) = before (at p) (placed ps)

  -- the variable after these is at a place after theirs
  pub record StandsAfter (places : List ℕ) (earlier : List Assigned) (a : Assigned) : Type 0 where
    pub front : List ℕ
    pub place : ℕ
    pub rest : List ℕ
    pub split : places ≡ front ++ place ∷ rest
    pub is : at place ≡ Some a
    pub earlier_are : placed front ≡ earlier

  one_more : (p : ℕ) (front : List ℕ) (b x : Assigned) (xs : List Assigned) → at p ≡ Some b → b ≡ x → placed front ≡ xs → before (at p) (placed front) ≡ x ∷ xs
  one_more p front b x xs is same e = ap (λ o. before o (placed front)) is ∙ (ap (λ y. y ∷ placed front) same ∙ ap (λ l. x ∷ l) e)

  one_earlier : (p : ℕ) (ps : List ℕ) (xs more : List Assigned) (a : Assigned) (r : StandsAfter ps xs a) → before (at p) (placed r.front) ≡ more → StandsAfter (p ∷ ps) more a
  one_earlier p ps xs more a r e = record { front = p ∷ r.front; place = r.place; rest = r.rest; split = ap (λ l. p ∷ l) r.split; is = r.is; earlier_are = e }

  -- each variable of those at places stands at one
  pub stands_after : (places : List ℕ) (earlier later : List Assigned) (a : Assigned) → placed places ≡ earlier ++ a ∷ later → StandsAfter places earlier a
  stands_after [] [] later a e = absurd (cc)
  stands_after [] (x ∷ xs) later a e = absurd (let f : [] ≡ x ∷ (xs ++ a ∷ later) = e in cc)
  stands_after (p ∷ ps) earlier later a e = by (at p) refl earlier e (λ xs g. stands_after ps xs later a g)
    where
      by : (o : Option Assigned) → at p ≡ o → (xs : List Assigned) → before (at p) (placed ps) ≡ xs ++ a ∷ later → ((ys : List Assigned) → placed ps ≡ ys ++ a ∷ later → StandsAfter ps ys a) → StandsAfter (p ∷ ps) xs a
      by None is xs g go =
          let f : placed ps ≡ xs ++ a ∷ later = sym (ap (λ o. before o (placed ps)) is) ∙ g in
          let r = go xs f in
          one_earlier p ps xs xs a r (ap (λ o. before o (placed r.front)) is ∙ r.earlier_are)
      by (Some b) is [] g go =
          let f : b ∷ placed ps ≡ a ∷ later = sym (ap (λ o. before o (placed ps)) is) ∙ g in
          let same : b ≡ a = cc in
          record { front = []; place = p; rest = ps; split = refl; is = is ∙ ap Some same; earlier_are = refl }
      by (Some b) is (x ∷ xs) g go =
          let f : b ∷ placed ps ≡ x ∷ (xs ++ a ∷ later) = sym (ap (λ o. before o (placed ps)) is) ∙ g in
          let same : b ≡ x = cc in
          let more : placed ps ≡ xs ++ a ∷ later = cc in
          let r = go xs more in
          one_earlier p ps xs (x ∷ xs) a r (one_more p r.front b x xs is same r.earlier_are)

  has_placed : (ps : List ℕ) (i q : ℕ) (b : Assigned) → slice_get ps i ≡ Some q → at q ≡ Some b → HasNumber (placed ps) b.number
  has_placed [] i q b e is = absurd (cc)
  has_placed (p ∷ ps) zero q b e is =
      let same : p ≡ q = cc in
      let there : at p ≡ Some b = ap at same ∙ is in
      subst (λ o. HasNumber (before o (placed ps)) b.number) (sym there) (inl refl)
  has_placed (p ∷ ps) (suc i) q b e is = later (at p) (has_placed ps i q b e is)
    where
      later : (o : Option Assigned) → HasNumber (placed ps) b.number → HasNumber (before o (placed ps)) b.number
      later None h = h
      later (Some c) h = inr h

  -- in an order of places by their needs, each variable stands after all that are at places that its own needs
  pub stands_after_needs : (needs : List (List ℕ)) (places : List ℕ) (earlier later : List Assigned) (a b : Assigned) → IsOrder needs places → placed places ≡ earlier ++ a ∷ later
      → ((p : ℕ) → at p ≡ Some a → (q : ℕ) × Needs needs p q × (at q ≡ Some b)) → HasNumber earlier b.number
  stands_after_needs needs places earlier later a b order e needed =
      let s = stands_after places earlier later a e in
      let n = needed s.place s.is in
      let there : slice_get places (length s.front) ≡ Some s.place = ap (λ l. slice_get l (length s.front)) s.split ∙ at_seam s.front s.rest s.place in
      let r = order.ranked (length s.front) s.place n.0 there n.1 in
      let found : slice_get s.front r.at ≡ Some n.0 = sym (in_front s.front (s.place ∷ s.rest) r.at r.earlier) ∙ (ap (λ l. slice_get l r.at) (sym s.split) ∙ r.found) in
      subst (λ l. HasNumber l b.number) s.earlier_are (has_placed s.front r.at n.0 b found n.2)
