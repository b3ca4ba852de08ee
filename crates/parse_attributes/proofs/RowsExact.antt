-- Items in a row are read where they are spelled, and only there, if each item is and so is what stands around them.
use Rattle.std.proofs.Common.{◌≡◌, ℕ, zero, suc, ◌<◌, Bool, true, false, List, [], ◌∷◌, length, map, Ok, Option, Some, None, refl, arith, inl, inr}
use Rattle.std.proofs.lemmas.List.{length-map}
use Rattle.just_text.specs.Tokens.{Word}
use Rattle.parse_expressions.specs.Reading.{Read}
use Rattle.parse_expressions.specs.Rows.{BetweenOrEnd}
use Rattle.parse_expressions.proofs.Taken.{bind_ok, test, turned}
use Rattle.parse_expressions.proofs.TokensTaken.{Reads}
use Rattle.parse_attributes.specs.Rows.{Follow, IfGiven}
use Rattle.parse_attributes.specs.Reading.{follow_at}
use Rattle.parse_attributes.proofs.Rest.{Takes}

-- if there is an item, the words spell it
abbrev pub UnlessNone : {A : Type 0} → (A → List Word → List Word → Type 0) → Option A → List Word → List Word → Type 0
UnlessNone Is None words rest = Unit {0}
UnlessNone Is (Some x) words rest = Is x words rest

-- each is there
abbrev pub AreGiven : {A : Type 0} → List (Option A) → Type 0
AreGiven [] = Unit {0}
AreGiven (None ∷ os) = ⊥
AreGiven (Some x ∷ os) = AreGiven os

module _ {A : Type 0} (Is : A → List Word → List Word → Type 0) (Between End : List Word → List Word → Type 0) where
  -- where each is there, all are spelled
  pub given_follow : (os : List (Option A)) (ws rest : List Word) → AreGiven os → Follow (UnlessNone Is) Between End os ws rest → Follow (IfGiven Is) Between End os ws rest
  given_follow [] ws rest g h = h
  given_follow (None ∷ os) ws rest g h = absurd g
  given_follow (Some x ∷ os) ws rest g (a, b, m, i, f) = (a, b, m, i, given_follow os b rest g f)

  pub some_follow : (xs : List A) (ws rest : List Word) → Follow (UnlessNone Is) Between End (map Some xs) ws rest → Follow Is Between End xs ws rest
  some_follow [] ws rest h = h
  some_follow (x ∷ xs) ws rest (a, b, m, i, f) = (a, b, m, i, some_follow xs b rest f)

  pub follow_some : (xs : List A) (ws rest : List Word) → Follow Is Between End xs ws rest → Follow (IfGiven Is) Between End (map Some xs) ws rest
  follow_some [] ws rest h = h
  follow_some (x ∷ xs) ws rest (a, b, m, i, f) = (a, b, m, i, follow_some xs b rest f)

module _ {T : Type 0} (word : T → Word) where
  -- what is read is spelled
  abbrev pub Found : {A : Type 0} → (A → List Word → List Word → Type 0) → (List T → Read T A) → Type 0
  Found {A = A} Is read = (ts : List T) (p : A × List T) → read ts ≡ Ok p → Is p.0 (map word ts) (map word p.1)

  -- what is spelled is read
  abbrev pub Again : {A : Type 0} → (A → List Word → List Word → Type 0) → (List T → Read T A) → Type 0
  Again {A = A} Is read = (x : A) (ts : List T) (ws : List Word) → Is x (map word ts) ws → Reads word (read ts) x ws

  -- as many turns as there are tokens are enough
  pub turns_enough : (ts : List T) → length (map word ts) < suc (length ts)
  turns_enough ts = omega (arith, length-map ts word)

  -- ---- rows

  module _ {A : Type 0} (Is : A → List Word → List Word → Type 0) (Between End : List Word → List Word → Type 0) (item : List T → Read T A) (more : List T → Read T Bool) where
    pub follow_found : Found Is item → Found (BetweenOrEnd Between End) more → (n : ℕ) → Found (Follow Is Between End) (follow_at word item more n)
    unfolding follow_at
    follow_found items mores zero ts p h = absurd cc
    follow_found items mores (suc n) ts p h =
        let m = bind_ok (more ts) _ p h in
        let i = mores ts m.0 m.1 in
        elim (test m.0.0) [
          | inl w ↦
              let x = bind_ok (item m.0.1) _ p (rw w at m.2) in
              let xs = bind_ok (follow_at word item more n x.0.1) _ p x.2 in
              let between : Between (map word ts) (map word m.0.1) = rw w at i in
              turned (λ (z : List A × List T). Follow Is Between End z.0 (map word ts) (map word z.1)) (x.0.0 ∷ xs.0.0, xs.0.1) p xs.2
              (map word m.0.1, map word x.0.1, between, items m.0.1 x.0 x.1, follow_found items mores n x.0.1 xs.0 xs.1)
          | inr w ↦
              let end : End (map word ts) (map word m.0.1) = rw w at i in
              turned (λ (z : List A × List T). Follow Is Between End z.0 (map word ts) (map word z.1)) ([], m.0.1) p (rw w at m.2) end
        ]

    module _ (items : Again Is item) (mores : Again (BetweenOrEnd Between End) more) (each : (x : A) → Takes (Is x)) (takes : Takes Between) where
      pub follow_again : (xs : List A) (n : ℕ) (ts : List T) (ws : List Word) → length (map word ts) < n → Follow Is Between End xs (map word ts) ws → Reads word (follow_at word item more n ts) xs ws
      unfolding follow_at
      follow_again xs zero ts ws turns f = absurd (omega arith)
      follow_again [] (suc n) ts ws turns f = let m = mores false ts ws f in record { rest = m.rest; is = rw m.is refl; others = m.others }
      follow_again (x ∷ xs) (suc n) ts ws turns (a, b, m, i, f) =
          let g = mores true ts a m in
          let j = items x g.rest b (rw g.others i) in
          let p = takes (map word ts) a m in
          let q = each x a b i in
          let r = follow_again xs n j.rest ws (rw j.others (omega (arith, p, q, turns))) (rw j.others f) in
          record { rest = r.rest; is = rw (g.is, j.is, r.is) refl; others = r.others }
