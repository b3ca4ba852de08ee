-- What loops read is items in a row, and items in a row are read by them.
use Rattle.std.proofs.Common.{◌≡◌, ℕ, zero, suc, ◌<◌, List, [], ◌∷◌, length, map, Ok, Option, Some, None, refl, arith, inl, inr}
use Rattle.just_text.specs.Tokens.{Word}
use Rattle.just_text.specs.declared.token_kind.TokenKind.{TokenKind}
use Rattle.parse_expressions.specs.Words.{Mark}
use Rattle.parse_expressions.specs.Reading.{◌>>=◌, Read, accept}
use Rattle.parse_recipes.specs.Reading.{until, while_some, unless_none}
use Rattle.parse_expressions.proofs.TokensTaken.{taken, Reads}
use Rattle.parse_expressions.proofs.Taken.{bind_ok, inspect, turned}

module _ {T : Type 0} (word : T → Word) where
  -- ---- what is read

  module _ {A : Type 0} (item : List T → Read T A) (close : TokenKind) (Are : List A → List T → List T → Type 0)
      (stop : (ts : List T) (p : T × List T) → accept word close ts ≡ Some p → Are [] ts p.1)
      (step : (ts : List T) (x : A × List T) (xs : List A) (rest : List T) → item ts ≡ Ok x → Are xs x.1 rest → Are (x.0 ∷ xs) ts rest) where
    pub until_found : (n : ℕ) (ts : List T) (p : List A × List T) → until word item close n ts ≡ Ok p → Are p.0 ts p.1
    unfolding until
    until_found zero ts p h = absurd cc
    until_found (suc n) ts p h =
        elim (inspect (accept word close ts)) [
          | inr w ↦ turned (λ (z : List A × List T). Are z.0 ts z.1) ([], w.0.1) p (rw w.1 at h) (stop ts w.0 w.1)
          | inl w ↦
              let x = bind_ok _ _ p (rw w at h) in
              let more = bind_ok _ _ p x.2 in
              turned (λ (z : List A × List T). Are z.0 ts z.1) (x.0.0 ∷ more.0.0, more.0.1) p more.2 (step ts x.0 more.0.0 more.0.1 x.1 (until_found n x.0.1 more.0 more.1))
        ]

  module _ {A : Type 0} (item : List T → Read T (Option A)) (Are : List A → List T → List T → Type 0)
      (stop : (ts rest : List T) → item ts ≡ Ok (None, rest) → Are [] ts rest)
      (step : (ts mid : List T) (x : A) (xs : List A) (rest : List T) → item ts ≡ Ok (Some x, mid) → Are xs mid rest → Are (x ∷ xs) ts rest) where
    while_turn : (n : ℕ) (ts : List T) (p : List A × List T) (o : Option A) (mid : List T) → item ts ≡ Ok (o, mid)
        → unless_none word (Ok ([], mid)) o (λ y. while_some word item n mid >>= λ ys. Ok (y ∷ ys.0, ys.1)) ≡ Ok p
        → ((us : List T) (q : List A × List T) → while_some word item n us ≡ Ok q → Are q.0 us q.1) → Are p.0 ts p.1
    while_turn n ts p None mid is h others = turned (λ (z : List A × List T). Are z.0 ts z.1) ([], mid) p h (stop ts mid is)
    while_turn n ts p (Some y) mid is h others =
        let more = bind_ok _ _ p h in
        turned (λ (z : List A × List T). Are z.0 ts z.1) (y ∷ more.0.0, more.0.1) p more.2 (step ts mid y more.0.0 more.0.1 is (others mid more.0 more.1))

    pub while_found : (n : ℕ) (ts : List T) (p : List A × List T) → while_some word item n ts ≡ Ok p → Are p.0 ts p.1
    unfolding while_some
    while_found zero ts p h = absurd cc
    while_found (suc n) ts p h = let x = bind_ok _ _ p h in while_turn n ts p x.0.0 x.0.1 x.1 x.2 (λ us q. while_found n us q)

  -- ---- what is spelled

  -- an item is read, and after it that holds
  pub record Step {A : Type 0} (read : Read T A) (x : A) (ts : List T) (Holds : List Word → Type 0) : Type 0 where
    pub rest : List T
    pub is : read ≡ Ok (x, rest)
    pub less : length rest < length ts
    pub others : Holds (map word rest)

  module _ {A : Type 0} (item : List T → Read T A) (close : TokenKind) (Are : List A → List Word → Type 0) (end : List Word)
      (stop : (ws : List Word) → Are [] ws → Mark close ws end)
      (step : (ts : List T) (x : A) (xs : List A) → Are (x ∷ xs) (map word ts) → (accept word close ts ≡ None) × Step (item ts) x ts (Are xs)) where
    pub until_again : (xs : List A) (n : ℕ) (ts : List T) → length ts < n → Are xs (map word ts) → Reads word (until word item close n ts) xs end
    unfolding until
    until_again xs zero ts fuel i = absurd (omega arith)
    until_again [] (suc n) ts fuel i = let m = stop (map word ts) i in let t = taken word close m.0 ts end m.1 in record { rest = t.rest; is = rw t.accepts refl; others = t.others }
    until_again (x ∷ xs) (suc n) ts fuel i =
        let s = step ts x xs i in
        let less = s.1.less in
        let r = until_again xs n s.1.rest (omega (arith, less)) s.1.others in
        record { rest = r.rest; is = rw (s.0, s.1.is, r.is) refl; others = r.others }

  module _ {A : Type 0} (item : List T → Read T (Option A)) (Are : List A → List Word → Type 0) (end : List Word)
      (stop : (ts : List T) → Are [] (map word ts) → (item ts ≡ Ok (None, ts)) × (map word ts ≡ end))
      (step : (ts : List T) (x : A) (xs : List A) → Are (x ∷ xs) (map word ts) → Step (item ts) (Some x) ts (Are xs)) where
    pub while_again : (xs : List A) (n : ℕ) (ts : List T) → length ts < n → Are xs (map word ts) → Reads word (while_some word item n ts) xs end
    unfolding while_some
    while_again xs zero ts fuel i = absurd (omega arith)
    while_again [] (suc n) ts fuel i = let s = stop ts i in record { rest = ts; is = rw s.0 refl; others = s.1 }
    while_again (x ∷ xs) (suc n) ts fuel i =
        let s = step ts x xs i in
        let less = s.less in
        let r = while_again xs n s.rest (omega (arith, less)) s.others in
        record { rest = r.rest; is = rw (s.is, r.is) refl; others = r.others }
