-- The places of a graph from which nothing is read but variables that are allowed.
use Rattle.std.proofs.Common.{◌≡◌, ◌⊎◌, inl, inr, refl, sym, ◌∙◌, ap, subst, Bool, true, false, if◌then◌else◌, nat_eq, nat_lt, List, [], ◌∷◌, length, Some, ℕ, zero, suc, ◌+◌, ◌-◌, ◌≤◌, ◌<◌, arith, true≢false, leb}
use Rattle.std.specs.Prelude.{slice_get, Contains}
use Rattle.std.proofs.lemmas.Bool.Decides.{Decides-eqb, Decides-ltb, leb_tells}
use Rattle.std.proofs.lemmas.Option.{slice_get-get_or, slice_get_within, get_or_from_slice_get}
use Rattle.resolve_order.specs.Flooded.{leads_of}
use Rattle.resolve_order.specs.Needs.{Needs}
use Rattle.resolve_order.specs.Reads.{ReadsThrough, directly, through}
use Rattle.meaning_rules.proofs.Worlds.Places.{contains_cases, contains_first, contains_later, contains_none}

-- ---- numbers one after another

between : ℕ → ℕ → List ℕ
between from zero = []
between from (suc many) = (from + many) ∷ between from many

between_has : (from many place : ℕ) → from ≤ place → place < from + many → Contains (between from many) place
unfolding between
between_has from zero place le lt = absurd (omega (arith, le, lt))
between_has from (suc many) place le lt = by_order (between_has from many place le) (leb_tells (suc place) (from + many))
  where
    by_order : (place < from + many → Contains (between from many) place) → ((leb (suc place) (from + many) ≡ true) × (suc place ≤ from + many)) ⊎ ((leb (suc place) (from + many) ≡ false) × (from + many < suc place)) → Contains ((from + many) ∷ between from many) place
    by_order later (inl p) = contains_later (from + many) (between from many) place (later p.1)
    by_order later (inr p) =
        let past = p.1 in
        let same : from + many ≡ place = omega (arith, lt, past) in
        subst (Contains ((from + many) ∷ between from many)) same (contains_first (from + many) (between from many))

between_within : (from many place : ℕ) → Contains (between from many) place → (from ≤ place) × (place < from + many)
unfolding between
between_within from zero place c = absurd (contains_none [] place refl c)
between_within from (suc many) place c = elim (contains_cases (from + many) (between from many) place c) [
  | inl same ↦ (omega (arith, same), omega (arith, same))
  | inr later ↦ let r = between_within from many place later in let le = r.0 in let lt = r.1 in (le, omega (arith, lt))
]

-- ---- places without one

without : (ℕ → Bool) → ℕ → ℕ → Bool
without good place other = if nat_eq other place then false else good other

without_true : (good : ℕ → Bool) (place other : ℕ) → without good place other ≡ true → (other ≡ place → ⊥) × (good other ≡ true)
unfolding without
without_true good place other e = by_test (nat_eq other place) refl e
  where
    by_test : (b : Bool) → nat_eq other place ≡ b → (if b then false else good other) ≡ true → (other ≡ place → ⊥) × (good other ≡ true)
    by_test true is e = absurd (true≢false (sym e))
    by_test false is e = (λ same. true≢false (sym ((Decides-eqb other place).1 same) ∙ is), e)

without_false : (good : ℕ → Bool) (place other : ℕ) → without good place other ≡ false → (other ≡ place) ⊎ (good other ≡ false)
unfolding without
without_false good place other e = by_test (nat_eq other place) refl e
  where
    by_test : (b : Bool) → nat_eq other place ≡ b → (if b then false else good other) ≡ false → (other ≡ place) ⊎ (good other ≡ false)
    by_test true is e = inl ((Decides-eqb other place).0 is)
    by_test false is e = inr e

-- ---- what leads to nothing bad

module _ (leads : ℕ → List ℕ) (Within Bad : ℕ → Type 0) (spreads : (place other : ℕ) → Within place → Contains (leads place) other → Bad other → Bad place) where
  abbrev LeadsWell : (ℕ → Bool) → ℕ → Type 0
  LeadsWell good place = (other : ℕ) → Contains (leads place) other → good other ≡ true

  look : (good : ℕ → Bool) (row : List ℕ) → ((other : ℕ) × Contains row other × (good other ≡ false)) ⊎ ((other : ℕ) → Contains row other → good other ≡ true)
  look good [] = inr (λ other c. absurd (contains_none [] other refl c))
  look good (x ∷ row) = by_test (good x) refl (look good row)
    where
      by_test : (b : Bool) → good x ≡ b → ((other : ℕ) × Contains row other × (good other ≡ false)) ⊎ ((other : ℕ) → Contains row other → good other ≡ true)
          → ((other : ℕ) × Contains (x ∷ row) other × (good other ≡ false)) ⊎ ((other : ℕ) → Contains (x ∷ row) other → good other ≡ true)
      by_test false is rest = inl (x, contains_first x row, is)
      by_test true is (inl r) = inl (r.0, contains_later x row r.0 r.1, r.2)
      by_test true is (inr all) = inr (λ other c. elim (contains_cases x row other c) [ inl same ↦ ap good (sym same) ∙ is | inr later ↦ all other later ])

  -- one of these places leads to what is not good, and the others
  record IsPicked (good : ℕ → Bool) (places : List ℕ) : Type 0 where
    pub place : ℕ
    pub there : Contains places place
    pub other : ℕ
    pub listed : Contains (leads place) other
    pub bad : good other ≡ false
    pub rest : List ℕ
    pub fewer : length places ≡ suc (length rest)
    pub from : (x : ℕ) → Contains places x → (x ≡ place) ⊎ Contains rest x
    pub kept : (x : ℕ) → Contains rest x → Contains places x

  pick : (good : ℕ → Bool) (places : List ℕ) → IsPicked good places ⊎ ((place : ℕ) → Contains places place → LeadsWell good place)
  pick good [] = inr (λ place c. absurd (contains_none [] place refl c))
  pick good (x ∷ places) = by_row (look good (leads x)) (pick good places)
    where
      by_row : ((other : ℕ) × Contains (leads x) other × (good other ≡ false)) ⊎ LeadsWell good x → IsPicked good places ⊎ ((place : ℕ) → Contains places place → LeadsWell good place)
          → IsPicked good (x ∷ places) ⊎ ((place : ℕ) → Contains (x ∷ places) place → LeadsWell good place)
      by_row (inl r) later = inl (record {
        place = x;
        there = contains_first x places;
        other = r.0;
        listed = r.1;
        bad = r.2;
        rest = places;
        fewer = refl;
        from = λ y c. elim (contains_cases x places y c) [ inl same ↦ inl (sym same) | inr d ↦ inr d ];
        kept = λ y c. contains_later x places y c;
      })
      by_row (inr well) (inl p) = inl (record {
        place = p.place;
        there = contains_later x places p.place p.there;
        other = p.other;
        listed = p.listed;
        bad = p.bad;
        rest = x ∷ p.rest;
        fewer = ap suc p.fewer;
        from = λ y c. elim (contains_cases x places y c) [
          | inl same ↦ inr (subst (Contains (x ∷ p.rest)) same (contains_first x p.rest))
          | inr d ↦ elim (p.from y d) [ inl is ↦ inl is | inr e ↦ inr (contains_later x p.rest y e) ]
        ];
        kept = λ y c. elim (contains_cases x p.rest y c) [ inl same ↦ subst (Contains (x ∷ places)) same (contains_first x places) | inr d ↦ contains_later x places y (p.kept y d) ];
      })
      by_row (inr well) (inr all) = inr (λ place c. elim (contains_cases x places place c) [ inl same ↦ subst (LeadsWell good) same well | inr d ↦ all place d ])

  record IsClosed (start : ℕ → Bool) : Type 0 where
    pub good : ℕ → Bool
    pub kept : (place : ℕ) → good place ≡ true → start place ≡ true
    pub bad : (place : ℕ) → good place ≡ false → Bad place
    pub closed : (place : ℕ) → Within place → good place ≡ true → LeadsWell good place

  -- places are taken away that lead to what was taken away, until none does
  close : (start : ℕ → Bool) (fuel : ℕ) (good : ℕ → Bool) (places : List ℕ) → length places ≤ fuel → ((place : ℕ) → good place ≡ true → start place ≡ true) → ((place : ℕ) → good place ≡ false → Bad place)
      → ((place : ℕ) → Contains places place → Within place) → ((place : ℕ) → Within place → good place ≡ true → Contains places place) → IsClosed start
  close start zero good places le kept bad within left = by_pick (pick good places)
    where
      by_pick : IsPicked good places ⊎ ((place : ℕ) → Contains places place → LeadsWell good place) → IsClosed start
      by_pick (inl p) = let fewer = p.fewer in absurd (omega (arith, le, fewer))
      by_pick (inr all) = record { good = good; kept = kept; bad = bad; closed = λ place is e. all place (left place is e) }
  close start (suc fuel) good places le kept bad within left = by_pick (pick good places) (close start fuel)
    where
      by_pick : IsPicked good places ⊎ ((place : ℕ) → Contains places place → LeadsWell good place)
          → ((good : ℕ → Bool) (places : List ℕ) → length places ≤ fuel → ((place : ℕ) → good place ≡ true → start place ≡ true) → ((place : ℕ) → good place ≡ false → Bad place)
          → ((place : ℕ) → Contains places place → Within place) → ((place : ℕ) → Within place → good place ≡ true → Contains places place) → IsClosed start)
          → IsClosed start
      by_pick (inl p) again =
          let fewer = p.fewer in
          let gone = spreads p.place p.other (within p.place p.there) p.listed (bad p.other p.bad) in
          again (without good p.place) p.rest (omega (arith, le, fewer)) (λ place e. kept place (without_true good p.place place e).1)
          (λ place e. elim (without_false good p.place place e) [ inl same ↦ subst Bad (sym same) gone | inr is ↦ bad place is ])
          (λ place c. within place (p.kept place c))
          (λ place is e. let t = without_true good p.place place e in elim (p.from place (left place is t.1)) [ inl same ↦ absurd (t.0 same) | inr c ↦ c ])
      by_pick (inr all) again = record { good = good; kept = kept; bad = bad; closed = λ place is e. all place (left place is e) }

-- ---- in a graph of variables and functions

module _ (graph : List (List ℕ)) (count : ℕ) (allowed : ℕ → Bool) where
  -- a function that reads a variable that is not allowed
  record ReadsForbidden (place : ℕ) : Type 0 where
    pub behind : count ≤ place
    pub there : place < length graph
    pub read : ℕ
    pub variable : read < count
    pub reads : ReadsThrough graph count place read
    pub forbidden : allowed read ≡ false

  -- that, or a variable that is not allowed
  abbrev IsBad : ℕ → Type 0
  IsBad place = ((place < count) × (allowed place ≡ false)) ⊎ ReadsForbidden place

  -- the places that are good: variables that are allowed, and functions that lead to such places alone
  pub record AreGood : Type 0 where
    pub good : ℕ → Bool
    pub variable : (place : ℕ) → place < count → good place ≡ true → allowed place ≡ true
    pub closed : (place other : ℕ) (row : List ℕ) → count ≤ place → slice_get graph place ≡ Some row → good place ≡ true → Contains row other → good other ≡ true
    pub variable_good : (place : ℕ) → place < count → allowed place ≡ true → good place ≡ true
    pub function_good : (place : ℕ) → count ≤ place → ((read : ℕ) → read < count → ReadsThrough graph count place read → allowed read ≡ true) → good place ≡ true

  record IsFunction (place : ℕ) : Type 0 where
    pub behind : count ≤ place
    pub there : place < length graph

  abbrev start_by : ℕ → Bool → Bool
  start_by place is_variable = if is_variable then allowed place else true

  start : ℕ → Bool
  start place = start_by place (nat_lt place count)

  needs_it : (place other : ℕ) → place < length graph → other < length graph → Contains (leads_of graph place) other → Needs graph place other
  needs_it place other lt there c = record { row = leads_of graph place; here = slice_get-get_or graph place [] lt; listed = c; there = there }

  spreads : count ≤ length graph → (place other : ℕ) → IsFunction place → Contains (leads_of graph place) other → IsBad other → IsBad place
  spreads many place other f c (inl p) =
      let lt = p.0 in
      inr (record { behind = f.behind; there = f.there; read = other; variable = p.0; reads = directly (needs_it place other f.there (omega (arith, lt, many)) c); forbidden = p.1 })
  spreads many place other f c (inr r) = inr (record { behind = f.behind; there = f.there; read = r.read; variable = r.variable; reads = through (needs_it place other f.there r.there c) r.behind r.reads; forbidden = r.forbidden })

  bad_start : (place : ℕ) → start place ≡ false → IsBad place
  unfolding start
  bad_start place e = by_test (nat_lt place count) refl e
    where
      by_test : (b : Bool) → nat_lt place count ≡ b → start_by place b ≡ false → IsBad place
      by_test true is e = inl ((Decides-ltb place count).0 is, e)
      by_test false is e = absurd (true≢false e)

  start_variable : (place : ℕ) → place < count → start place ≡ allowed place
  unfolding start
  start_variable place lt = ap (start_by place) ((Decides-ltb place count).1 lt)

  pub good_places : count ≤ length graph → AreGood
  good_places many =
      let functions = between count (length graph - count) in
      let c = close (leads_of graph) IsFunction IsBad (spreads many) start (length functions) start functions (omega arith) (λ place e. e) bad_start
      (λ place is. let r = between_within count (length graph - count) place is in let lt = r.1 in record { behind = r.0; there = omega (arith, lt, many) })
      (λ place f e. let lt = f.there in let le = f.behind in between_has count (length graph - count) place f.behind (omega (arith, lt, many, le))) in
      record {
        good = c.good;
        variable = λ place lt e. sym (start_variable place lt) ∙ c.kept place e;
        closed = λ place other row le here e listed.
            c.closed place (record { behind = le; there = slice_get_within graph place row here }) e other (subst (λ xs. Contains xs other) (sym (get_or_from_slice_get graph place row [] here)) listed);
        variable_good = λ place lt e. unbad c.good place (c.bad place) (λ b. elim b [ inl p ↦ true≢false (sym e ∙ p.1) | inr r ↦ let le = r.behind in absurd (omega (arith, le, lt)) ]);
        function_good = λ place le all. unbad c.good place (c.bad place) (λ b. elim b [ inl p ↦ let lt = p.0 in absurd (omega (arith, le, lt)) | inr r ↦ true≢false (sym (all r.read r.variable r.reads) ∙ r.forbidden) ]);
      }
    where
      unbad : (good : ℕ → Bool) (place : ℕ) → (good place ≡ false → IsBad place) → (IsBad place → ⊥) → good place ≡ true
      unbad good place bad none = by_test (good place) refl
        where
          by_test : (b : Bool) → good place ≡ b → good place ≡ true
          by_test true is = is
          by_test false is = absurd (none (bad is))
