-- What the frames of a module and of a recipe export by numbers is what their variables and parameters export by names.
use Rattle.std.proofs.Common.{◌≡◌, ◌∙◌, inl, inr, sym, ap, ap₂, subst, refl, ℕ, zero, suc, Bool, true, false, List, [], ◌∷◌, ◌++◌, map, Option, Some, None, true≢false}
use Rattle.std.specs.Prelude.{Contains, ◌&&◌, ◌||◌, bytes_eq, cond, filter, not, slice_get}
use Rattle.std.specs.Option.{option_map, option_or}
use Rattle.std.proofs.lemmas.Bool.Decides.{eqb_tells}
use Rattle.std.proofs.lemmas.Option.{none-some, same_Some}
use Rattle.std.proofs.lemmas.Slice.Eq.{bytes_eq-Decides}
use Rattle.just_host.specs.declared.job.Pair.{Pair}
use Rattle.just_value.specs.Frames.{BoundRow, ByNumber, bound_in}
use Rattle.just_value.specs.Values.{joined}
use Rattle.just_value.proofs.Numbered.{found}
use Rattle.evaluate_context.specs.Environment.{binding_pair, frame_pairs, is_exported, last_of, text_of}
use Rattle.evaluate_context.proofs.ByName.{last_append, or_none}
use Rattle.meaning_dialogues.specs.Evaluation.{Value}
use Rattle.meaning_runs.specs.Counts.{each_once}
use Rattle.meaning_runs.specs.Parts.{is_met}
use Rattle.meaning_rules.specs.Worlds.Given.{Text}
use Rattle.meaning_rules.proofs.Worlds.Places.{contains_cases, contains_first, contains_later, contains_none, place_of}
use Rattle.laws_modules.proofs.Names.Found.{mapped}
use Rattle.meaning_evaluation.specs.Named.{Definitions, ParameterRow}
use Rattle.meaning_evaluation.specs.Scopes.{exported_by, exported_pair}
use Rattle.just_meaning.specs.Opening.{Held, held, named, pairs_of}
use Rattle.just_meaning.specs.Opening as opening

-- ---- last values of pairs

last_in : (x : Text) (pairs : List Pair) (v : Text) → last_of x pairs ≡ Some v → (p : Pair) × Contains pairs p × (p.name ≡ x) × (p.value ≡ v)
last_in x [] v e = absurd (none-some v e)
last_in x (p ∷ pairs) v e = by_rest (last_of x pairs) refl (bytes_eq p.name x) refl e (λ u h. last_in x pairs u h)
  where
    by_rest : (o : Option Text) → last_of x pairs ≡ o → (b : Bool) → bytes_eq p.name x ≡ b → option_or (last_of x pairs) (cond (bytes_eq p.name x) (Some p.value) None) ≡ Some v
        → ((u : Text) → last_of x pairs ≡ Some u → (q : Pair) × Contains pairs q × (q.name ≡ x) × (q.value ≡ u)) → (q : Pair) × Contains (p ∷ pairs) q × (q.name ≡ x) × (q.value ≡ v)
    by_rest (Some u) is b test h more =
        let r = more u is in
        let same : u ≡ v = same_Some u v (sym (ap (λ o. option_or o (cond (bytes_eq p.name x) (Some p.value) None)) is) ∙ h) in
        (r.0, contains_later p pairs r.0 r.1, r.2, r.3 ∙ same)
    by_rest None is true test h more =
        let same : p.value ≡ v = same_Some p.value v (sym (ap₂ (λ o b. option_or o (cond b (Some p.value) None)) is test) ∙ h) in
        (p, contains_first p pairs, (bytes_eq-Decides p.name x).0 test, same)
    by_rest None is false test h more = absurd (none-some v (sym (ap₂ (λ o b. option_or o (cond b (Some p.value) None)) is test) ∙ h))

last_there : (x : Text) (pairs : List Pair) (p : Pair) → Contains pairs p → p.name ≡ x → (v : Text) × (last_of x pairs ≡ Some v)
last_there x [] p c e = absurd (contains_none [] p refl c)
last_there x (q ∷ pairs) p c e = by_rest (last_of x pairs) refl (λ later. last_there x pairs p later e)
  where
    by_rest : (o : Option Text) → last_of x pairs ≡ o → (Contains pairs p → (v : Text) × (last_of x pairs ≡ Some v)) → (v : Text) × (option_or (last_of x pairs) (cond (bytes_eq q.name x) (Some q.value) None) ≡ Some v)
    by_rest (Some v) is more = (v, ap (λ o. option_or o (cond (bytes_eq q.name x) (Some q.value) None)) is)
    by_rest None is more = elim (contains_cases q pairs p c) [
      | inl same ↦ (q.value, ap₂ (λ o b. option_or o (cond b (Some q.value) None)) is ((bytes_eq-Decides q.name x).1 (ap (λ (r : Pair). r.name) same ∙ e)))
      | inr later ↦ let r = more later in absurd (none-some r.0 (sym is ∙ r.1))
    ]

last_none : (x : Text) (pairs : List Pair) → ((p : Pair) → Contains pairs p → p.name ≡ x → ⊥) → last_of x pairs ≡ None
last_none x pairs none = by_last (last_of x pairs) refl
  where
    by_last : (o : Option Text) → last_of x pairs ≡ o → last_of x pairs ≡ None
    by_last None is = is
    by_last (Some v) is = let p = last_in x pairs v is in absurd (none p.0 p.1 p.2)

-- ---- what a frame exports

-- the pair of a binding that is exported
abbrev HasPair : Bool → List BoundRow → Pair → Type 0
HasPair export rows p = (row : BoundRow) × Contains rows row × (is_exported export row ≡ true) × (binding_pair row ≡ p)

frame_in : (export : Bool) (rows : List BoundRow) (p : Pair) → Contains (frame_pairs export rows) p → HasPair export rows p
frame_in export [] p c = absurd (contains_none [] p refl c)
frame_in export (r ∷ rows) p c = by_test (is_exported export r) refl c (λ d. frame_in export rows p d)
  where
    later : HasPair export rows p → HasPair export (r ∷ rows) p
    later h = (h.0, contains_later r rows h.0 h.1, h.2, h.3)

    by_test : (b : Bool) → is_exported export r ≡ b → Contains (map binding_pair (cond b (r ∷ filter (is_exported export) rows) (filter (is_exported export) rows))) p → (Contains (frame_pairs export rows) p → HasPair export rows p)
        → HasPair export (r ∷ rows) p
    by_test true is c more = elim (contains_cases (binding_pair r) (frame_pairs export rows) p c) [
      | inl same ↦ (r, contains_first r rows, is, same)
      | inr d ↦ later (more d)
    ]
    by_test false is c more = later (more c)

frame_there : (export : Bool) (rows : List BoundRow) (row : BoundRow) → Contains rows row → is_exported export row ≡ true → Contains (frame_pairs export rows) (binding_pair row)
frame_there export [] row c e = absurd (contains_none [] row refl c)
frame_there export (r ∷ rows) row c e = by_test (is_exported export r) refl (λ d. frame_there export rows row d e)
  where
    by_test : (b : Bool) → is_exported export r ≡ b → (Contains rows row → Contains (frame_pairs export rows) (binding_pair row))
        → Contains (map binding_pair (cond b (r ∷ filter (is_exported export) rows) (filter (is_exported export) rows))) (binding_pair row)
    by_test true is more = elim (contains_cases r rows row c) [
      | inl same ↦ subst (λ x. Contains (binding_pair r ∷ frame_pairs export rows) (binding_pair x)) same (contains_first (binding_pair r) (frame_pairs export rows))
      | inr d ↦ contains_later (binding_pair r) (frame_pairs export rows) (binding_pair row) (more d)
    ]
    by_test false is more = elim (contains_cases r rows row c) [
      | inl same ↦ absurd (true≢false (sym (ap (is_exported export) same ∙ e) ∙ is))
      | inr d ↦ more d
    ]

-- the binding of a number stands in the frame
pub row_found : (rows : List BoundRow) (n : ℕ) (row : BoundRow) → bound_in rows n ≡ Some row → Contains rows row × (row.number ≡ n)
row_found [] n row e = absurd (none-some row e)
row_found (r ∷ rows) n row e = elim (eqb_tells n r.number) [
  | inl p ↦
      let same : r ≡ row = same_Some r row (sym (ap (λ b. cond b (Some r) (bound_in rows n)) p.0) ∙ e) in
      (subst (Contains (r ∷ rows)) same (contains_first r rows), sym (ap (λ (x : BoundRow). x.number) same) ∙ sym p.1)
  | inr p ↦
      let more = row_found rows n row (sym (ap (λ b. cond b (Some r) (bound_in rows n)) p.0) ∙ e) in
      (contains_later r rows row more.0, more.1)
]

module _ (export : Bool) (own : List BoundRow) (sorted : ByNumber own) where
  -- each binding of the frame is that of its number
  pub own_found : (row : BoundRow) → Contains own row → bound_in own row.number ≡ Some row
  own_found row c = let p = place_of own row c in found own row.number p.0 sorted (mapped (λ (r : BoundRow). r.number) own p.0 row p.1) ∙ p.1

  pub frame_none : (x : Text) → ((row : BoundRow) → Contains own row → text_of row.name ≡ x → is_exported export row ≡ true → ⊥) → last_of x (frame_pairs export own) ≡ None
  frame_none x none = last_none x (frame_pairs export own) (λ p c e. let r = frame_in export own p c in none r.0 r.1 (ap (λ (q : Pair). q.name) r.3 ∙ e) r.2)

  -- what the binding of a number exports
  abbrev pub value_of : Option BoundRow → Option Text
  value_of None = None
  value_of (Some row) = cond (is_exported export row) (Some (joined row.value)) None

  -- where the binding of one number alone may have the name
  pub frame_last : (x : Text) (n : ℕ) → ((row : BoundRow) → Contains own row → text_of row.name ≡ x → row.number ≡ n) → ((row : BoundRow) → bound_in own n ≡ Some row → text_of row.name ≡ x)
      → last_of x (frame_pairs export own) ≡ value_of (bound_in own n)
  frame_last x n only names = by_row (bound_in own n) refl
    where
      one : (row : BoundRow) → bound_in own n ≡ Some row → (other : BoundRow) → Contains own other → text_of other.name ≡ x → other ≡ row
      one row is other c e = same_Some other row (sym (own_found other c) ∙ ap (bound_in own) (only other c e) ∙ is)

      by_row : (o : Option BoundRow) → bound_in own n ≡ o → last_of x (frame_pairs export own) ≡ value_of o
      by_row None is = frame_none x (λ row c e exported. none-some row (sym is ∙ ap (bound_in own) (sym (only row c e)) ∙ own_found row c))
      by_row (Some row) is = by_export (is_exported export row) refl
        where
          by_export : (b : Bool) → is_exported export row ≡ b → last_of x (frame_pairs export own) ≡ cond (is_exported export row) (Some (joined row.value)) None
          by_export true e =
              let t = last_there x (frame_pairs export own) (binding_pair row) (frame_there export own row (row_found own n row is).0 e) (names row is) in
              let p = last_in x (frame_pairs export own) t.0 t.1 in
              let r = frame_in export own p.0 p.1 in
              let same = one row is r.0 r.1 (ap (λ (q : Pair). q.name) r.3 ∙ p.2) in
              let value : t.0 ≡ joined row.value = sym p.3 ∙ sym (ap (λ (q : Pair). q.value) r.3) ∙ ap (λ (z : BoundRow). joined z.value) same in
              t.1 ∙ ap (λ v. Some v) value ∙ sym (ap (λ b. cond b (Some (joined row.value)) None) e)
          by_export false e =
              frame_none x (λ other c name exported. true≢false (sym exported ∙ ap (is_exported export) (one row is other c name) ∙ e))
              ∙ sym (ap (λ b. cond b (Some (joined row.value)) None) e)

-- ---- what is held

and_rear : (a b : Bool) → (a && b) ≡ true → b ≡ true
and_rear true b e = e
and_rear false b e = absurd (true≢false (sym e))

and_front : (a b : Bool) → (a && b) ≡ true → a ≡ true
and_front true b e = refl
and_front false b e = absurd (true≢false (sym e))

not_true : (b : Bool) → not b ≡ true → b ≡ false
not_true true e = absurd (true≢false (sym e))
not_true false e = refl

or_false : (a b : Bool) → (a || b) ≡ false → (a ≡ false) × (b ≡ false)
or_false true b e = absurd (true≢false e)
or_false false b e = (refl, e)

turned : (x y : Text) → bytes_eq x y ≡ false → bytes_eq y x ≡ false
turned x y e = by_test (bytes_eq y x) refl
  where
    by_test : (b : Bool) → bytes_eq y x ≡ b → bytes_eq y x ≡ false
    by_test true f = absurd (true≢false (sym ((bytes_eq-Decides x y).1 (sym ((bytes_eq-Decides y x).0 f))) ∙ e))
    by_test false f = f

held_none : (name : Text) (hs : List Held) → is_met bytes_eq name (map (λ h. h.name) hs) ≡ false → held name hs ≡ None
held_none name [] e = refl
held_none name (h ∷ hs) e =
    let both = or_false (bytes_eq name h.name) (is_met bytes_eq name (map (λ x. x.name) hs)) e in
    ap (λ b. cond b (Some h.value) (held name hs)) (turned name h.name both.0) ∙ held_none name hs both.1

pub none_of : (b : Bool) → (let o : Option Text = None in o) ≡ cond b None None
none_of true = refl
none_of false = refl

module _ (defined : Definitions) (path : List Text) where
  abbrev pub Exports : Text → Bool
  Exports name = opening.is_exported defined (named path name)

  -- the last value of a name among the exported pairs of what is held
  pub held_last : (name : Text) (hs : List Held) → each_once bytes_eq (map (λ h. h.name) hs) ≡ true → last_of name (pairs_of defined path hs) ≡ cond (Exports name) (option_map joined (held name hs)) None
  held_last name [] once = none_of (Exports name)
  held_last name (h ∷ hs) once =
      by_test (bytes_eq h.name name) refl (held_last name hs (and_rear (not (is_met bytes_eq h.name (map (λ x. x.name) hs))) _ once)) (held_none h.name hs (not_true _ (and_front (not (is_met bytes_eq h.name (map (λ x. x.name) hs))) _ once)))
    where
      here : (b e : Bool) (o p : Option Text) → o ≡ cond e p None → last_of name (exported_pair e h.name h.value) ≡ cond e (cond b (Some (joined h.value)) None) None → (b ≡ true → p ≡ None)
          → option_or o (last_of name (exported_pair e h.name h.value)) ≡ cond e (cond b (Some (joined h.value)) p) None
      here true true o p q g u = rw (q, g, u refl) refl
      here false true o p q g u = rw (q, g) (or_none p)
      here b false o p q g u = rw (q, g) refl

      pair_last : (e : Bool) → last_of name (exported_pair e h.name h.value) ≡ cond e (cond (bytes_eq h.name name) (Some (joined h.value)) None) None
      pair_last true = refl
      pair_last false = refl

      by_test : (b : Bool) → bytes_eq h.name name ≡ b → last_of name (pairs_of defined path hs) ≡ cond (Exports name) (option_map joined (held name hs)) None → held h.name hs ≡ None
          → last_of name (exported_pair (Exports h.name) h.name h.value ++ pairs_of defined path hs) ≡ cond (Exports name) (option_map joined (cond (bytes_eq h.name name) (Some h.value) (held name hs))) None
      by_test true e rest free =
          let same : h.name ≡ name = (bytes_eq-Decides h.name name).0 e in
          last_append name (exported_pair (Exports h.name) h.name h.value) (pairs_of defined path hs)
          ∙ (here true (Exports h.name) _ (option_map joined (held name hs)) (rest ∙ ap (λ x. cond (Exports x) (option_map joined (held name hs)) None) (sym same))
          (pair_last (Exports h.name) ∙ ap (λ b. cond (Exports h.name) (cond b (Some (joined h.value)) None) None) e) (λ u. ap (option_map joined) (ap (λ x. held x hs) (sym same) ∙ free))
          ∙ (ap (λ x. cond (Exports x) (Some (joined h.value)) None) same
          ∙ ap (λ b. cond (Exports name) (option_map joined (cond b (Some h.value) (held name hs))) None) (sym e)))
      by_test false e rest free = by_export (Exports h.name)
        where
          by_export : (x : Bool) → last_of name (exported_pair x h.name h.value ++ pairs_of defined path hs) ≡ cond (Exports name) (option_map joined (cond (bytes_eq h.name name) (Some h.value) (held name hs))) None
          by_export true = rw e (or_none (last_of name (pairs_of defined path hs)) ∙ rest)
          by_export false = rw e rest

-- ---- what parameters export

exported_none : (export : Bool) (x : Text) (b : Bool) (name : Text) (v : Value) → bytes_eq name x ≡ false → last_of x (exported_pair b name v) ≡ None
exported_none export x true name v e = rw e refl
exported_none export x false name v e = refl

-- a name that no parameter has
pub parameters_none : (export : Bool) (x : Text) (ps : List ParameterRow) (vs : List Value) → ((k : ℕ) (p : ParameterRow) → slice_get ps k ≡ Some p → p.name ≡ x → ⊥) → last_of x (exported_by export ps vs) ≡ None
parameters_none export x [] vs none = refl
parameters_none export x (p ∷ ps) [] none = refl
parameters_none export x (p ∷ ps) (v ∷ vs) none =
    last_append x (exported_pair (p.export || export) p.name v) (exported_by export ps vs)
    ∙ ap₂ option_or (parameters_none export x ps vs (λ k q e. none (suc k) q e)) (exported_none export x (p.export || export) p.name v (differs (bytes_eq p.name x) refl))
  where
    differs : (b : Bool) → bytes_eq p.name x ≡ b → bytes_eq p.name x ≡ false
    differs true e = absurd (none zero p refl ((bytes_eq-Decides p.name x).0 e))
    differs false e = e

exported_one : (x : Text) (b : Bool) (name : Text) (v : Value) → bytes_eq name x ≡ true → last_of x (exported_pair b name v) ≡ cond b (Some (joined v)) None
exported_one x true name v e = rw e refl
exported_one x false name v e = refl

-- the one parameter that has the name, where no other has
pub parameters_last : (export : Bool) (x : Text) (ps : List ParameterRow) (vs : List Value) (k : ℕ) (p : ParameterRow) → slice_get ps k ≡ Some p → p.name ≡ x → ((j : ℕ) (q : ParameterRow) → slice_get ps j ≡ Some q → q.name ≡ x → j ≡ k)
    → last_of x (exported_by export ps vs) ≡ cond (p.export || export) (option_map joined (slice_get vs k)) None
parameters_last export x [] vs k p e named only = absurd (none-some p e)
parameters_last export x (q ∷ ps) [] k p e named only = none_of (p.export || export)
parameters_last export x (q ∷ ps) (v ∷ vs) zero p e named only =
    let same : q ≡ p = same_Some q p e in
    last_append x (exported_pair (q.export || export) q.name v) (exported_by export ps vs)
    ∙ ap₂ option_or (parameters_none export x ps vs (λ j r f g. let n : suc j ≡ zero = only (suc j) r f g in absurd (cc n)))
    (exported_one x (q.export || export) q.name v ((bytes_eq-Decides q.name x).1 (ap (λ (r : ParameterRow). r.name) same ∙ named)))
    ∙ ap (λ (r : ParameterRow). cond (r.export || export) (Some (joined v)) None) same
parameters_last export x (q ∷ ps) (v ∷ vs) (suc k) p e named only =
    last_append x (exported_pair (q.export || export) q.name v) (exported_by export ps vs)
    ∙ ap₂ option_or
    (parameters_last export x ps vs k p e named (λ j r f g. back (only (suc j) r f g)))
    (exported_none export x (q.export || export) q.name v (differs (bytes_eq q.name x) refl))
    ∙ or_none (cond (p.export || export) (option_map joined (slice_get vs k)) None)
  where
    back : {m n : ℕ} → suc m ≡ suc n → m ≡ n
    back e = cc e

    differs : (b : Bool) → bytes_eq q.name x ≡ b → bytes_eq q.name x ≡ false
    differs true f = let n : zero ≡ suc k = only zero q refl ((bytes_eq-Decides q.name x).0 f) in absurd (cc n)
    differs false f = f
