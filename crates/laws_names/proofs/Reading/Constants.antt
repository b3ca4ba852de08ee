-- The numbers of constants.
use Rattle.std.proofs.Common.{◌≡◌, inl, inr, refl, sym, ap, subst, List, [], ◌∷◌, map, length, Some, None, ℕ, suc, ◌<◌, ◌+◌, arith}
use Rattle.std.specs.Prelude.{Contains}
use Rattle.just_value.specs.Constants.{constant_rows}
use Rattle.tree_items.specs.Contexts.{last_named}
use Rattle.resolve_analysis.specs.Bound.{constant_number, numbered_from}
use Rattle.meaning_rules.specs.Fixed.{constants}
use Rattle.meaning_rules.proofs.Worlds.Places.{contains_cases, contains_first, contains_later, contains_none}
use Rattle.laws_names.proofs.Reading.Finding.{last_named_there, none_named}

abbrev Rows : Type 0
Rows = List (List ℕ × List ℕ)

numbered_there : (base : ℕ) (rows : Rows) (name : List ℕ) (number : ℕ) → Contains (numbered_from base rows) (name, number) → Contains (map (λ row. row.0) rows) name × (number < base + length rows)
numbered_there base [] name number c = absurd (contains_none [] (name, number) refl c)
numbered_there base (row ∷ rows) name number c = elim (contains_cases (row.0, base) (numbered_from (suc base) rows) (name, number) c) [
  | inl same ↦
      let named : row.0 ≡ name = ap (λ (p : List ℕ × ℕ). p.0) same in
      let numbered : base ≡ number = ap (λ (p : List ℕ × ℕ). p.1) same in
      (subst (Contains (map (λ row. row.0) (row ∷ rows))) named (contains_first row.0 (map (λ row. row.0) rows)), omega (arith, numbered))
  | inr d ↦
      let r = numbered_there (suc base) rows name number d in
      let lt = r.1 in
      (contains_later row.0 (map (λ row. row.0) rows) name r.0, omega (arith, lt))
]

same_names : (base : ℕ) (rows : Rows) → map (λ (p : List ℕ × ℕ). p.0) (numbered_from base rows) ≡ map (λ row. row.0) rows
same_names base [] = refl
same_names base (row ∷ rows) = ap (λ ns. row.0 ∷ ns) (same_names (suc base) rows)

-- what has a constant's number is one
module _ (name : List ℕ) where
  by_rows : (rows : Rows) (number : ℕ) → last_named name (numbered_from 0 rows) ≡ Some number → Contains (map (λ row. row.0) rows) name × (number < length rows)
  by_rows rows number e =
      let r = numbered_there 0 rows name number (last_named_there name (numbered_from 0 rows) number e) in
      let lt = r.1 in
      (r.0, omega (arith, lt))

  pub is_constant : (number : ℕ) → constant_number name ≡ Some number → Contains constants name × (number < length constant_rows)
  unfolding constants
  is_constant number e = by_rows constant_rows number e

  none_by_rows : (rows : Rows) → last_named name (numbered_from 0 rows) ≡ None → Contains (map (λ row. row.0) rows) name → ⊥
  none_by_rows rows e c = none_named name (numbered_from 0 rows) e (subst (λ ns. Contains ns name) (sym (same_names 0 rows)) c)

  pub is_no_constant : constant_number name ≡ None → Contains constants name → ⊥
  unfolding constants
  is_no_constant e c = none_by_rows constant_rows e c
