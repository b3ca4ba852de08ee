-- What outcomes of reading have: places of references, and rows of expressions.
use Rattle.std.proofs.Common.{◌≡◌, ◌⊎◌, inl, inr, refl, sym, ◌∙◌, ap, subst, List, [], ◌∷◌, ◌++◌, Option, Some, None, ℕ, zero, suc, length}
use Rattle.std.specs.Prelude.{slice_get, Contains, Result, Ok, Err}
use Rattle.std.proofs.lemmas.Option.{none-some, same_Some}
use Rattle.tree_expressions.specs.declared.expression.Expression.{Expression}
use Rattle.resolve_references.specs.Places.{place_before, place_of, places_before, places_of}
use Rattle.resolve_references.specs.References.{references_of}
use Rattle.resolve_references.specs.declared.read_fault.ReadFault.{ReadFault}
use Rattle.resolve_references.specs.declared.references.Reference.{Reference}
use Rattle.resolve_references.specs.declared.variable_resolver.VariableResolver.{VariableResolver}
use Rattle.resolve_analysis.specs.Reads.{row_before, rows_before, rows_of}
use Rattle.meaning_rules.proofs.Worlds.Places.{contains_cases, contains_first, contains_later, contains_none}

abbrev Found : Type 0
Found = Result (Option ℕ) ReadFault

abbrev Row : Type 0
Row = Result (List ℕ) ReadFault

abbrev Rows : Type 0
Rows = Result (List (List ℕ)) ReadFault

-- ---- what is before others

places_refused : (places : List ℕ) (others : Row) (fault : ReadFault) → places_before places others ≡ Err fault → others ≡ Err fault
places_refused places (Ok row) fault e = absurd (cc e)
places_refused places (Err other) fault e = e

places_given : (places : List ℕ) (others : Row) (row : List ℕ) → places_before places others ≡ Ok row → (rest : List ℕ) × (others ≡ Ok rest) × (places ++ rest ≡ row)
places_given places (Ok rest) row e = let same : places ++ rest ≡ row = cc e in (rest, refl, same)
places_given places (Err fault) row e = absurd (cc e)

place_refused : (found : Found) (others : Row) (fault : ReadFault) → place_before found others ≡ Err fault → (found ≡ Err fault) ⊎ (others ≡ Err fault)
place_refused (Ok (Some place)) others fault e = inr (places_refused (place ∷ []) others fault e)
place_refused (Ok None) others fault e = inr e
place_refused (Err other) others fault e = let same : other ≡ fault = cc e in inl (ap (λ f. Err f) same)

-- what is found stands before what the others give
pub record IsBeforeRow (found : Found) (others : Row) (row : List ℕ) : Type 0 where
  pub place : Option ℕ
  pub is : found ≡ Ok place
  pub rest : List ℕ
  pub others_give : others ≡ Ok rest
  pub kept : (other : ℕ) → Contains rest other → Contains row other
  pub first : (other : ℕ) → place ≡ Some other → Contains row other
  pub from : (other : ℕ) → Contains row other → (place ≡ Some other) ⊎ Contains rest other

place_given : (found : Found) (others : Row) (row : List ℕ) → place_before found others ≡ Ok row → IsBeforeRow found others row
place_given (Ok (Some place)) others row e =
    let g = places_given (place ∷ []) others row e in
    record {
      place = Some place;
      is = refl;
      rest = g.0;
      others_give = g.1;
      kept = λ other c. subst (λ xs. Contains xs other) g.2 (contains_later place g.0 other c);
      first = λ other same. subst (λ xs. Contains xs other) g.2 (subst (Contains (place ∷ g.0)) (same_Some place other same) (contains_first place g.0));
      from = λ other c. elim (contains_cases place g.0 other (subst (λ xs. Contains xs other) (sym g.2) c)) [
        | inl same ↦ inl (ap (λ p. Some p) same)
        | inr d ↦ inr d
      ];
    }
place_given (Ok None) others row e = record { place = None; is = refl; rest = row; others_give = e; kept = λ other c. c; first = λ other same. absurd (none-some other same); from = λ other c. inr c }
place_given (Err fault) others row e = absurd (cc e)

-- ---- references

module _ (resolver : VariableResolver) where
  -- of references that are refused one is
  pub refused_at : (rs : List Reference) (fault : ReadFault) → places_of resolver rs ≡ Err fault → (r : Reference) × Contains rs r × (place_of resolver r ≡ Err fault)
  refused_at [] fault e = absurd (cc e)
  refused_at (r ∷ rs) fault e = elim (place_refused (place_of resolver r) (places_of resolver rs) fault e) [
    | inl p ↦ (r, contains_first r rs, p)
    | inr p ↦ let q = refused_at rs fault p in (q.0, contains_later r rs q.0 q.1, q.2)
  ]

  -- of references that are not refused none is, and the row has each place
  pub given_of : (rs : List Reference) (row : List ℕ) → places_of resolver rs ≡ Ok row → (r : Reference) → Contains rs r → (found : Option ℕ) × (place_of resolver r ≡ Ok found) × ((place : ℕ) → found ≡ Some place → Contains row place)
  given_of [] row e r c = absurd (contains_none [] r refl c)
  given_of (r' ∷ rs) row e r c =
      let g = place_given (place_of resolver r') (places_of resolver rs) row e in
      elim (contains_cases r' rs r c) [
        | inl same ↦ (g.place, ap (place_of resolver) (sym same) ∙ g.is, g.first)
        | inr d ↦ let q = given_of rs g.rest g.others_give r d in (q.0, q.1, λ place f. g.kept place (q.2 place f))
      ]

  -- each place of the row is that of a reference
  pub read_from : (rs : List Reference) (row : List ℕ) → places_of resolver rs ≡ Ok row → (place : ℕ) → Contains row place → (r : Reference) × Contains rs r × (place_of resolver r ≡ Ok (Some place))
  read_from [] row e place c = let none : [] ≡ row = cc e in absurd (contains_none row place (sym none) c)
  read_from (r ∷ rs) row e place c =
      let g = place_given (place_of resolver r) (places_of resolver rs) row e in
      elim (g.from place c) [
        | inl same ↦ (r, contains_first r rs, g.is ∙ ap (λ o. Ok o) same)
        | inr d ↦ let q = read_from rs g.rest g.others_give place d in (q.0, contains_later r rs q.0 q.1, q.2)
      ]

  -- ---- expressions

  rows_refused : (rows : List (List ℕ)) (others : Rows) (fault : ReadFault) → rows_before rows others ≡ Err fault → others ≡ Err fault
  rows_refused rows (Ok graph) fault e = absurd (cc e)
  rows_refused rows (Err other) fault e = e

  row_refused : (row : Row) (others : Rows) (fault : ReadFault) → row_before row others ≡ Err fault → (row ≡ Err fault) ⊎ (others ≡ Err fault)
  row_refused (Ok row) others fault e = inr (rows_refused (row ∷ []) others fault e)
  row_refused (Err other) others fault e = let same : other ≡ fault = cc e in inl (ap (λ f. Err f) same)

  pub expression_refused : (es : List Expression) (fault : ReadFault) → rows_of resolver es ≡ Err fault → (e : Expression) × Contains es e × (places_of resolver (references_of e) ≡ Err fault)
  expression_refused [] fault is = absurd (cc is)
  expression_refused (e ∷ es) fault is = elim (row_refused (places_of resolver (references_of e)) (rows_of resolver es) fault is) [
    | inl p ↦ (e, contains_first e es, p)
    | inr p ↦ let q = expression_refused es fault p in (q.0, contains_later e es q.0 q.1, q.2)
  ]

  rows_given : (rows : List (List ℕ)) (others : Rows) (graph : List (List ℕ)) → rows_before rows others ≡ Ok graph → (rest : List (List ℕ)) × (others ≡ Ok rest) × (rows ++ rest ≡ graph)
  rows_given rows (Ok rest) graph e = let same : rows ++ rest ≡ graph = cc e in (rest, refl, same)
  rows_given rows (Err fault) graph e = absurd (cc e)

  row_given : (row : Row) (others : Rows) (graph : List (List ℕ)) → row_before row others ≡ Ok graph → (first : List ℕ) × (rest : List (List ℕ)) × (row ≡ Ok first) × (others ≡ Ok rest) × (first ∷ rest ≡ graph)
  row_given (Ok first) others graph e = let g = rows_given (first ∷ []) others graph e in (first, g.0, refl, g.1, g.2)
  row_given (Err fault) others graph e = absurd (cc e)

  -- the graph has the row of each expression
  pub row_of : (es : List Expression) (graph : List (List ℕ)) → rows_of resolver es ≡ Ok graph → (i : ℕ) (e : Expression) → slice_get es i ≡ Some e → (row : List ℕ) × (slice_get graph i ≡ Some row) × (places_of resolver (references_of e) ≡ Ok row)
  row_of [] graph is i e at = absurd (none-some e at)
  row_of (e' ∷ es) graph is zero e at =
      let g = row_given (places_of resolver (references_of e')) (rows_of resolver es) graph is in
      (g.0, ap (λ rows. slice_get rows 0) (sym g.4), subst (λ x. places_of resolver (references_of x) ≡ Ok g.0) (same_Some e' e at) g.2)
  row_of (e' ∷ es) graph is (suc i) e at =
      let g = row_given (places_of resolver (references_of e')) (rows_of resolver es) graph is in
      let q = row_of es g.1 g.3 i e at in
      (q.0, ap (λ rows. slice_get rows (suc i)) (sym g.4) ∙ q.1, q.2)

  -- it has as many rows as there are expressions
  pub as_many_rows : (es : List Expression) (graph : List (List ℕ)) → rows_of resolver es ≡ Ok graph → length graph ≡ length es
  as_many_rows [] graph is = let same : [] ≡ graph = cc is in ap (λ rows. length rows) (sym same)
  as_many_rows (e ∷ es) graph is =
      let g = row_given (places_of resolver (references_of e)) (rows_of resolver es) graph is in
      ap (λ rows. length rows) (sym g.4) ∙ ap suc (as_many_rows es g.1 g.3)
