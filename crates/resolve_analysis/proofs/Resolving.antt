-- Names and rows, one after the other.
use Rattle.std.proofs.Common.{◌≡◌, ℕ, suc, ◌+◌, Bool, true, false, cond, List, [], ◌∷◌, ◌++◌, append_assoc, drop, map, Option, Some, None, Result, Ok, Err, refl, sym, ap, ◌∙◌, arith}
use Rattle.std.specs.Option.{option_or}
use Rattle.std.proofs.lemmas.List.{append-nil}
use Rattle.tree_expressions.specs.declared.expression.Expression.{Expression}
use Rattle.resolve_references.specs.Places.{places_of}
use Rattle.resolve_references.specs.References.{references_of}
use Rattle.resolve_references.specs.declared.functions.DefinedFunction.{DefinedFunction}
use Rattle.resolve_references.specs.declared.read_fault.ReadFault.{ReadFault}
use Rattle.resolve_references.specs.declared.variable_resolver.VariableResolver.{VariableResolver}
use Rattle.resolve_analysis.specs.Reads.{last_found, row_before, rows_before, rows_of}

pub or_none : {A : Type 0} (one other : Option A) → other ≡ None → option_or one other ≡ one
or_none (Some a) other e = refl
or_none None other e = e

pub or_or : {A : Type 0} (one two three : Option A) → option_or (option_or one two) three ≡ option_or one (option_or two three)
or_or (Some a) two three = refl
or_or None two three = refl

module _ {A B : Type 0} (find : ℕ → A → Option B) where
  -- what is found in the rest, else before it
  pub found_more : {C : Type 0} (of : C → A) (xs : List C) (i : ℕ) (x : C) (old new : Option B) → drop i xs ≡ x ∷ drop (i + 1) xs → new ≡ option_or (find i (of x)) old
      → option_or (last_found find (i + 1) (map of (drop (i + 1) xs))) new ≡ option_or (last_found find i (map of (drop i xs))) old
  found_more of xs i x old new next is =
      let later : i + 1 ≡ suc i = omega arith in
      ap (option_or (last_found find (i + 1) (map of (drop (i + 1) xs)))) is
      ∙ sym (or_or (last_found find (i + 1) (map of (drop (i + 1) xs))) (find i (of x)) old)
      ∙ ap (λ n. option_or (option_or (last_found find n (map of (drop (i + 1) xs))) (find i (of x))) old) later
      ∙ ap (λ ys. option_or (last_found find i (map of ys)) old) (sym next)

abbrev pub defined : ℕ → ℕ → DefinedFunction
defined place count = record { place = place; parameters = count }

-- what is put in place of an earlier one
pub or_put : {A : Type 0} (b : Bool) (x : A) (old : Option A) → cond b (Some x) old ≡ option_or (cond b (Some x) None) old
or_put true x old = refl
or_put false x old = refl

-- nothing before others
pub none_before : (others : Result (List (List ℕ)) ReadFault) → rows_before [] others ≡ others
none_before (Ok others) = refl
none_before (Err fault) = refl

pub all_before : (some more : List (List ℕ)) (others : Result (List (List ℕ)) ReadFault) → rows_before (some ++ more) others ≡ rows_before some (rows_before more others)
all_before some more (Ok others) = ap Ok (append_assoc some more others)
all_before some more (Err fault) = refl

-- what stands before others doesn't refuse
pub refused_behind : (some : List (List ℕ)) (others : Result (List (List ℕ)) ReadFault) (fault : ReadFault) → rows_before some others ≡ Err fault → others ≡ Err fault
refused_behind some (Ok others) fault e = absurd (cc e)
refused_behind some (Err other) fault e = e

module _ (resolver : VariableResolver) where
  -- a row more
  pub row_goes : (e : Expression) (es : List Expression) (row : List ℕ) (some : List (List ℕ)) → places_of resolver (references_of e) ≡ Ok row → rows_before (some ++ row ∷ []) (rows_of resolver es) ≡ rows_before some (rows_of resolver (e ∷ es))
  row_goes e es row some is = all_before some (row ∷ []) (rows_of resolver es) ∙ ap (λ r. rows_before some (row_before r (rows_of resolver es))) (sym is)

  -- a row that is refused
  pub row_stops : (e : Expression) (es : List Expression) (some before : List (List ℕ)) (all : Result (List (List ℕ)) ReadFault) (fault : ReadFault) → places_of resolver (references_of e) ≡ Err fault
      → rows_before some (rows_of resolver (e ∷ es)) ≡ rows_before before all → all ≡ Err fault
  row_stops e es some before all fault is so = refused_behind before all fault (sym so ∙ ap (λ r. rows_before some (row_before r (rows_of resolver es))) is)

  rows_case : (r : Result (List ℕ) ReadFault) (one both two : Result (List (List ℕ)) ReadFault) (before some : List (List ℕ)) → ((earlier : List (List ℕ)) → rows_before earlier one ≡ Ok some → rows_before earlier both ≡ rows_before some two)
      → rows_before before (row_before r one) ≡ Ok some → rows_before before (row_before r both) ≡ rows_before some two
  rows_case (Ok row) one both two before some more e = sym (all_before before (row ∷ []) both) ∙ more (before ++ row ∷ []) (all_before before (row ∷ []) one ∙ e)
  rows_case (Err fault) one both two before some more e = absurd (cc e)

  -- the rows of the first, and behind them those of the others
  pub both_rows : (one two : List Expression) (before some : List (List ℕ)) → rows_before before (rows_of resolver one) ≡ Ok some → rows_before before (rows_of resolver (one ++ two)) ≡ rows_before some (rows_of resolver two)
  both_rows [] two before some e =
      let same : before ++ [] ≡ some = cc e in
      ap (λ rows. rows_before rows (rows_of resolver two)) (sym (append-nil before) ∙ same)
  both_rows (x ∷ one) two before some e =
      rows_case (places_of resolver (references_of x)) (rows_of resolver one) (rows_of resolver (one ++ two)) (rows_of resolver two) before some (λ earlier. both_rows one two earlier some) e

  refused_case : (r : Result (List ℕ) ReadFault) (one both : Result (List (List ℕ)) ReadFault) (fault : ReadFault) → (one ≡ Err fault → both ≡ Err fault) → row_before r one ≡ Err fault → row_before r both ≡ Err fault
  refused_case (Ok row) one both fault more e = ap (rows_before (row ∷ [])) (more (refused_behind (row ∷ []) one fault e))
  refused_case (Err other) one both fault more e = e

  -- a refusal among the first is that of all
  pub first_refused : (one two : List Expression) (fault : ReadFault) → rows_of resolver one ≡ Err fault → rows_of resolver (one ++ two) ≡ Err fault
  first_refused [] two fault e = absurd (cc e)
  first_refused (x ∷ one) two fault e = refused_case (places_of resolver (references_of x)) (rows_of resolver one) (rows_of resolver (one ++ two)) fault (first_refused one two fault) e

  -- rows that begin with none
  pub rows_resolved : (one two : List Expression) (none some : List (List ℕ)) → none ≡ [] → rows_before none (rows_of resolver one) ≡ Ok some → rows_of resolver (one ++ two) ≡ rows_before some (rows_of resolver two)
  rows_resolved one two none some e so = sym (ap (λ rows. rows_before rows (rows_of resolver (one ++ two))) e ∙ none_before (rows_of resolver (one ++ two))) ∙ both_rows one two none some so
