-- From each frame variables can be assigned to an end.
use Rattle.std.proofs.Common.{◌≡◌, ℕ, ◌⊎◌, ◌<◌, ◌==◌, Bool, true, false, cond, List, [], ◌∷◌, ◌++◌, map, Option, Some, None, Result, Ok, Err, inl, inr, refl, sym, subst, ap, ◌∙◌, append_assoc, append-nil, arith}
use Rattle.std.specs.Prelude.{IsSome}
use Rattle.std.specs.List.{AllByRecursion}
use Rattle.std.specs.List.Sorted.{IsStrictlySortedBy}
use Rattle.std.specs.Cmp.{nat_cmp_is}
use Rattle.std.specs.Ordering.{nat_cmp}
use Rattle.std.specs.declared.cmp.Ordering.{Ordering}
use Rattle.std.specs.declared.cmp.Ordering.TheVariants.{Less, Equal, Greater}
use Rattle.std.proofs.lemmas.Bool.Decides.{nat_tests}
use Rattle.std.proofs.lemmas.Cmp.{ranked}
use Rattle.just_host.specs.declared.entry.Entry.{Entry}
use Rattle.just_value.specs.Frames.{BoundRow, ByNumber, Rebinds, bound_in, found_in}
use Rattle.meaning_dialogues.specs.Faults.{Fault}
use Rattle.meaning_dialogues.specs.Dialogue.{Begins, DialogueGoes, Reading}
use Rattle.meaning_dialogues.specs.Evaluation.{Value, Stage}
use Rattle.meaning_dialogues.proofs.Dialogues.{begins_here}
use Rattle.meaning_evaluation.specs.Stages.Assigned.{Assigned, Assigns, BeginsAssigning, all, skipped, opened, refused, row_of, assigned_dialogue}

-- ---- a frame with one binding more

abbrev placed : Ordering → BoundRow → BoundRow → List BoundRow → List BoundRow → List BoundRow
placed Less b row rows others = b ∷ row ∷ rows
placed Equal b row rows others = b ∷ rows
placed Greater b row rows others = row ∷ others

-- the binding at its place by its number
abbrev put : BoundRow → List BoundRow → List BoundRow
put b [] = b ∷ []
put b (row ∷ rows) = placed (nat_cmp b.number row.number) b row rows (put b rows)

-- a frame by its numbers
abbrev arranged : List BoundRow → List BoundRow
arranged [] = []
arranged (row ∷ rows) = put row (arranged rows)

put_binds : (b : BoundRow) (rows : List BoundRow) → Rebinds rows b (put b rows)
put_binds b [] n = refl
put_binds b (row ∷ rows) n = by_order (nat_cmp b.number row.number) refl (put_binds b rows n)
  where
    by_order : (o : Ordering) → o ≡ nat_cmp b.number row.number → bound_in (put b rows) n ≡ cond (n == b.number) (Some b) (bound_in rows n)
        → bound_in (placed o b row rows (put b rows)) n ≡ cond (n == b.number) (Some b) (cond (n == row.number) (Some row) (bound_in rows n))
    by_order Less e others = refl
    by_order Equal e others = let same = ranked b.number row.number Equal e in grind (arith, nat_tests, same)
    by_order Greater e others = let after = ranked b.number row.number Greater e in grind (arith, nat_tests, after, others)

arranged_alike : (rows : List BoundRow) (n : ℕ) → bound_in (arranged rows) n ≡ bound_in rows n
arranged_alike [] n = refl
arranged_alike (row ∷ rows) n = put_binds row (arranged rows) n ∙ ap (λ o. cond (n == row.number) (Some row) o) (arranged_alike rows n)

abbrev Below : ℕ → List BoundRow → Type 0
Below number rows = AllByRecursion (λ k. nat_cmp number k ≡ Less) (map (λ row. row.number) rows)

put_below : (number : ℕ) (b : BoundRow) (rows : List BoundRow) → nat_cmp number b.number ≡ Less → Below number rows → Below number (put b rows)
put_below number b [] h below = (h, tt)
put_below number b (row ∷ rows) h below = by_order (nat_cmp b.number row.number) (put_below number b rows h below.1)
  where
    by_order : (o : Ordering) → Below number (put b rows) → Below number (placed o b row rows (put b rows))
    by_order Less others = (h, below)
    by_order Equal others = (h, below.1)
    by_order Greater others = (below.0, others)

-- what is below a number is below all that it is below
below_all : (low high : ℕ) (rows : List BoundRow) → low < high → Below high rows → Below low rows
below_all low high [] h below = tt
below_all low high (row ∷ rows) h below =
    let next = ranked high row.number Less (sym below.0) in
    (sym (nat_cmp_is low row.number Less (omega (arith, h, next))), below_all low high rows h below.1)

put_sorted : (b : BoundRow) (rows : List BoundRow) → ByNumber rows → ByNumber (put b rows)
unfolding IsStrictlySortedBy
put_sorted b [] h = (tt, tt)
put_sorted b (row ∷ rows) h = by_order (nat_cmp b.number row.number) refl (put_sorted b rows h.1)
  where
    by_order : (o : Ordering) → o ≡ nat_cmp b.number row.number → ByNumber (put b rows) → ByNumber (placed o b row rows (put b rows))
    by_order Less e others = ((sym e, below_all b.number row.number rows (ranked b.number row.number Less e) h.0), h)
    by_order Equal e others = (subst (λ n. Below n rows) (sym (ranked b.number row.number Equal e)) h.0, h.1)
    by_order Greater e others = (put_below row.number b rows (sym (nat_cmp_is row.number b.number Less (ranked b.number row.number Greater e))) h.0, others)

arranged_sorted : (rows : List BoundRow) → ByNumber (arranged rows)
unfolding IsStrictlySortedBy
arranged_sorted [] = tt
arranged_sorted (row ∷ rows) = put_sorted row (arranged rows) (arranged_sorted rows)

-- for each frame and binding there is a frame that has both, by their numbers
pub with_binding : (own : List BoundRow) (b : BoundRow) → (next : List BoundRow) × Rebinds own b next × ByNumber next
with_binding own b = (put b (arranged own), λ n. put_binds b (arranged own) n ∙ ap (λ o. cond (n == b.number) (Some b) o) (arranged_alike own n), put_sorted b (arranged own) (arranged_sorted own))

-- ---- variables in order

module _ (outer : List (List BoundRow)) (stage_with : List BoundRow → Stage) (reading_with : List BoundRow → Reading) (export : Bool) (overrides : ℕ → Option (List ℕ)) (is_read : ℕ → Bool) where
  abbrev BeginsAll : List Assigned → List BoundRow → List Entry → List Entry → Type 0
  BeginsAll = BeginsAssigning outer stage_with reading_with export overrides is_read

  -- what variables record to their end is a beginning
  pub assigns_begins : {variables : List Assigned} {own last : List BoundRow} {old new : List Entry} {fault : Option Fault} → Assigns outer stage_with reading_with export overrides is_read variables own old last new fault → BeginsAll variables own old new
  assigns_begins {variables} {own} {last} {old} {new} {fault} h = record {
    rest = [];
    last = last;
    fault = fault;
    assigns = subst (λ n. Assigns outer stage_with reading_with export overrides is_read variables own old last n fault) (sym (append-nil new)) h;
  }

  -- what begins a variable's value begins the variable, and those behind it can go on from each frame
  pub value_begins : (a : Assigned) (more : List Assigned) (own : List BoundRow) (old new : List Entry) → is_read a.number ≡ true → found_in (own ∷ outer) a.number ≡ None → ((next : List BoundRow) (now : List Entry) → BeginsAll more next now now)
      → Begins (reading_with own) (assigned_dialogue (overrides a.number) (stage_with own) a.value) old new → BeginsAll (a ∷ more) own old new
  value_begins a more own old new read free each b = by_result b.result b.goes
    where
      by_result : (r : Result Value Fault) → DialogueGoes (reading_with own) (assigned_dialogue (overrides a.number) (stage_with own) a.value) old (new ++ b.rest) r → BeginsAll (a ∷ more) own old new
      by_result (Ok value) goes =
          let next = with_binding own (row_of export a value) in
          let others = each next.0 (new ++ b.rest) in
          record {
            rest = b.rest ++ others.rest;
            last = others.last;
            fault = others.fault;
            assigns = opened value read free goes next.1 next.2 (subst (λ n. Assigns outer stage_with reading_with export overrides is_read more next.0 (new ++ b.rest) others.last n others.fault) (append_assoc new b.rest others.rest) others.assigns);
          }
      by_result (Err fault) goes = record { rest = b.rest; last = own; fault = Some fault; assigns = refused read free goes }

  -- from each frame and record variables can go on to an end
  pub assigning_here : (variables : List Assigned) (own : List BoundRow) (old : List Entry) → BeginsAll variables own old old
  assigning_here [] own old = assigns_begins all
  assigning_here (a ∷ more) own old = by_read (is_read a.number) refl (λ next now. assigning_here more next now)
    where
      skip : (is_read a.number ≡ false) ⊎ IsSome (found_in (own ∷ outer) a.number) → BeginsAll more own old old → BeginsAll (a ∷ more) own old old
      skip why b = record { rest = b.rest; last = b.last; fault = b.fault; assigns = skipped why b.assigns }

      by_found : (found : Option BoundRow) → found_in (own ∷ outer) a.number ≡ found → is_read a.number ≡ true → ((next : List BoundRow) (now : List Entry) → BeginsAll more next now now) → BeginsAll (a ∷ more) own old old
      by_found (Some row) e read each = skip (inr (rw e refl)) (each own old)
      by_found None e read each = value_begins a more own old old read e each (begins_here (reading_with own) (assigned_dialogue (overrides a.number) (stage_with own) a.value) old)

      by_read : (read : Bool) → is_read a.number ≡ read → ((next : List BoundRow) (now : List Entry) → BeginsAll more next now now) → BeginsAll (a ∷ more) own old old
      by_read false e each = skip (inl e) (each own old)
      by_read true e each = by_found (found_in (own ∷ outer) a.number) refl e each
