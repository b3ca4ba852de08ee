-- Where modules stand among those that are open, and what their recipes rest on.
use Rattle.std.proofs.Common.{◌≡◌, ◌≢◌, ◌⊎◌, ◌<◌, ◌≤◌, ◌+◌, ◌∙◌, inl, inr, ℕ, zero, suc, nat_eq, Bool, true, false, List, [], ◌∷◌, ◌++◌, drop, length, get_or, set, replicate, Option, Some, None, refl, sym, ap, subst, arith, append_assoc, append-nil}
use Rattle.std.specs.Prelude.{if◌then◌else◌, slice_get}
use Rattle.std.proofs.Math.ListN.{drop_of_length-le}
use Rattle.std.proofs.Math.Seq.{drop-cons}
use Rattle.std.proofs.lemmas.Bool.Decides.{eqb_tells}
use Rattle.std.proofs.lemmas.List.{get_or-replicate, get_or-set_same, get_or-map, get_or-set_other, length-map, length-replicate, length-set}
use Rattle.std.proofs.lemmas.Option.{slice_get_read, slice_get_within}
use Rattle.evaluate_context.specs.declared.context.ExecutionContext.{ExecutionContext}
use Rattle.evaluate_context.specs.declared.context.ModuleView.{ModuleView}
use Rattle.analyze_calls.specs.Opening.{OpenedRow, opened_row, opened_rows}
use Rattle.analyze_calls.specs.declared.opening.Opened.{Opened}
use Rattle.run_tasks.specs.Opened.{AreContexts, ArePositions, IsContextAt, closed, last_opened, none_left, one_more, position_from}
use Rattle.run_tasks.specs.declared.task.TaskContext.{TaskContext}

module _ (rows : List OpenedRow) (count : ℕ) where
  -- each module's position is the last one of those that were looked at, and is to be the last of all
  pub record AreSoFar (at : ℕ) (positions : List ℕ) : Type 0 where
    pub many : length positions ≡ count
    pub each : (place d : ℕ) → place < count → position_from at place (get_or positions place d) (drop at rows) ≡ position_from 0 place (length rows) rows

  pub none_so_far : (positions : List ℕ) → positions ≡ replicate count (length rows) → AreSoFar 0 positions
  none_so_far positions is = record {
    many = ap length is ∙ length-replicate count (length rows);
    each = λ place d lt. ap (λ ps. position_from 0 place (get_or ps place d) rows) is ∙ ap (λ found. position_from 0 place found rows) (get_or-replicate count place (length rows) d lt);
  }

  -- one row more is looked at
  one_row : (at place : ℕ) (row : OpenedRow) (found : ℕ) → at < length rows → row ≡ get_or rows at row → position_from at place found (drop at rows) ≡ position_from (suc at) place (if nat_eq row.place place then at else found) (drop (suc at) rows)
  one_row at place row found lt is = ap (position_from at place found) (drop-cons rows at row lt ∙ ap (λ r. r ∷ drop (suc at) rows) (sym is))

  chosen : (row : OpenedRow) (place at found : ℕ) (b : Bool) → nat_eq row.place place ≡ b → (if nat_eq row.place place then at else found) ≡ (if b then at else found)
  chosen row place at found b e = ap (λ t. if t then at else found) e

  next_place : (at : ℕ) (positions : List ℕ) → AreSoFar (suc at) positions → AreSoFar (at + 1) positions
  next_place at positions far = subst (λ n. AreSoFar n positions) (let n : suc at ≡ at + 1 = omega arith in n) far

  -- its module has a position
  pub one_so_far : (at : ℕ) (row : OpenedRow) (positions : List ℕ) → at < length rows → row ≡ get_or rows at row → row.place < length positions → AreSoFar at positions → AreSoFar (at + 1) (set positions row.place at)
  one_so_far at row positions lt is within far = next_place at (set positions row.place at) (record {
    many = length-set positions row.place at ∙ far.many;
    each = λ place d less. each place d less (eqb_tells place row.place);
  })
    where
      each : (place d : ℕ) → place < count → ((nat_eq place row.place ≡ true) × (place ≡ row.place)) ⊎ ((nat_eq place row.place ≡ false) × (place ≢ row.place))
          → position_from (suc at) place (get_or (set positions row.place at) place d) (drop (suc at) rows) ≡ position_from 0 place (length rows) rows
      each place d less (inl e) =
          let here : get_or (set positions row.place at) place d ≡ at = ap (λ p. get_or (set positions row.place at) p d) e.1 ∙ get_or-set_same positions row.place at d within in
          let same : nat_eq row.place place ≡ true = ap (λ p. nat_eq p place) (sym e.1) ∙ ap (λ p. nat_eq place p) e.1 ∙ e.0 in
          ap (λ found. position_from (suc at) place found (drop (suc at) rows)) (here ∙ sym (chosen row place at (get_or positions place d) true same))
          ∙ sym (one_row at place row (get_or positions place d) lt is) ∙ far.each place d less
      each place d less (inr e) =
          let other = e.1 in
          let here : get_or (set positions row.place at) place d ≡ get_or positions place d = get_or-set_other positions row.place place at d other in
          ap (λ found. position_from (suc at) place found (drop (suc at) rows)) (here ∙ sym (chosen row place at (get_or positions place d) false (unequal (eqb_tells row.place place) other)))
          ∙ sym (one_row at place row (get_or positions place d) lt is) ∙ far.each place d less
        where
          unequal : {a b : ℕ} → ((nat_eq a b ≡ true) × (a ≡ b)) ⊎ ((nat_eq a b ≡ false) × (a ≢ b)) → b ≢ a → nat_eq a b ≡ false
          unequal (inl f) not = absurd (not (sym f.1))
          unequal (inr f) not = f.0

  -- or it has none
  pub passed_so_far : (at : ℕ) (row : OpenedRow) (positions : List ℕ) → at < length rows → row ≡ get_or rows at row → length positions ≤ row.place → AreSoFar at positions → AreSoFar (at + 1) positions
  passed_so_far at row positions lt is beyond far = next_place at positions (record {
    many = far.many;
    each = λ place d less. (let many = far.many in
        ap (λ found. position_from (suc at) place found (drop (suc at) rows)) (sym (chosen row place at (get_or positions place d) false (apart (eqb_tells row.place place) (λ e. let same = e in absurd (omega (arith, less, beyond, many, same))))))
        ∙ sym (one_row at place row (get_or positions place d) lt is) ∙ far.each place d less);
  })
    where
      apart : {a b : ℕ} → ((nat_eq a b ≡ true) × (a ≡ b)) ⊎ ((nat_eq a b ≡ false) × (a ≢ b)) → (a ≡ b → ⊥) → nat_eq a b ≡ false
      apart (inl f) not = absurd (not f.1)
      apart (inr f) not = f.0

  -- all are looked at
  pub all_so_far : (at : ℕ) (positions : List ℕ) → drop at rows ≡ [] → AreSoFar at positions → ArePositions rows count positions
  all_so_far at positions none far = record {
    many = far.many;
    each = λ place d lt. sym (ap (position_from at place (get_or positions place d)) none) ∙ far.each place d lt;
  }

-- ---- contexts

-- a position is that of the module's last row, or none has it
pub data StandsAt (rows : List OpenedRow) (found : ℕ) (last : Option OpenedRow) : Type 0 where
  nowhere : found ≡ length rows → last ≡ None → StandsAt rows found last
  here : (row : OpenedRow) → slice_get rows found ≡ Some row → last ≡ Some row → StandsAt rows found last

stands_from : (rows : List OpenedRow) (place at found : ℕ) (last : Option OpenedRow) (others : List OpenedRow) → ((k : ℕ) (r : OpenedRow) → slice_get others k ≡ Some r → slice_get rows (at + k) ≡ Some r)
    → StandsAt rows found last → StandsAt rows (position_from at place found others) (last_opened place last others)
stands_from rows place at found last [] are stands = stands
stands_from rows place at found last (row ∷ others) are stands =
    stands_from rows place (suc at) (if nat_eq row.place place then at else found) (if nat_eq row.place place then Some row else last) others
    (λ k r e. subst (λ n. slice_get rows n ≡ Some r) (let n : at + suc k ≡ suc at + k = omega arith in n) (are (suc k) r e))
    (by_test (nat_eq row.place place))
  where
    first : slice_get rows at ≡ Some row
    first = subst (λ n. slice_get rows n ≡ Some row) (let n : at + 0 ≡ at = omega arith in n) (are 0 row refl)

    by_test : (b : Bool) → StandsAt rows (if b then at else found) (if b then Some row else last)
    by_test true = here row first refl
    by_test false = stands

pub stands_at : (rows : List OpenedRow) (place : ℕ) → StandsAt rows (position_from 0 place (length rows) rows) (last_opened place None rows)
stands_at rows place = stands_from rows place 0 (length rows) None rows (λ k r e. subst (λ n. slice_get rows n ≡ Some r) (let n : k ≡ 0 + k = omega arith in n) e) (nowhere refl refl)

-- an element within a list
one_there : {A : Type 0} (xs : List A) (place : ℕ) → place < length xs → (x : A) × (x ≡ get_or xs place x)
one_there [] place lt = absurd (omega (arith, lt))
one_there (x ∷ xs) zero lt = (x, refl)
one_there (x ∷ xs) (suc place) lt = one_there xs place (omega (arith, lt))

module _ (context : TaskContext) (rows : List OpenedRow) (modules : List ModuleView) where
  -- whatever the contexts of the modules from a place on are, all are these before those
  abbrev pub BeginWith : ℕ → List ExecutionContext → Type 0
  BeginWith place contexts = (later : List ExecutionContext) → AreContexts context rows place (drop place modules) later → AreContexts context rows 0 modules (contexts ++ later)

  next_module : (place : ℕ) (contexts : List ExecutionContext) → BeginWith (suc place) contexts → BeginWith (place + 1) contexts
  next_module place contexts begin = subst (λ n. BeginWith n contexts) (let n : suc place ≡ place + 1 = omega arith in n) begin

  pub closed_here : (place : ℕ) (contexts : List ExecutionContext) → place < length modules → length rows ≤ position_from 0 place (length rows) rows
      → BeginWith place contexts → BeginWith (place + 1) contexts
  closed_here place contexts lt beyond begin = next_module place contexts (λ later are.
      let view = one_there modules place lt in
      begin later (subst (λ views. AreContexts context rows place views later) (sym (drop-cons modules place view.0 lt ∙ ap (λ v. v ∷ drop (suc place) modules) (sym view.1))) (closed (none (stands_at rows place)) are)))
    where
      none : StandsAt rows (position_from 0 place (length rows) rows) (last_opened place None rows) → last_opened place None rows ≡ None
      none (nowhere at last) = last
      none (here row at last) = absurd (past at)
        where
          past : slice_get rows (position_from 0 place (length rows) rows) ≡ Some row → ⊥
          past at = let within = slice_get_within rows (position_from 0 place (length rows) rows) row at in omega (arith, within, beyond)

  pub one_here : (place : ℕ) (view : ModuleView) (row : OpenedRow) (it : ExecutionContext) (contexts : List ExecutionContext) → place < length modules → view ≡ get_or modules place view
      → slice_get rows (position_from 0 place (length rows) rows) ≡ Some row → IsContextAt context view row it → BeginWith place contexts → BeginWith (place + 1) (contexts ++ it ∷ [])
  one_here place view row it contexts lt is at of begin = next_module place (contexts ++ it ∷ []) (λ later are.
      subst (AreContexts context rows 0 modules) (sym (append_assoc contexts (it ∷ []) later))
      (begin (it ∷ later) (subst (λ views. AreContexts context rows place views (it ∷ later)) (sym (drop-cons modules place view lt ∙ ap (λ v. v ∷ drop (suc place) modules) (sym is))) (one_more (last (stands_at rows place)) of are))))
    where
      last : StandsAt rows (position_from 0 place (length rows) rows) (last_opened place None rows) → last_opened place None rows ≡ Some row
      last (nowhere past l) = absurd (let within = slice_get_within rows (position_from 0 place (length rows) rows) row at in omega (arith, within, past))
      last (here r at' l) = l ∙ sym at' ∙ at

  -- all modules are passed
  pub all_begin : (place : ℕ) (contexts : List ExecutionContext) → length modules ≤ place → BeginWith place contexts → AreContexts context rows 0 modules contexts
  all_begin place contexts past begin =
      subst (AreContexts context rows 0 modules) (append-nil contexts) (begin [] (subst (λ views. AreContexts context rows place views []) (sym (drop_of_length-le modules past)) none_left))

-- the row at a module's position
pub row_at : (rows : List OpenedRow) (positions : List ℕ) (count : ℕ) → ArePositions rows count positions → (place position : ℕ) → place < count → position ≡ get_or positions place position → position < length rows
    → (row : OpenedRow) → row ≡ get_or rows position row → slice_get rows (position_from 0 place (length rows) rows) ≡ Some row
row_at rows positions count are place position less is within row there =
    subst (λ n. slice_get rows n ≡ Some row) (is ∙ are.each place position less) (slice_get_read rows (length rows) position row refl within there)

-- a module without one
pub past_all : (rows : List OpenedRow) (positions : List ℕ) (count : ℕ) → ArePositions rows count positions → (place position : ℕ) → place < count → position ≡ get_or positions place position → length rows ≤ position
    → length rows ≤ position_from 0 place (length rows) rows
past_all rows positions count are place position less is past = subst (λ n. length rows ≤ n) (is ∙ are.each place position less) past

-- a row of what was opened
pub row_of_opened : (all : List Opened) (place : ℕ) (one : Opened) → place < length all → one ≡ get_or all place one → opened_row one ≡ get_or (opened_rows all) place (opened_row one)
row_of_opened all place one within is = ap opened_row is ∙ sym (get_or-map opened_row all place one (opened_row one) within)

pub as_many : (all : List Opened) → length (opened_rows all) ≡ length all
as_many all = length-map all opened_row
