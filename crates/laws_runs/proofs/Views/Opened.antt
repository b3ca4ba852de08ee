-- Numbers that are bound once variables are opened in their order.
use Rattle.std.proofs.Common.{◌≡◌, ◌⊎◌, inl, inr, refl, sym, ◌∙◌, ap, subst, Bool, true, false, cond, ◌==◌, List, [], ◌∷◌, Option, Some, None, ℕ, arith, true≢false}
use Rattle.std.specs.Prelude.{slice_get, Contains, IsSome, String}
use Rattle.std.specs.BTreeMap.{BTreeMap}
use Rattle.std.specs.Option.{option_or}
use Rattle.std.proofs.lemmas.Bool.Decides.{Decides-eqb}
use Rattle.std.proofs.lemmas.List.{length-map}
use Rattle.std.proofs.lemmas.Option.{slice_get_within}
use Rattle.just_host.specs.declared.entry.Entry.{Entry}
use Rattle.just_value.specs.Frames.{BoundRow, Rebinds, bound_in, found_in}
use Rattle.evaluate_context.specs.declared.context.AssignmentRef.{AssignmentRef}
use Rattle.evaluate_variables.specs.Opened.{before, framed, opening_reading, opening_stage, ordered, overridden}
use Rattle.meaning_dialogues.specs.Dialogue.{Reading}
use Rattle.meaning_dialogues.specs.Evaluation.{Stage}
use Rattle.meaning_dialogues.specs.Faults.{Fault}
use Rattle.meaning_evaluation.specs.Stages.Assigned.{Assigned, Assigns, all, assigned_of, opened, refused, row_of, skipped}
use Rattle.meaning_rules.proofs.Worlds.Places.{contains_at, contains_cases, contains_first, contains_later, contains_none}
use Rattle.laws_modules.proofs.Names.Found.{mapped_at, there_within}
use Rattle.laws_runs.specs.Views.Opened.{OpenedAreBound}
use Rattle.laws_runs.proofs.Views.Evaluated.{variable_within}
use Rattle.laws_runs.proofs.Views.Views.{language_found}

-- the variable at a place of the order is one of those in their order
in_order : (lent : List AssignmentRef) (order : List ℕ) (place : ℕ) (l : AssignmentRef) → Contains order place → slice_get lent place ≡ Some l → Contains (ordered lent order) (assigned_of l)
in_order lent [] place l c at = absurd (contains_none [] place refl c)
in_order lent (first ∷ order) place l c at = elim (contains_cases first order place c) [
  | inl same ↦ subst (λ a. Contains (before a (ordered lent order)) (assigned_of l)) (sym (ap (slice_get lent) same ∙ at)) (contains_first (assigned_of l) (ordered lent order))
  | inr later ↦ behind (slice_get lent first) (in_order lent order place l later at)
]
  where
    behind : (o : Option AssignmentRef) → Contains (ordered lent order) (assigned_of l) → Contains (before o (ordered lent order)) (assigned_of l)
    behind None c = c
    behind (Some other) c = contains_later (assigned_of other) (ordered lent order) (assigned_of l) c

module _ (outer : List (List BoundRow)) where
  abbrev IsBoundWith : List BoundRow → ℕ → Type 0
  IsBoundWith own number = IsSome (found_in (own ∷ outer) number)

  -- what was bound stays bound, and so is the number of the binding
  binds : (own next : List BoundRow) (row : BoundRow) → Rebinds own row next → (number : ℕ) → (number ≡ row.number) ⊎ IsBoundWith own number → IsBoundWith next number
  binds own next row r number h = subst (λ o. IsSome (option_or o (found_in outer number))) (sym (r number)) (by_test (number == row.number) refl h)
    where
      by_test : (b : Bool) → (number == row.number) ≡ b → (number ≡ row.number) ⊎ IsBoundWith own number → IsSome (option_or (cond b (Some row) (bound_in own number)) (found_in outer number))
      by_test true is h = refl
      by_test false is (inl same) = absurd (true≢false (sym ((Decides-eqb number row.number).1 same) ∙ is))
      by_test false is (inr found) = found

  module _ (stage_with : List BoundRow → Stage) (reading_with : List BoundRow → Reading) (export : Bool) (overrides : ℕ → Option (List ℕ)) (is_read : ℕ → Bool) where
    -- what is bound at the end: what was bound, and the variables that are read
    pub record AreBound (variables : List Assigned) (own last : List BoundRow) : Type 0 where
      pub kept : (number : ℕ) → IsBoundWith own number → IsBoundWith last number
      pub each : (a : Assigned) → Contains variables a → is_read a.number ≡ true → IsBoundWith last a.number

    one_more : (a : Assigned) (more : List Assigned) (own next last : List BoundRow) → ((number : ℕ) → IsBoundWith own number → IsBoundWith next number) → (is_read a.number ≡ true → IsBoundWith next a.number) → AreBound more next last → AreBound (a ∷ more) own last
    one_more a more own next last kept first rest = record {
      kept = λ number h. rest.kept number (kept number h);
      each = λ b c read. elim (contains_cases a more b c) [
        | inl same ↦ subst (λ (x : Assigned). IsBoundWith last x.number) same (rest.kept a.number (first (ap (λ (x : Assigned). is_read x.number) same ∙ read)))
        | inr later ↦ rest.each b later read
      ];
    }

    all_bound : {list : List Assigned} {own last : List BoundRow} {old new : List Entry} {fault : Option Fault} → Assigns outer stage_with reading_with export overrides is_read list own old last new fault → fault ≡ None → AreBound list own last
    all_bound all e = record { kept = λ number h. h; each = λ a c read. absurd (contains_none [] a refl c) }
    all_bound (skipped {a = a} {more = more} {own = own} {last = last} reason rest) e =
        one_more a more own own last (λ number h. h) (λ read. elim reason [ inl is ↦ absurd (true≢false (sym read ∙ is)) | inr h ↦ h ]) (all_bound rest e)
    all_bound (opened {a = a} {more = more} {own = own} {next = next} {last = last} value read none goes rebinds sorted rest) e =
        one_more a more own next last (λ number h. binds own next (row_of export a value) rebinds number (inr h)) (λ is. binds own next (row_of export a value) rebinds a.number (inl refl)) (all_bound rest e)
    all_bound (refused read none goes) e = absurd (cc e)

-- ---- the law

pub opened_are_bound : {A : Type 0} (overrides : BTreeMap ℕ (String A)) → OpenedAreBound overrides
opened_are_bound overrides compilation variables are k context seen language is_read old new frames opens number h =
    let lists_within = slice_get_within variables.lists.items k seen.lists seen.lists_there in
    let many = are.of.reads.many in
    let reads = there_within variables.reads.items k (omega (arith, lists_within, many)) in
    let r = are.of.reads.each k reads.0 reads.1 seen.lists seen.lists_there in
    let order_is = are.of.orders.each k seen.order seen.order_there seen.lists reads.0 seen.lists_there reads.1 in
    let outer = context.scope.now.own ∷ context.scope.now.outer in
    let bound = all_bound outer (λ own. opening_stage context (framed outer own)) (λ own. opening_reading (framed outer own)) context.module.now.settings.now.export (overridden context.overrides.now) is_read opens.1 refl in
    subst (λ others. IsSome (found_in (frames.own ∷ others) number)) (sym opens.0)
    (elim h [
      | inl lt ↦ bound.kept number (language_found context.scope.now language number lt)
      | inr v ↦
          let l = mapped_at (λ (lent : AssignmentRef). lent.assignment.now.number) seen.lists.assignments.items v.place number v.here in
          let within = slice_get_within seen.lists.assignments.items v.place l.0 l.1 in
          let rows_many = length-map reads.0.graph.items (λ row. row.items) in
          let there = variable_within overrides seen.lists reads.0 r v.place number v.here in
          let b = order_is.complete v.place within (omega (arith, rows_many, there)) in
          let listed = in_order seen.lists.assignments.items seen.order.items v.place l.0 (contains_at seen.order.items b.at v.place b.found) l.1 in
          let seen_order = subst (λ order. Contains (ordered seen.lists.assignments.items order) (assigned_of l.0)) (sym seen.evaluation_order) listed in
          let seen_all = subst (λ lent. Contains (ordered lent context.module.now.evaluation_order.now) (assigned_of l.0)) (sym seen.assignments) seen_order in
          subst (λ n. IsSome (found_in (frames.own ∷ context.scope.now.own ∷ context.scope.now.outer) n)) l.2 (bound.each (assigned_of l.0) seen_all (ap is_read l.2 ∙ v.read))
    ])
