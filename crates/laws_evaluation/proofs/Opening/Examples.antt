-- Two variables, the second of which reads the first: what is said of openings and of constants is true of them.
use Rattle.std.proofs.Common.{arith, Bool, Ok, if◌then◌else◌, Result, Err, ◌≡◌, ◌⊎◌, inl, inr, ⊎_elim, ◌==◌, ℕ, true, false, cond, List, [], ◌∷◌, ◌++◌, Option, Some, None, refl, sym, subst}
use Rattle.std.proofs.lemmas.Bool.{cases_eq}
use Rattle.std.proofs.lemmas.Bool.Decides.{nat_tests}
use Rattle.std.specs.List.Sorted.{IsStrictlySortedBy}
use Rattle.just_text.specs.declared.token_kind.TokenKind.TheVariants.{Identifier}
use Rattle.just_value.specs.Frames.{BoundRow}
use Rattle.meaning_dialogues.specs.Faults.{Fault, not_constant, a_variable, internal}
use Rattle.meaning_dialogues.specs.Dialogue.{Dialogue, Reading, Variable}
use Rattle.meaning_dialogues.specs.Evaluation.{Value, or_fault, dialogue}
use Rattle.meaning_dialogues.specs.Meaning.{QuestionAnswers}
use Rattle.meaning_dialogues.specs.Calls.{Frame, empty, bound, const_stage, reading_in_frames}
use Rattle.meaning_dialogues.specs.Terms.{Term, literal, variable}
use Rattle.meaning_evaluation.specs.Stages.Assigned.{Assigned, Assigns, Settles, settles_to, all_settled, all, opened, row_of}
use Rattle.laws_evaluation.specs.Opening.Opened.{ReadsOnly, Means, MeansAs, of_number}
use Rattle.laws_evaluation.specs.Opening.Settled.{ConstantsAreRead, CanSettle, AllCanSettle}
use Rattle.laws_evaluation.specs.Opening.Meant.{HoldsMeant, IsThere, AreOrdered}
use Rattle.laws_evaluation.proofs.Opening.Constants.{constants_mean}
use Rattle.laws_evaluation.proofs.Opening.Sides.{frames_read}
use Rattle.laws_evaluation.proofs.Opening.Unfolded.{opened_means}

abbrev assigned : ℕ → Term → Assigned
assigned n term = record { name = record { column = 0; kind = Identifier; length = 1; line = 0; offset = 0; path = []; src = [] }; number = n; export = false; value = term }

-- `a := 'x'` and `b := a`, with the numbers 5 and 6
abbrev first : Assigned
first = assigned 5 (literal (120 ∷ []) (39 ∷ 120 ∷ 39 ∷ []))

abbrev second : Assigned
second = assigned 6 (variable (97 ∷ []) (Some 5))

abbrev names : ℕ → List ℕ
names n = cond (n == 5) (97 ∷ []) (98 ∷ [])

abbrev by_number : Option ℕ → Option (Dialogue Value)
by_number None = None
by_number (Some n) = cond (n == 5) (Some (dialogue (const_stage false) first.value)) (cond (n == 6) (Some (dialogue (const_stage false) second.value)) None)

abbrev right_side : Variable → Option (Dialogue Value)
right_side x = by_number x.number

abbrev reading : List BoundRow → Reading
reading own = reading_in_frames (λ number. false) (record { own = own; outer = [] }) (record { own = own; outer = [] })

abbrev Leads : List Assigned → List BoundRow → List BoundRow → Type 0
Leads variables own last = Assigns [] (λ own. const_stage false) reading false (λ number. None) (λ number. true) variables own [] last [] None

which : (earlier later : List Assigned) (a : Assigned) → first ∷ second ∷ [] ≡ earlier ++ a ∷ later → ((earlier ≡ []) × (a ≡ first)) ⊎ ((earlier ≡ first ∷ []) × (a ≡ second))
which [] later a e = inl (refl, cc)
which (x ∷ []) later a e = let f : first ∷ second ∷ [] ≡ x ∷ a ∷ later = e in inr (cc, cc)
which (x ∷ y ∷ []) later a e = let f : first ∷ second ∷ [] ≡ x ∷ y ∷ a ∷ later = e in absurd (cc)
which (x ∷ y ∷ z ∷ zs) later a e = let f : first ∷ second ∷ [] ≡ x ∷ y ∷ z ∷ (zs ++ a ∷ later) = e in absurd (cc)

module _ (answers : QuestionAnswers) where
  abbrev MeansSide : Assigned → Type 0
  MeansSide a = MeansAs right_side answers (of_number names a.number) (dialogue (const_stage false) a.value)

  abbrev ReadsThere : List Assigned → Assigned → Type 0
  ReadsThere earlier a = ReadsOnly (λ place x. IsThere [] right_side answers names [] (λ number. true) earlier x) (dialogue (const_stage false) a.value)

  first_side : MeansSide first
  first_side = record { side = dialogue (const_stage false) first.value; is = refl; alike = λ n. refl }

  second_side : MeansSide second
  second_side = record { side = dialogue (const_stage false) second.value; is = refl; alike = λ n. refl }

  second_reads : ReadsThere (first ∷ []) second
  second_reads = (record { number = 5; is = refl; there = inl (inl refl, record { read = refl; unbound = refl }) }, λ value. tt)

  ordered : AreOrdered [] (λ own. const_stage false) reading false (λ number. None) (λ number. true) right_side answers names [] [] (first ∷ second ∷ [])
  ordered = record {
    means = λ earlier later a frame from o before. ⊎_elim
        (λ h. subst MeansSide (sym h.1) first_side)
        (λ h. subst MeansSide (sym h.1) second_side)
        (which earlier later a o.order);
    reads = λ earlier later a frame from o before. ⊎_elim
        (λ h. subst (ReadsThere earlier) (sym h.1) tt)
        (λ h. subst (ReadsThere earlier) (sym h.1) (subst (λ l. ReadsThere l second) (sym h.0) second_reads))
        (which earlier later a o.order);
  }

  abbrev value : Value
  value = (120 ∷ []) ∷ []

  opening : Leads (first ∷ second ∷ []) [] (row_of false first value ∷ row_of false second value ∷ [])
  unfolding IsStrictlySortedBy
  opening =
      opened {next = row_of false first value ∷ []} {mid = []} value refl refl (refl, refl) (λ n. refl) (tt, tt)
      (opened {next = row_of false first value ∷ row_of false second value ∷ []} {mid = []} value refl refl (refl, refl) (λ n. grind (arith, nat_tests)) ((refl, tt), (tt, tt)) all)

  -- `b` holds what it means
  pub second_means : HoldsMeant [] right_side answers names (row_of false first value ∷ row_of false second value ∷ []) 6
  second_means =
      opened_means [] (λ own. const_stage false) reading false (λ number. None) (λ number. true) right_side answers names (frames_read [] names) (first ∷ second ∷ []) [] (row_of false first value ∷ row_of false second value ∷ []) [] [] ordered
      (record { piece = []; entries = refl; agrees = tt }) opening 6 (inr (inl refl)) (record { read = refl; unbound = refl })

-- what is read of a variable by the constants so far
abbrev read_one : Frame → (ℕ → Bool) → Option ℕ → Result Value Fault
read_one frame excluded None = Err (internal [])
read_one frame excluded (Some n) = if excluded n then Err (not_constant (a_variable [])) else or_fault (frame n) (internal [])

abbrev reading_constants : Frame → (ℕ → Bool) → Reading
reading_constants frame excluded place x = read_one frame excluded x.number

abbrev none_excluded : ℕ → Bool
none_excluded n = false

abbrev text : Value
text = (120 ∷ []) ∷ []

others : (frame : Frame) (m : ℕ) (n : ℕ) → (n ≡ m) ⊎ (bound frame m text n ≡ frame n)
others frame m n = ⊎_elim (λ e. inl e) (λ ne. inr (grind (arith, nat_tests))) (cases_eq n m)

settling_both : Settles false reading_constants (λ number. None) (λ number. true) (first ∷ second ∷ []) empty none_excluded (bound (bound empty 5 text) 6 text) none_excluded None
settling_both = settles_to {next = bound empty 5 text} {value = text} refl refl refl (others empty 5) (settles_to {next = bound (bound empty 5 text) 6 text} {value = text} refl refl refl (others (bound empty 5 text) 6) all_settled)

constants_read : ConstantsAreRead reading_constants empty names
constants_read = record { read = λ frame excluded place n value e. at (excluded n) (frame n) value e }
  where
    at : (b : Bool) (o : Option Value) (value : Value) → (if b then Err (not_constant (a_variable [])) else or_fault o (internal [])) ≡ Ok value → (o ≡ Some value) ⊎ (None ≡ Some value)
    at true o value e = absurd (cc)
    at false None value e = absurd (cc)
    at false (Some v) value e = inl (cc)

module _ (answers : QuestionAnswers) where
  both_settle : AllCanSettle right_side answers names false (λ number. None) (λ number. true) empty (first ∷ second ∷ [])
  both_settle =
      let one : CanSettle right_side answers names false (λ number. None) empty first = record { stage = const_stage false; same_lists = refl; means = first_side answers; reads = tt } in
      let other : CanSettle right_side answers names false (λ number. None) empty second = record { stage = const_stage false; same_lists = refl; means = second_side answers; reads = (record { number = 5; is = refl; means = λ value e. absurd (cc) }, λ value. tt) } in
      (λ read. one, (λ read. other, tt))

  -- as a constant `b` has what it means
  pub second_constant : Means right_side answers (of_number names 6) (Ok text)
  second_constant = constants_mean false reading_constants (λ number. None) (λ number. true) right_side answers names empty constants_read both_settle (λ n value e. absurd (cc)) settling_both 6 text refl
