-- No opening of a module ends with `internal` whose variables are opened after what they read.
use Rattle.std.proofs.Common.{◌≡◌, ℕ, List, ◌∷◌, Bool, true, false, Option, Some, None, Err, ◌⊎◌, ⊎_elim, refl, eq-eqb, arith}
use Rattle.std.proofs.lemmas.Bool.{cases_eq}
use Rattle.std.proofs.lemmas.Bool.Decides.{nat_tests}
use Rattle.std.specs.Prelude.{IsSome}
use Rattle.std.specs.Option.{option_or}
use Rattle.just_host.specs.declared.entry.Entry.{Entry}
use Rattle.just_value.specs.Frames.{BoundRow, Frames, bound_in, found_in, Rebinds}
use Rattle.evaluate_context.specs.Surroundings.{Surroundings, Standing}
use Rattle.meaning_dialogues.specs.Faults.{Fault}
use Rattle.meaning_dialogues.specs.Dialogue.{DialogueGoes, Reading}
use Rattle.meaning_dialogues.specs.Evaluation.{Stage, dialogue}
use Rattle.meaning_dialogues.specs.Terms.{Term}
use Rattle.meaning_dialogues.specs.Calls.{DefinedFunction, reading_in_frames}
use Rattle.meaning_dialogues.proofs.Soundness.{Any}
use Rattle.meaning_evaluation.specs.Stages.Assigned.{Assigned, Assigns, all, skipped, opened, refused, row_of, assigned_dialogue}
use Rattle.meaning_evaluation.specs.Stages.Stages.{run_stage, calls_left}
use Rattle.meaning_dialogues.specs.Internal.{is_internal}
use Rattle.laws_evaluation.specs.Soundness.Known.{IsBoundIn, IsBoundAt}
use Rattle.laws_evaluation.specs.Soundness.Opening.{IsNumbered, NoInternal, SideKnown, With, InOrder}
use Rattle.laws_evaluation.proofs.Soundness.Frames.{names_read, in_frames}

first_some : (o p : Option BoundRow) → IsSome o → IsSome (option_or o p)
first_some (Some b) p h = refl
first_some None p h = absurd (cc)

same_first : (o p q : Option BoundRow) → o ≡ p → IsSome (option_or p q) → IsSome (option_or o q)
same_first o p q e h = rw e h

module _ (m : Surroundings) (functions : List DefinedFunction) (standing in_body : List BoundRow → Standing) (n : ℕ) (outer : List (List BoundRow)) (export : Bool) (overrides : ℕ → Option (List ℕ)) (is_read : ℕ → Bool) where
  abbrev framed : List BoundRow → Frames
  framed own = record { own = own; outer = outer }

  abbrev stage_with : List BoundRow → Stage
  stage_with own = run_stage m functions (standing own) (calls_left m functions (in_body own) n)

  abbrev reading_with : List BoundRow → Reading
  reading_with own = reading_in_frames (λ number. false) (framed own) (framed own)

  -- such numbers are bound
  abbrev Holds : (ℕ → Type 0) → List BoundRow → Type 0
  Holds N own = (number : ℕ) → N number → IsSome (found_in (own ∷ outer) number)

  numbered_bound : (N : ℕ → Type 0) (own : List BoundRow) → Holds N own → (number : Option ℕ) → IsNumbered N number → IsBoundIn (framed own) number
  numbered_bound N own holds None h = absurd h
  numbered_bound N own holds (Some number) h = holds number h

  side_proper : (N : ℕ → Type 0) (own : List BoundRow) (o : Option (List ℕ)) (t : Term) (old new : List Entry) (fault : Fault) → Holds N own → (o ≡ None → SideKnown functions N t)
      → DialogueGoes (reading_with own) (assigned_dialogue o (stage_with own) t) old new (Err fault) → is_internal fault ≡ false
  side_proper N own (Some text) t old new fault holds known h = absurd (cc)
  side_proper N own None t old new fault holds known h =
      let k = known refl in
      in_frames Any (λ number. false) (framed own) (framed own) (dialogue (stage_with own) t) old new (Err fault)
      (names_read m functions (λ f. k.reached f ≡ true) (in_body own) (standing own) n (λ x. IsNumbered N x.number) k.bodies (IsBoundAt (framed own) (framed own)) (λ x. IsNumbered N x.number)
      (λ x i. numbered_bound N own holds x.number i) (λ x i. numbered_bound N own holds x.number i) t k.names) h

  holds_skipped : (N : ℕ → Type 0) (own : List BoundRow) (number : ℕ) → Holds N own → (is_read number ≡ false) ⊎ IsSome (found_in (own ∷ outer) number) → Holds (With overrides is_read number N) own
  holds_skipped N own number holds h k w = ⊎_elim (λ p. rw p.0 (⊎_elim (λ f. absurd (cc)) (λ s. s) h)) (λ i. holds k i) w

  holds_opened : (N : ℕ → Type 0) (own next : List BoundRow) (row : BoundRow) → Holds N own → Rebinds own row next → Holds (With overrides is_read row.number N) next
  holds_opened N own next row holds rebinds k w =
      let here : k ≡ row.number → IsSome (found_in (next ∷ outer) k) = λ e. first_some (bound_in next k) (found_in outer k) (let b : bound_in next k ≡ Some row = rw (rebinds k, eq-eqb k row.number e) refl in rw b refl) in
      ⊎_elim (λ p. here p.0)
      (λ i. ⊎_elim here (λ ne. same_first (bound_in next k) (bound_in own k) (found_in outer k) (let r = rebinds k in grind (arith, nat_tests)) (holds k i)) (cases_eq k row.number)) w

  -- the opening of a module in a run doesn't end with `internal` where each variable names what is bound, or what is opened before it
  pub opening_proper : (N : ℕ → Type 0) {list : List Assigned} {own last : List BoundRow} {old new : List Entry} {fault : Option Fault} → Holds N own → InOrder overrides is_read (SideKnown functions) N list
      → Assigns outer stage_with reading_with export overrides is_read list own old last new fault → NoInternal fault
  opening_proper N holds order all = tt
  opening_proper N {list = a ∷ more} {own = own} holds order (skipped h rest) = opening_proper (With overrides is_read a.number N) (holds_skipped N own a.number holds h) order.1 rest
  opening_proper N {list = a ∷ more} {own = own} holds order (opened {next = next} value r u g b sorted rest) = opening_proper (With overrides is_read a.number N) (holds_opened N own next (row_of export a value) holds b) order.1 rest
  opening_proper N {list = a ∷ more} {own = own} {old = old} {new = new} holds order (refused {fault = fault} r u g) = side_proper N own (overrides a.number) a.value old new fault holds (order.0 r) g
