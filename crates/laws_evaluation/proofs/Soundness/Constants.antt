-- No constant ends with `internal` whose variables are bound, or no constants.
use Rattle.std.proofs.Common.{◌≡◌, ℕ, List, [], ◌∷◌, Bool, true, false, Option, Some, None, Result, Ok, Err, ◌⊎◌, inl, inr, ⊎_elim, refl, subst, ◌∙◌}
use Rattle.std.specs.Prelude.{IsSome}
use Rattle.just_host.specs.declared.entry.Entry.{Entry}
use Rattle.just_value.specs.Frames.{Frames}
use Rattle.meaning_dialogues.specs.Faults.{Fault, memory, assertion_failed, not_constant, empty_interpreter, list_in_text_place, list_operation, pattern_left_out, command_failed, function_failed, too_deep, empty_argument, value_count, no_parent, internal}
use Rattle.meaning_dialogues.specs.Dialogue.{Evaluates, Reading, Lookup, around, Variable}
use Rattle.meaning_dialogues.specs.Constants.{settled, constant}
use Rattle.meaning_dialogues.specs.Evaluation.{Value, dialogue}
use Rattle.meaning_dialogues.specs.Terms.{Term}
use Rattle.meaning_dialogues.specs.Calls.{Frame, const_stage, reading_in_frames}
use Rattle.meaning_dialogues.proofs.Soundness.{Each, Any}
use Rattle.meaning_evaluation.specs.Stages.Assigned.{Assigned, assigned_dialogue, Settles, all_settled, passed, settles_to, is_none, fails}
use Rattle.laws_evaluation.specs.Soundness.Endings.{NotInternal, Proper}
use Rattle.meaning_dialogues.specs.Internal.{is_internal}
use Rattle.laws_evaluation.specs.Soundness.Known.{IsReadIn, IsReadAt}
use Rattle.laws_evaluation.specs.Soundness.Opening.{IsNumbered, NoInternal, ConstantKnown, With, InOrder, ReadsProperly}
use Rattle.laws_evaluation.proofs.Soundness.Results.{comes_to, settles_so}
use Rattle.laws_evaluation.proofs.Soundness.Terms.{proper}
use Rattle.laws_evaluation.proofs.Soundness.Frames.{read_proper, evaluates_properly}

-- a term of such variables as a constant reads no others, and never ends with `internal`
pub constant_proper : (lists : Bool) (W : Lookup → Variable → Type 0) (t : Term) → Each (λ x. W around x) (λ name arguments. Unit {0}) t → Proper W (dialogue (const_stage lists) t)
constant_proper lists W t h = proper W (λ x. W around x) (λ name arguments. Unit {0}) (const_stage lists) (λ x w. w) (λ contents text. refl) (λ name file ds c all. refl) t h

-- a constant doesn't settle to `internal` in frames where each variable in it is bound, or no constant
pub constant_settles : (lists : Bool) (excluded : ℕ → Bool) (here there : Frames) (t : Term) → Each (λ x. IsReadIn excluded here x.number) (λ name arguments. Unit {0}) t
    → (r : Result Value Fault) → settled (reading_in_frames excluded here there) (dialogue (const_stage lists) t) ≡ Some r → NotInternal r
constant_settles lists excluded here there t h r e =
    settles_so (IsReadAt excluded here there) NotInternal (reading_in_frames excluded here there) (read_proper excluded here there) (dialogue (const_stage lists) t) r (constant_proper lists (IsReadAt excluded here there) t h) e

-- nor does its evaluation end so
pub constant_in_frames : (lists : Bool) (excluded : ℕ → Bool) (here there : Frames) (t : Term) → Each (λ x. IsReadIn excluded here x.number) (λ name arguments. Unit {0}) t
    → (old new : List Entry) (r : Result Value Fault) → Evaluates (reading_in_frames excluded here there) (dialogue (const_stage lists) t) old new r → NotInternal r
constant_in_frames lists excluded here there t h old new r g =
    evaluates_properly Any _ old new r
    (λ d. comes_to (IsReadAt excluded here there) NotInternal (reading_in_frames excluded here there) (read_proper excluded here there) (dialogue (const_stage lists) t) old new r (constant_proper lists (IsReadAt excluded here there) t h) d) g

same_fault : {A : Type 0} (f g : Fault) → constant {A = A} (Some (Err f)) ≡ Some (Err g) → f ≡ g
same_fault memory g e = cc
same_fault (assertion_failed message) g e = cc
same_fault (not_constant what) g e = absurd (cc)
same_fault (empty_interpreter setting) g e = cc
same_fault (list_in_text_place place value) g e = cc
same_fault (list_operation a operator b) g e = cc
same_fault (pattern_left_out operator) g e = cc
same_fault (command_failed fault written) g e = cc
same_fault (function_failed name words) g e = cc
same_fault (too_deep name) g e = cc
same_fault (empty_argument recipe name) g e = cc
same_fault (value_count recipe name count) g e = cc
same_fault (no_parent path) g e = cc
same_fault (internal text) g e = cc

-- a fault of what is constant is one of what it settles to
fault_proper : (o : Option (Result Value Fault)) (g : Fault) → ((r : Result Value Fault) → o ≡ Some r → NotInternal r) → constant o ≡ Some (Err g) → is_internal g ≡ false
fault_proper None g h e = absurd (cc)
fault_proper (Some (Ok value)) g h e = absurd (cc)
fault_proper (Some (Err f)) g h e = subst (λ k. is_internal k ≡ false) (same_fault f g e) (h (Err f) refl)

module _ (lists : Bool) (reading_with : Frame → (ℕ → Bool) → Reading) (overrides : ℕ → Option (List ℕ)) (is_read : ℕ → Bool) (Outside : ℕ → Type 0) (reads : ReadsProperly reading_with Outside) where
  -- a number that is no constant, has a value in the frame, or is bound outside
  abbrev IsKnown : Frame → (ℕ → Bool) → ℕ → Type 0
  IsKnown frame excluded number = (excluded number ≡ true) ⊎ (IsSome (frame number) ⊎ Outside number)

  abbrev Holds : (ℕ → Type 0) → Frame → (ℕ → Bool) → Type 0
  Holds N frame excluded = (number : ℕ) → N number → IsKnown frame excluded number

  numbered_known : (N : ℕ → Type 0) (frame : Frame) (excluded : ℕ → Bool) → Holds N frame excluded → (number : Option ℕ) → IsNumbered N number → IsNumbered (IsKnown frame excluded) number
  numbered_known N frame excluded holds None h = absurd h
  numbered_known N frame excluded holds (Some number) h = holds number h

  side_settles : (N : ℕ → Type 0) (frame : Frame) (excluded : ℕ → Bool) (o : Option (List ℕ)) (t : Term) → Holds N frame excluded → (o ≡ None → ConstantKnown N t)
      → (r : Result Value Fault) → settled (reading_with frame excluded) (assigned_dialogue o (const_stage lists) t) ≡ Some r → NotInternal r
  side_settles N frame excluded (Some text) t holds known r e = let f : Ok (text ∷ []) ≡ r = cc in subst NotInternal f tt
  side_settles N frame excluded None t holds known r e =
      settles_so (λ place x. IsNumbered N x.number) NotInternal (reading_with frame excluded) (λ place x i fault q. reads.at frame excluded place x (numbered_known N frame excluded holds x.number i) fault q) (dialogue (const_stage lists) t) r
      (constant_proper lists (λ place x. IsNumbered N x.number) t (known refl)) e

  holds_settled : (N : ℕ → Type 0) (frame next : Frame) (excluded : ℕ → Bool) (number : ℕ) (value : Value) → Holds N frame excluded → next number ≡ Some value → ((k : ℕ) → (k ≡ number) ⊎ (next k ≡ frame k))
      → Holds (With overrides is_read number N) next excluded
  holds_settled N frame next excluded number value holds e same k w =
      let here : k ≡ number → IsKnown next excluded k = λ q. inr (inl (rw q (rw e refl))) in
      ⊎_elim (λ p. here p.0) (λ i. ⊎_elim (λ x. inl x) (λ known. ⊎_elim (λ some. ⊎_elim here (λ q. inr (inl (rw q some))) (same k)) (λ out. inr (inr out)) known) (holds k i)) w

  holds_excluded : (N : ℕ → Type 0) (frame : Frame) (excluded wider : ℕ → Bool) (number : ℕ) → Holds N frame excluded → wider number ≡ true → ((k : ℕ) → (k ≡ number) ⊎ (wider k ≡ excluded k))
      → Holds (With overrides is_read number N) frame wider
  holds_excluded N frame excluded wider number holds e same k w =
      let here : k ≡ number → IsKnown frame wider k = λ q. inl (rw q e) in
      ⊎_elim (λ p. here p.0) (λ i. ⊎_elim (λ x. ⊎_elim here (λ q. inl (q ∙ x)) (same k)) (λ known. inr known) (holds k i)) w

  -- settling the constants of a module doesn't end with `internal` where each variable names what is bound, or what is settled before it
  pub constants_proper : (N : ℕ → Type 0) {list : List Assigned} {frame last : Frame} {excluded outside : ℕ → Bool} {fault : Option Fault} → Holds N frame excluded → InOrder overrides is_read ConstantKnown N list
      → Settles lists reading_with overrides is_read list frame excluded last outside fault → NoInternal fault
  constants_proper N holds order all_settled = tt
  constants_proper N {list = a ∷ more} {frame = frame} {excluded = excluded} holds order (passed r rest) =
      constants_proper (With overrides is_read a.number N) (λ k w. ⊎_elim (λ p. absurd (cc)) (λ i. holds k i) w) order.1 rest
  constants_proper N {list = a ∷ more} {frame = frame} {excluded = excluded} holds order (settles_to {next = next} {value = value} r s e same rest) =
      constants_proper (With overrides is_read a.number N) (holds_settled N frame next excluded a.number value holds e same) order.1 rest
  constants_proper N {list = a ∷ more} {frame = frame} {excluded = excluded} holds order (is_none {wider = wider} r s e same rest) =
      constants_proper (With overrides is_read a.number N) (holds_excluded N frame excluded wider a.number holds e same) order.1 rest
  constants_proper N {list = a ∷ more} {frame = frame} {excluded = excluded} holds order (fails {fault = fault} r s) =
      fault_proper _ fault (side_settles N frame excluded (overrides a.number) a.value holds (order.0 r)) s
