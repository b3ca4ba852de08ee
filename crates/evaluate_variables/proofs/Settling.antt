-- Constants, one after another.
use Rattle.std.proofs.Common.{◌≡◌, ◌≢◌, ◌⊎◌, ℕ, ◌+◌, ◌<◌, ◌≤◌, Bool, true, false, cond, List, [], ◌∷◌, ◌++◌, length, get_or, drop, Option, Some, None, Result, Ok, Err, MatchResult, refl, sym, ap, inl, inr}
use Rattle.std.specs.Prelude.{String}
use Rattle.std.specs.BTreeMap.{BTreeMap}
use Rattle.std.specs.Option.{option_map, option_or}
use Rattle.std.proofs.Math.Path.{fun_ext}
use Rattle.std.proofs.lemmas.Bool.{eq-eqb}
use Rattle.std.proofs.lemmas.Bool.Decides.{eqb_tells}
use Rattle.std.proofs.lemmas.List.{drop_all}
use Rattle.std.specs.BTreeMap.{is_at}
use Rattle.std.specs.Cmp.{unsigned_tied}
use Rattle.std.specs.List.{list_any}
use Rattle.std.specs.Ordering.{nat_cmp}
use Rattle.evaluate_variables.proofs.Opening.{at_place}
use Rattle.just_host.specs.declared.entry.Entry.{Entry}
use Rattle.just_value.specs.Frames.{BoundRow, Frames, Rebinds, bound_in, found_in}
use Rattle.evaluate_context.specs.Refusals.{fault_of, seen}
use Rattle.evaluate_context.specs.declared.context.AssignmentRef.{AssignmentRef}
use Rattle.evaluate_context.specs.declared.error.Error.{Error}
use Rattle.meaning_dialogues.specs.Calls.{Frame, empty, const_stage, value_found, reading_in_frames, read_in}
use Rattle.meaning_dialogues.specs.Constants.{settled, constant}
use Rattle.meaning_dialogues.specs.Dialogue.{Dialogue, Ends, Asks, Reads, ◌>>=◌, Evaluates, Reading, Lookup, Variable, around, in_module}
use Rattle.meaning_dialogues.specs.Evaluation.{Value, Stage, dialogue, dialogues, text_dialogue, interpreter_dialogue, row}
use Rattle.meaning_dialogues.specs.Faults.{Fault, TextPlace, memory}
use Rattle.meaning_dialogues.specs.Terms.{Term, Terms, listing}
use Rattle.meaning_dialogues.proofs.Quiet.{Quiet, const_quiet, settles}
use Rattle.meaning_evaluation.specs.Stages.Assigned.{Assigned, Settles, settling, assigned_dialogue, all_settled, passed, settles_to, is_none, fails}
use Rattle.evaluate_variables.specs.Opened.{before, ordered, overridden, refusal}
use Rattle.evaluate_variables.specs.Settled.{FailsIn, Keeps, SettlesTo, const_reading, excluded_in, found_value, read_constant, reading_in, seen_constant, values_in, values_of}
use Rattle.evaluate_variables.specs.declared.const_evaluator.ConstEvaluator.{ConstEvaluator}

-- what goes on without asking asks nothing
ended_quiet : {A B : Type 0} (t : Dialogue A) (k : A → Result B Fault) → Quiet t → Quiet (t >>= λ a. Ends (k a))
ended_quiet (Ends (Ok a)) k h = tt
ended_quiet (Ends (Err e)) k h = tt
ended_quiet (Asks q next) k h = absurd h
ended_quiet (Reads p x next) k h = λ value. ended_quiet (next value) k (h value)

first_quiet : {A B : Type 0} (t : Dialogue A) (k : A → Dialogue B) → Quiet (t >>= k) → Quiet t
first_quiet (Ends r) k h = tt
first_quiet (Asks q next) k h = absurd h
first_quiet (Reads p x next) k h = λ value. first_quiet (next value) k (h value)

module _ {given reading : Reading} {stage : Stage} {lists : Bool} (read_so : given ≡ reading) (staged : stage ≡ const_stage lists) where
  pub value_settles : {old new : List Entry} {r : Result Value Fault} (term : Term) → Evaluates given (dialogue stage term) old new r → r ≢ Err memory → settled reading (dialogue (const_stage lists) term) ≡ Some r
  value_settles {old = old} {new = new} {r = r} term e n =
      let h = rw (read_so, staged) at e.goes n in
      (settles reading (dialogue (const_stage lists) term) old new r (const_quiet lists term) h).1

  pub text_settles : {old new : List Entry} {r : Result (List ℕ) Fault} (place : TextPlace) (term : Term) → Evaluates given (text_dialogue place (dialogue stage term)) old new r → r ≢ Err memory → settled reading (text_dialogue place (dialogue (const_stage lists) term)) ≡ Some r
  text_settles {old = old} {new = new} {r = r} place term e n =
      let h = rw (read_so, staged) at e.goes n in
      (settles reading (text_dialogue place (dialogue (const_stage lists) term)) old new r (ended_quiet (dialogue (const_stage lists) term) _ (const_quiet lists term)) h).1

  pub words_settle : {old new : List Entry} {r : Result (List ℕ × List (List ℕ)) Fault} (setting : List ℕ) (terms : Terms) → Evaluates given (interpreter_dialogue setting (dialogues stage terms)) old new r → r ≢ Err memory → settled reading (interpreter_dialogue setting (dialogues (const_stage lists) terms)) ≡ Some r
  words_settle {old = old} {new = new} {r = r} setting terms e n =
      let h = rw (read_so, staged) at e.goes n in
      let values = row (dialogues (const_stage lists) terms) in
      (settles reading (interpreter_dialogue setting (dialogues (const_stage lists) terms)) old new r (ended_quiet values _ (first_quiet values _ (const_quiet lists (listing terms)))) h).1

-- what variables give, by the values of the innermost frame
same_found : (name : List ℕ) (o p : Option BoundRow) → value_found name (option_or o p) ≡ found_value name (option_or (option_map (λ b. b.value) o) (option_map (λ b. b.value) p))
same_found name None None = refl
same_found name None (Some b) = refl
same_found name (Some a) p = refl

same_read : (excluded : ℕ → Bool) (frames : Frames) (name : List ℕ) (number : Option ℕ) → read_in excluded frames name number ≡ read_constant frames.outer (values_of frames.own) excluded name number
same_read excluded frames name None = refl
same_read excluded frames name (Some number) = rw (same_found name (bound_in frames.own number) (found_in frames.outer number)) refl

same_at : (excluded : ℕ → Bool) (frames : Frames) (place : Lookup) (variable : Variable) → reading_in_frames excluded frames frames place variable ≡ const_reading frames.outer (values_of frames.own) excluded place variable
same_at excluded frames around variable = same_read excluded frames variable.name variable.number
same_at excluded frames in_module variable = same_read excluded frames variable.name variable.number

pub same_reading : (c : ConstEvaluator) → reading_in c ≡ const_reading c.scope.outer (values_in c) (excluded_in c)
same_reading c = fun_ext (λ place. fun_ext (λ variable. same_at (excluded_in c) c.scope place variable))

-- one variable
module _ {A : Type 0} (overrides : BTreeMap ℕ (String A)) (is_read : ℕ → Bool) (a : Assigned) (c : ConstEvaluator) where
  abbrev Gives : Option (Result Value Fault) → Type 0
  Gives end = end ≡ constant (settled (reading_in c) (assigned_dialogue (overridden overrides a.number) (const_stage c.lists) a.value))

  given_so : (end : Option (Result Value Fault)) → Gives end → settling c.lists (const_reading c.scope.outer) (overridden overrides) is_read (values_in c) (excluded_in c) a ≡ end
  given_so end h = sym (rw (same_reading c) at h)

  pub settles_unread : is_read a.number ≡ false → SettlesTo overrides is_read (a ∷ []) c c None
  settles_unread h = passed h all_settled

  pub settles_fault : (fault : Fault) → is_read a.number ≡ true → Gives (Some (Err fault)) → SettlesTo overrides is_read (a ∷ []) c c (Some fault)
  settles_fault fault h g = fails h (given_so _ g)

  pub settles_kept : (result : Result Unit Error) (value : Option Value) (next : ConstEvaluator) → is_read a.number ≡ true → Gives (seen_constant (Ok value))
      → MatchResult result (λ _. Keeps c a.number value next) (λ error. fault_of error ≡ memory) → seen result ≢ Err memory → SettlesTo overrides is_read (a ∷ []) c next (refusal result)
  settles_kept (Ok done) (Some value) next h g k n =
      let same : excluded_in next ≡ excluded_in c = ap (λ keys q. list_any (is_at (nat_cmp q)) keys) k.2 in
      settles_to h (given_so _ g) k.0 k.1 (rw same all_settled)
  settles_kept (Ok done) None next h g k n =
      let same : values_in next ≡ values_in c = ap values_of k.2 in
      is_none h (given_so _ g) k.0 k.1 (rw same all_settled)
  settles_kept (Err error) value next h g k n = absurd (n (ap Err k))

-- a value or none is no fault
pub no_fault : (value : Option Value) → seen_constant (Ok value) ≢ Some (Err memory)
no_fault (Some value) = λ e. cc
no_fault None = λ e. cc

-- what is kept
pub keeps_value : (c next : ConstEvaluator) (binding : BoundRow) → Rebinds c.scope.own binding next.scope.own → next.non_const.keys ≡ c.non_const.keys → Keeps c binding.number (Some binding.value) next
keeps_value c next binding r same = (own, others, same)
  where
    own : values_in next binding.number ≡ Some binding.value
    own = rw (r binding.number, eq-eqb binding.number binding.number refl) refl

    others : (n : ℕ) → (n ≡ binding.number) ⊎ (values_in next n ≡ values_in c n)
    others n = elim (eqb_tells n binding.number) [ inl p ↦ inl p.1 | inr p ↦ inr (rw (r n, p.0) refl) ]

pub keeps_none : (c next : ConstEvaluator) (number : ℕ) → ((q : ℕ) → excluded_in next q ≡ cond (is_at (nat_cmp number) q) true (excluded_in c q)) → next.scope.own ≡ c.scope.own → Keeps c number None next
keeps_none c next number r same = (own, others, same)
  where
    own : excluded_in next number ≡ true
    own = rw (r number, unsigned_tied number number, eq-eqb number number refl) refl

    others : (n : ℕ) → (n ≡ number) ⊎ (excluded_in next n ≡ excluded_in c n)
    others n = elim (eqb_tells number n) [ inl p ↦ inl (sym p.1) | inr p ↦ inr (rw (r n, unsigned_tied number n, p.0) refl) ]

pub settles_no_place : {A : Type 0} (overrides : BTreeMap ℕ (String A)) (is_read : ℕ → Bool) (c : ConstEvaluator) (o : Option AssignmentRef) → o ≡ None → SettlesTo overrides is_read (before o []) c c None
settles_no_place overrides is_read c o h = rw h all_settled

-- the variables at the places from one on
module _ {A : Type 0} (lists : Bool) (outer : List (List BoundRow)) (overrides : BTreeMap ℕ (String A)) (is_read : ℕ → Bool) where
  abbrev pub SettlesAll : List Assigned → Frame → (ℕ → Bool) → Frame → (ℕ → Bool) → Option Fault → Type 0
  SettlesAll = Settles lists (const_reading outer) (overridden overrides) is_read

  then_settles : {xs ys : List Assigned} {frame mid last : Frame} {excluded so_far outside : ℕ → Bool} {f g : Option Fault}
      → f ≡ None → SettlesAll xs frame excluded mid so_far f → SettlesAll ys mid so_far last outside g → SettlesAll (xs ++ ys) frame excluded last outside g
  then_settles e all_settled k = k
  then_settles e (passed r m) k = passed r (then_settles e m k)
  then_settles e (settles_to r s v o m) k = settles_to r s v o (then_settles e m k)
  then_settles e (is_none r s v o m) k = is_none r s v o (then_settles e m k)
  then_settles e (fails r s) k = absurd (cc)

  then_fails : {xs : List Assigned} (ys : List Assigned) {frame last : Frame} {excluded outside : ℕ → Bool} {f : Option Fault} {fault : Fault}
      → f ≡ Some fault → SettlesAll xs frame excluded last outside f → SettlesAll (xs ++ ys) frame excluded last outside f
  then_fails ys e all_settled = absurd (cc)
  then_fails ys e (passed r m) = passed r (then_fails ys e m)
  then_fails ys e (settles_to r s v o m) = settles_to r s v o (then_fails ys e m)
  then_fails ys e (is_none r s v o m) = is_none r s v o (then_fails ys e m)
  then_fails ys e (fails r s) = fails r s

  -- whatever the rest leads to from here on, all leads to
  pub record SettlesOn (variables rest : List Assigned) (frame : Frame) (excluded : ℕ → Bool) (now : Frame) (so_far : ℕ → Bool) : Type 0 where
    pub on : (last : Frame) (outside : ℕ → Bool) (fault : Option Fault) → SettlesAll rest now so_far last outside fault → SettlesAll variables frame excluded last outside fault

  module _ (variables : List AssignmentRef) (places : List ℕ) (frame : Frame) (excluded : ℕ → Bool) where
    abbrev pub SettlesPlaces : ℕ → Frame → (ℕ → Bool) → Type 0
    SettlesPlaces i now so_far = SettlesOn (ordered variables places) (ordered variables (drop i places)) frame excluded now so_far

    pub settling_first : SettlesPlaces 0 frame excluded
    settling_first = record { on = λ last outside fault h. h }

    pub settling_more : (i place d : ℕ) (now next : Frame) (so_far wider : ℕ → Bool) → SettlesPlaces i now so_far → i < length places → place ≡ get_or places i d
        → SettlesAll (ordered variables (place ∷ [])) now so_far next wider None → SettlesPlaces (i + 1) next wider
    settling_more i place d now next so_far wider c h e o = record {
      on = λ last outside fault rest. c.on last outside fault (rw (at_place variables places i place d h e) (then_settles refl o rest));
    }

    pub settling_fail : (i place d : ℕ) (now next : Frame) (so_far wider : ℕ → Bool) (fault : Fault) → SettlesPlaces i now so_far → i < length places → place ≡ get_or places i d
        → SettlesAll (ordered variables (place ∷ [])) now so_far next wider (Some fault) → SettlesAll (ordered variables places) frame excluded next wider (Some fault)
    settling_fail i place d now next so_far wider fault c h e o =
        c.on next wider (Some fault) (rw (at_place variables places i place d h e) (then_fails (ordered variables (drop (i + 1) places)) refl o))

    pub settling_end : (i : ℕ) (now : Frame) (so_far : ℕ → Bool) → SettlesPlaces i now so_far → length places ≤ i → SettlesAll (ordered variables places) frame excluded now so_far None
    settling_end i now so_far c h = c.on now so_far None (rw (drop_all i places h) all_settled)

-- from an empty frame
no_values : (c : ConstEvaluator) → c.scope.own ≡ [] → values_in c ≡ empty
no_values c h = ap values_of h

none_excluded : (c : ConstEvaluator) → c.non_const.keys ≡ [] → excluded_in c ≡ (λ number. false)
none_excluded c h = ap (λ keys q. list_any (is_at (nat_cmp q)) keys) h

module _ {A : Type 0} (lists : Bool) (scope : Frames) (overrides : BTreeMap ℕ (String A)) (is_read : ℕ → Bool) (variables : List Assigned) (first last : ConstEvaluator)
    (listed : first.lists ≡ lists) (own : first.scope.own ≡ []) (outer : first.scope.outer ≡ scope.own ∷ scope.outer) (keys : first.non_const.keys ≡ []) where
  pub finds_fault : (fault : Fault) → SettlesTo overrides is_read variables first last (Some fault) → FailsIn lists scope overrides is_read variables fault
  finds_fault fault h = record { frame = values_in last; excluded = excluded_in last; settles = rw (listed, outer, no_values first own, none_excluded first keys) at h }
