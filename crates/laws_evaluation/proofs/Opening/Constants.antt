-- What is found as a constant is what the variable means in a run.
use Rattle.std.proofs.Common.{◌≡◌, ◌≢◌, ◌⊎◌, inl, inr, ⊎_elim, ℕ, ◌+◌, Bool, true, List, [], ◌∷◌, ◌++◌, Option, Some, None, Result, Ok, Err, refl, sym, ap, subst, ◌∙◌, arith}
use Rattle.std.specs.Prelude.{IsSome}
use Rattle.std.specs.List.{AllByRecursion}
use Rattle.meaning_dialogues.specs.Faults.{Fault, Inconstant, memory, assertion_failed, not_constant, empty_interpreter, list_in_text_place, list_operation, pattern_left_out, command_failed, function_failed, too_deep, empty_argument, value_count, no_parent, internal}
use Rattle.meaning_dialogues.specs.Dialogue.{Dialogue, Ends, Asks, Reads, Reading, Lookup, Variable}
use Rattle.meaning_dialogues.specs.Terms.{Term}
use Rattle.meaning_dialogues.specs.Evaluation.{Value, Stage}
use Rattle.meaning_dialogues.specs.Meaning.{QuestionAnswers, with_meaning, meaning, variable_meaning}
use Rattle.meaning_dialogues.specs.Constants.{settled, settled_read, constant}
use Rattle.meaning_dialogues.specs.Calls.{const_stage, Frame}
use Rattle.meaning_dialogues.proofs.Settling.{Below, stopped, ends, asks, reads, const_below}
use Rattle.meaning_dialogues.proofs.Quiet.{Quiet, const_quiet}
use Rattle.meaning_evaluation.specs.Stages.Assigned.{Assigned, Settles, all_settled, passed, settles_to, is_none, fails, settling, assigned_dialogue}
use Rattle.laws_evaluation.specs.Opening.Opened.{ReadsOnly, HasNumber, Means, of_number}
use Rattle.laws_evaluation.specs.Opening.Settled.{ConstantsAreRead, ValuesAreMeant, IsNumbered, CanSettle, AllCanSettle, StopsIn, FailsAt, ReadWhatIsFound, ConstantFault, IsFound}
use Rattle.laws_evaluation.proofs.Opening.Depths.{means_by}
use Rattle.laws_evaluation.proofs.Opening.Followed.{MeansFrom}
use Rattle.laws_evaluation.proofs.Opening.Unfolded.{reads_weaker}

-- an override settles to itself at every stage, and a right side to no more than a run gives
pub assigned_below : (stage : Stage) (text : Option (List ℕ)) (term : Term) → Below (assigned_dialogue text (const_stage stage.lists) term) (assigned_dialogue text stage term)
assigned_below stage (Some text) term = ends
assigned_below stage None term = const_below stage term

assigned_quiet : (lists : Bool) (text : Option (List ℕ)) (term : Term) → Quiet (assigned_dialogue text (const_stage lists) term)
assigned_quiet lists (Some text) term = tt
assigned_quiet lists None term = const_quiet lists term

settles_read : {A : Type 0} (o : Result Value Fault) (k : Value → Option (Result A Fault)) → ((v : Value) → IsSome (k v)) → IsSome (settled_read o k)
settles_read (Ok v) k h = h v
settles_read (Err f) k h = refl

-- what asks nothing settles
pub quiet_settles : {A : Type 0} (reading : Reading) (t : Dialogue A) → Quiet t → IsSome (settled reading t)
quiet_settles reading (Ends end) q = refl
quiet_settles reading (Asks question next) q = absurd q
quiet_settles reading (Reads place x next) q = settles_read (reading place x) _ (λ v. quiet_settles reading (next v) (q v))

-- a constant is what is settled, and not that something is no constant
constant_settled : {A : Type 0} (o : Option (Result A Fault)) (r : Result A Fault) → constant o ≡ Some r → (o ≡ Some r) × ((what : Inconstant) → r ≢ Err (not_constant what))
constant_settled None r h = absurd (cc)
constant_settled (Some (Ok a)) r h = (h, λ what e. cc)
constant_settled (Some (Err (not_constant what))) r h = absurd (cc)
constant_settled (Some (Err memory)) r h = (h, λ what e. cc)
constant_settled (Some (Err (assertion_failed a))) r h = (h, λ what e. cc)
constant_settled (Some (Err (empty_interpreter a))) r h = (h, λ what e. cc)
constant_settled (Some (Err (list_in_text_place a b))) r h = (h, λ what e. cc)
constant_settled (Some (Err (list_operation a b c))) r h = (h, λ what e. cc)
constant_settled (Some (Err (pattern_left_out a))) r h = (h, λ what e. cc)
constant_settled (Some (Err (command_failed a b))) r h = (h, λ what e. cc)
constant_settled (Some (Err (function_failed a b))) r h = (h, λ what e. cc)
constant_settled (Some (Err (too_deep a))) r h = (h, λ what e. cc)
constant_settled (Some (Err (empty_argument a b))) r h = (h, λ what e. cc)
constant_settled (Some (Err (value_count a b c))) r h = (h, λ what e. cc)
constant_settled (Some (Err (no_parent a))) r h = (h, λ what e. cc)
constant_settled (Some (Err (internal a))) r h = (h, λ what e. cc)

-- what is none is not settled, or stops at what is no constant
none_stops : {A : Type 0} (o : Option (Result A Fault)) → IsSome o → constant o ≡ None → (what : Inconstant) × (o ≡ Some (Err (not_constant what)))
none_stops None s h = absurd (cc)
none_stops (Some (Ok a)) s h = absurd (cc)
none_stops (Some (Err (not_constant what))) s h = (what, refl)
none_stops (Some (Err memory)) s h = absurd (cc)
none_stops (Some (Err (assertion_failed a))) s h = absurd (cc)
none_stops (Some (Err (empty_interpreter a))) s h = absurd (cc)
none_stops (Some (Err (list_in_text_place a b))) s h = absurd (cc)
none_stops (Some (Err (list_operation a b c))) s h = absurd (cc)
none_stops (Some (Err (pattern_left_out a))) s h = absurd (cc)
none_stops (Some (Err (command_failed a b))) s h = absurd (cc)
none_stops (Some (Err (function_failed a b))) s h = absurd (cc)
none_stops (Some (Err (too_deep a))) s h = absurd (cc)
none_stops (Some (Err (empty_argument a b))) s h = absurd (cc)
none_stops (Some (Err (value_count a b c))) s h = absurd (cc)
none_stops (Some (Err (no_parent a))) s h = absurd (cc)
none_stops (Some (Err (internal a))) s h = absurd (cc)

-- what reads only these and only those reads only what is both
pub reads_both : {A : Type 0} (P Q : Lookup → Variable → Type 0) (t : Dialogue A) → ReadsOnly P t → ReadsOnly Q t → ReadsOnly (λ place x. P place x × Q place x) t
reads_both P Q (Ends end) h g = tt
reads_both P Q (Asks q next) h g = λ answer. reads_both P Q (next answer) (h answer) (g answer)
reads_both P Q (Reads place x next) h g = ((h.0, g.0), λ value. reads_both P Q (next value) (h.1 value) (g.1 value))

all_among : (P : Assigned → Type 0) (variables earlier later : List Assigned) (a : Assigned) → variables ≡ earlier ++ a ∷ later → AllByRecursion P variables → P a
all_among P variables earlier later a e h = at earlier (subst (AllByRecursion P) e h)
  where
    at : (xs : List Assigned) → AllByRecursion P (xs ++ a ∷ later) → P a
    at [] g = g.0
    at (x ∷ xs) g = at xs g.1

module _ (right_side : Variable → Option (Dialogue Value)) (answers : QuestionAnswers) where
  at_value : {A : Type 0} (k : Value → Option (Result A Fault)) (P : Type 0) (r : Result A Fault) (o : Result Value Fault) → ((f : Fault) → o ≡ Err f → r ≢ Err f) → ((v : Value) → o ≡ Ok v → k v ≡ Some r → P) → settled_read o k ≡ Some r → P
  at_value k P r (Ok v) faults go h = go v refl h
  at_value k P r (Err f) faults go h = absurd (faults f refl (cc))

  -- what is read means its value, and no fault of reading is this end
  abbrev ReadsSettled : {A : Type 0} → Reading → Result A Fault → Lookup → Variable → Type 0
  ReadsSettled reading r place x = ((v : Value) → reading place x ≡ Ok v → Means right_side answers x (Ok v)) × ((f : Fault) → reading place x ≡ Err f → r ≢ Err f)

  -- what is settled by values that variables mean, and is not that something is no constant, is what is meant from some depth on
  pub settled_followed : {A : Type 0} (reading : Reading) (t s : Dialogue A) (r : Result A Fault) → ReadsOnly (ReadsSettled reading r) t → ((what : Inconstant) → r ≢ Err (not_constant what)) → Below t s → settled reading t ≡ Some r → MeansFrom right_side answers s r
  settled_followed reading t s r means constant (stopped {what = w}) h = absurd (constant w (cc))
  settled_followed reading t s r means constant ends h = record { deep = 0; is = λ n le. h }
  settled_followed reading t s r means constant (asks g) h = absurd (cc)
  settled_followed reading t s r means constant (reads {p = p} {x = x} {k = k} {m = m} g) h =
      at_value (λ v. settled reading (k v)) _ r (reading p x) means.0.1
      (λ v e i.
      let first = means.0.0 v e in
      let rest = settled_followed reading (k v) (m v) r (means.1 v) constant (g v) i in
      record {
        deep = first.deep + rest.deep;
        is = λ n le. ap (λ y. with_meaning y (λ value. meaning answers (variable_meaning right_side answers n) (m value))) (first.is n p (omega (arith, le))) ∙ rest.is n (omega (arith, le));
      }) h

module _ (lists : Bool) (reading_with : Frame → (ℕ → Bool) → Reading) (overrides : ℕ → Option (List ℕ)) (is_read : ℕ → Bool) where
  abbrev Finds : List Assigned → Frame → (ℕ → Bool) → Frame → (ℕ → Bool) → Option Fault → Type 0
  Finds = Settles lists reading_with overrides is_read

  abbrev Side : Assigned → Dialogue Value
  Side a = assigned_dialogue (overrides a.number) (const_stage lists) a.value

  value_stays : {variables : List Assigned} {frame last : Frame} {excluded outside : ℕ → Bool} {fault : Option Fault} (n : ℕ) → Finds variables frame excluded last outside fault → IsSome (frame n) → IsSome (last n)
  value_stays n all_settled s = s
  value_stays n (passed unread more) s = value_stays n more s
  value_stays n (settles_to {next = next} is settles has others more) s = value_stays n more (⊎_elim (λ e. let f : next n ≡ Some _ = ap next e ∙ has in rw f refl) (λ e. rw e s) (others n))
  value_stays n (is_none is settles wide others more) s = value_stays n more s
  value_stays n (fails is settles) s = s

  exclusion_stays : {variables : List Assigned} {frame last : Frame} {excluded outside : ℕ → Bool} {fault : Option Fault} (n : ℕ) → Finds variables frame excluded last outside fault → excluded n ≡ true → outside n ≡ true
  exclusion_stays n all_settled s = s
  exclusion_stays n (passed unread more) s = exclusion_stays n more s
  exclusion_stays n (settles_to is settles has others more) s = exclusion_stays n more s
  exclusion_stays n (is_none {wider = wider} is settles wide others more) s = exclusion_stays n more (⊎_elim (λ e. ap wider e ∙ wide) (λ e. e ∙ s) (others n))
  exclusion_stays n (fails is settles) s = s

  -- without a fault, each variable that is asked for has a value at the end, or is excluded
  pub each_found : {variables : List Assigned} {frame last : Frame} {excluded outside : ℕ → Bool} (n : ℕ) → Finds variables frame excluded last outside None → HasNumber variables n → is_read n ≡ true → IsSome (last n) ⊎ (outside n ≡ true)
  each_found n all_settled i r = absurd i
  each_found n (passed unread more) (inl e) r = let s = subst (λ m. is_read m ≡ true) e r in absurd (cc)
  each_found n (passed unread more) (inr i) r = each_found n more i r
  each_found n (settles_to {next = next} is settles has others more) (inl e) r = inl (value_stays n more (let f : next n ≡ Some _ = ap next e ∙ has in rw f refl))
  each_found n (settles_to is settles has others more) (inr i) r = each_found n more i r
  each_found n (is_none {wider = wider} is settles wide others more) (inl e) r = inr (exclusion_stays n more (ap wider e ∙ wide))
  each_found n (is_none is settles wide others more) (inr i) r = each_found n more i r

  longer : (a : Assigned) (more : List Assigned) (frame next : Frame) (excluded wider : ℕ → Bool) (n : ℕ) → ((xs : List Assigned) (then_frame : Frame) (then_excluded : ℕ → Bool) → Finds xs next wider then_frame then_excluded None → Finds (a ∷ xs) frame excluded then_frame then_excluded None)
      → StopsIn lists reading_with overrides is_read next wider more n → StopsIn lists reading_with overrides is_read frame excluded (a ∷ more) n
  longer a more frame next excluded wider n step s = record {
    earlier = a ∷ s.earlier;
    it = s.it;
    later = s.later;
    then_frame = s.then_frame;
    then_excluded = s.then_excluded;
    what = s.what;
    order = ap (λ l. a ∷ l) s.order;
    is = s.is;
    read = s.read;
    before = step s.earlier s.then_frame s.then_excluded s.before;
    stops = s.stops;
  }

  -- each number that is excluded at the end was it before, or is that of a variable that stops at what is no constant
  pub excluded_stops : {variables : List Assigned} {frame last : Frame} {excluded outside : ℕ → Bool} {fault : Option Fault} (n : ℕ) → Finds variables frame excluded last outside fault → outside n ≡ true
      → (excluded n ≡ true) ⊎ StopsIn lists reading_with overrides is_read frame excluded variables n
  excluded_stops n all_settled o = inl o
  excluded_stops n (passed {a = a} {more = more} {frame = frame} {excluded = excluded} unread rest) o =
      elim (excluded_stops n rest o) [ inl e ↦ inl e | inr s ↦ inr (longer a more frame frame excluded excluded n (λ xs t u b. passed unread b) s) ]
  excluded_stops n (settles_to {a = a} {more = more} {frame = frame} {next = next} {excluded = excluded} is settles has others rest) o =
      elim (excluded_stops n rest o) [ inl e ↦ inl e | inr s ↦ inr (longer a more frame next excluded excluded n (λ xs t u b. settles_to is settles has others b) s) ]
  excluded_stops n (is_none {a = a} {more = more} {frame = frame} {excluded = excluded} {wider = wider} is settles wide others rest) o =
      elim (excluded_stops n rest o) [
        | inl e ↦ at_wider e (others n)
        | inr s ↦ inr (longer a more frame frame excluded wider n (λ xs t u b. is_none is settles wide others b) s)
      ]
    where
      at_wider : wider n ≡ true → (n ≡ a.number) ⊎ (wider n ≡ excluded n) → (excluded n ≡ true) ⊎ StopsIn lists reading_with overrides is_read frame excluded (a ∷ more) n
      at_wider e (inr same) = inl (sym same ∙ e)
      at_wider e (inl here) =
          let w = none_stops (settled (reading_with frame excluded) (Side a)) (quiet_settles (reading_with frame excluded) (Side a) (assigned_quiet lists (overrides a.number) a.value)) settles in
          inr record { earlier = []; it = a; later = more; then_frame = frame; then_excluded = excluded; what = w.0; order = refl; is = here; read = is; before = all_settled; stops = w.1 }
  excluded_stops n (fails is settles) o = inl o

  -- a fault is that of one variable that is asked for, by the constants before it
  pub fails_at : {variables : List Assigned} {frame last : Frame} {excluded outside : ℕ → Bool} {fault : Fault} → Finds variables frame excluded last outside (Some fault) → FailsAt lists reading_with overrides is_read frame excluded last outside fault variables
  fails_at (passed {a = a} unread more) = let f = fails_at more in record { earlier = a ∷ f.earlier; it = f.it; later = f.later; order = ap (λ l. a ∷ l) f.order; read = f.read; before = passed unread f.before; fails = f.fails }
  fails_at (settles_to {a = a} is settles has others more) = let f = fails_at more in record { earlier = a ∷ f.earlier; it = f.it; later = f.later; order = ap (λ l. a ∷ l) f.order; read = f.read; before = settles_to is settles has others f.before; fails = f.fails }
  fails_at (is_none {a = a} is settles wide others more) = let f = fails_at more in record { earlier = a ∷ f.earlier; it = f.it; later = f.later; order = ap (λ l. a ∷ l) f.order; read = f.read; before = is_none is settles wide others f.before; fails = f.fails }
  fails_at (fails {a = a} {more = more} is settles) = record { earlier = []; it = a; later = more; order = refl; read = is; before = all_settled; fails = settles }

  module _ (right_side : Variable → Option (Dialogue Value)) (answers : QuestionAnswers) (names : ℕ → List ℕ) (around : Frame) (read : ConstantsAreRead reading_with around names) where
    -- what the right side of a variable settles to, as a constant, the variable means
    one_constant : (a : Assigned) (frame : Frame) (excluded : ℕ → Bool) (r : Result Value Fault) → CanSettle right_side answers names lists overrides around a → ValuesAreMeant right_side answers names frame
        → ReadsOnly (λ place x. (f : Fault) → reading_with frame excluded place x ≡ Err f → r ≢ Err f) (Side a) → settling lists reading_with overrides is_read frame excluded a ≡ Some r → Means right_side answers (of_number names a.number) r
    one_constant a frame excluded r can meant faults h =
        let c = constant_settled (settled (reading_with frame excluded) (Side a)) r h in
        let m = settled_followed right_side answers (reading_with frame excluded) (Side a) (assigned_dialogue (overrides a.number) can.stage a.value) r
        (reads_both _ _ (Side a) (reads_weaker _ _ (λ place x i. known place x i) (Side a) can.reads) faults) c.1 (subst (λ l. Below (assigned_dialogue (overrides a.number) (const_stage l) a.value) (assigned_dialogue (overrides a.number) can.stage a.value)) can.same_lists (assigned_below can.stage (overrides a.number) a.value)) c.0 in
        means_by right_side answers (of_number names a.number) (assigned_dialogue (overrides a.number) can.stage a.value) r m.deep can.means m.is
      where
        known : (place : Lookup) (x : Variable) → IsNumbered right_side answers names around x → (v : Value) → reading_with frame excluded place x ≡ Ok v → Means right_side answers x (Ok v)
        known place x i v e =
            let e' : reading_with frame excluded place (of_number names i.number) ≡ Ok v = ap (reading_with frame excluded place) (sym i.is) ∙ e in
            subst (λ y. Means right_side answers y (Ok v)) (sym i.is) (⊎_elim (λ f. meant i.number v f) (λ f. i.means v f) (read.read frame excluded place i.number v e'))

    -- each constant that is found has the value that its variable means in a run
    pub constants_mean : {variables : List Assigned} {frame last : Frame} {excluded outside : ℕ → Bool} {fault : Option Fault} → AllCanSettle right_side answers names lists overrides is_read around variables → ValuesAreMeant right_side answers names frame
        → Finds variables frame excluded last outside fault → ValuesAreMeant right_side answers names last
    constants_mean can meant all_settled = meant
    constants_mean can meant (passed unread more) = constants_mean can.1 meant more
    constants_mean can meant (settles_to {a = a} {frame = frame} {next = next} {excluded = excluded} {value = value} is settles has others more) = constants_mean can.1 (one_more a frame next value (one_constant a frame excluded (Ok value) (can.0 is) meant (reads_weaker _ _ (λ place x i f e g. cc) (Side a) (can.0 is).reads) settles) has others meant) more
      where
        one_more : (a : Assigned) (frame next : Frame) (value : Value) → Means right_side answers (of_number names a.number) (Ok value) → next a.number ≡ Some value → ((n : ℕ) → (n ≡ a.number) ⊎ (next n ≡ frame n)) → ValuesAreMeant right_side answers names frame → ValuesAreMeant right_side answers names next
        one_more a frame next value means has others meant n v h = ⊎_elim
            (λ e. let f : next a.number ≡ Some v = subst (λ m. next m ≡ Some v) e h in
            let same : value ≡ v = cc in
            subst (λ w. Means right_side answers (of_number names n) (Ok w)) same (subst (λ m. Means right_side answers (of_number names m) (Ok value)) (sym e) means))
            (λ e. meant n v (sym e ∙ h)) (others n)
    constants_mean can meant (is_none is settles wide others more) = constants_mean can.1 meant more
    constants_mean can meant (fails is settles) = meant

    -- a fault that ends it is what one of the variables means in a run, where each reads what is found before it
    pub constant_fault_means : {variables : List Assigned} {frame last : Frame} {excluded outside : ℕ → Bool} {fault : Fault} → AllCanSettle right_side answers names lists overrides is_read around variables → ValuesAreMeant right_side answers names frame
        → ReadWhatIsFound lists reading_with overrides is_read names around variables → Finds variables frame excluded last outside (Some fault) → ConstantFault right_side answers names is_read variables fault
    constant_fault_means {variables = variables} {frame = frame} {last = last} {excluded = excluded} {outside = outside} {fault = fault} can meant order h =
        let f = fails_at h in
        let c = constant_settled (settled (reading_with last outside) (Side f.it)) (Err fault) f.fails in
        record {
          earlier = f.earlier;
          it = f.it;
          later = f.later;
          order = f.order;
          read = f.read;
          means = one_constant f.it last outside (Err fault) (all_among _ variables f.earlier f.later f.it f.order can f.read) (constants_mean can meant h)
              (reads_weaker _ _ (λ place x i e refuses. unread f.earlier place x f.before i e refuses (Err fault) c.1) (Side f.it) (order.reads f.earlier f.later f.it f.order f.read)) f.fails;
        }
      where
        unread : (earlier : List Assigned) (place : Lookup) (x : Variable) → Finds earlier frame excluded last outside None → IsFound is_read names around earlier x → (e : Fault) → reading_with last outside place x ≡ Err e → (r : Result Value Fault) → ((what : Inconstant) → r ≢ Err (not_constant what)) → r ≢ Err e
        unread earlier place x before i e refuses r settles g =
            let found : IsSome (last i.number) ⊎ (outside i.number ≡ true) ⊎ IsSome (around i.number) = ⊎_elim (λ h. ⊎_elim (λ s. inl s) (λ o. inr (inl o)) (each_found i.number before h.0 h.1)) (λ h. inr (inr h)) i.there in
            let w = order.refused last outside place i.number e found (ap (reading_with last outside place) (sym i.is) ∙ refuses) in
            settles w.0 (g ∙ ap Err w.1)
