-- How modules open, step by step.
use Rattle.std.proofs.Common.{◌≡◌, ◌≢◌, ℕ, suc, ◌+◌, ◌<◌, ◌≤◌, Bool, true, false, List, [], ◌∷◌, ◌++◌, append_assoc, append-nil, length, get_or, map, drop, Option, Some, None, Result, Ok, Err, refl, sym, ap, subst, ◌∙◌, add-one, drop-cons}
use Rattle.std.specs.Prelude.{if◌then◌else◌, String}
use Rattle.std.specs.Borrow.{Bor}
use Rattle.std.specs.BTreeSet.{BTreeSet}
use Rattle.std.specs.BTreeMap.{insert_entry}
use Rattle.std.specs.Cmp.Lexicographic.{slice_cmp}
use Rattle.std.specs.FinMap.Entries.{put, by_order}
use Rattle.std.specs.Ordering.{match_ordering, nat_cmp}
use Rattle.std.specs.declared.cmp.Ordering.{Ordering}
use Rattle.std.specs.declared.cmp.Ordering.TheVariants.{Less, Equal, Greater}
use Rattle.std.specs.String.{string_bytes, string_cmp}
use Rattle.std.proofs.lemmas.List.{drop_all, map-append}
use Rattle.std.proofs.lemmas.Option.{slice_get_past, slice_get_read}
use Rattle.just_host.specs.Follows.{Follows}
use Rattle.just_host.specs.Record.{Record}
use Rattle.just_host.specs.declared.entry.Entry.{Entry}
use Rattle.just_host.specs.declared.entry.Entry.TheVariants.{Dotenv}
use Rattle.just_host.specs.declared.host.HostFault.{HostFault}
use Rattle.just_host.specs.declared.host.HostFault.TheVariants.{Memory}
use Rattle.just_host.specs.declared.job.DotenvRequest.{DotenvRequest}
use Rattle.just_host.specs.declared.job.Pair.{Pair}
use Rattle.just_host.specs.declared.config.Config.{Config}
use Rattle.just_value.specs.Frames.{BoundRow, Frames}
use Rattle.evaluate_context.specs.Environment.{pair_at, variable}
use Rattle.evaluate_context.specs.Refusals.{fault_of}
use Rattle.evaluate_context.specs.Surroundings.{by_name, entries_by_name}
use Rattle.evaluate_context.specs.declared.context.ExecutionContext.{ExecutionContext}
use Rattle.evaluate_context.specs.declared.context.ModuleView.{ModuleView}
use Rattle.evaluate_context.specs.declared.error.Error.{Error}
use Rattle.evaluate_variables.specs.Opened.{Opens, OpensInside, framed, ordered, reads}
use Rattle.analyze_calls.specs.declared.fault.OpeningFault.{OpeningFault}
use Rattle.analyze_calls.specs.declared.fault.OpeningFault.TheVariants.{OutOfMemory, Dotenv as DotenvEnded, Opening as OpeningEnded}
use Rattle.meaning_dialogues.specs.Faults.{Fault, memory}
use Rattle.meaning_evaluation.specs.Requests.{OpeningFailure, Requests, dotenv, opening, unasked, told, refused as request_refused}
use Rattle.analyze_calls.specs.Opening.{IfOpened, IsContextOf, IsOpening, out_of_memory, no_value as opening_refused, IsFilled, IsTold, OpenedRow, OpensAfter, OpensAll, OpensOne, asks_for, is_wanted, opened_row, passed, request_if_any, request_in, holds, ends, fills as evaluated, fails as not_evaluated, untold, opened, unfilled, not_there, there, refused, none_left, nowhere, one_more, fault_here, fault_later}
use Rattle.analyze_calls.specs.declared.opening.Opened.{Opened}
use Rattle.analyze_calls.specs.declared.opening.Opening.{Opening}

-- ---- pairs by name

-- the texts of an entry
abbrev pub written : {A : Type 0} → String A × String A → List ℕ × List ℕ
written entry = (string_bytes entry.0, string_bytes entry.1)

placed : {A : Type 0} (k v : String A) (e : String A × String A) (es : List (String A × String A)) (rest : List (List ℕ × List ℕ)) (o : Ordering)
    → map written (insert_entry string_cmp es k v) ≡ rest
    → map written (match_ordering o ((k, v) ∷ e ∷ es) ((e.0, v) ∷ es) (e ∷ insert_entry string_cmp es k v)) ≡ by_order o (written (k, v) ∷ written e ∷ map written es) ((string_bytes e.0, string_bytes v) ∷ map written es) (written e ∷ rest)
placed k v e es rest Less h = refl
placed k v e es rest Equal h = refl
placed k v e es rest Greater h = ap (λ r. written e ∷ r) h

put_written : {A : Type 0} (k v : String A) (es : List (String A × String A)) → map written (insert_entry string_cmp es k v) ≡ put (slice_cmp nat_cmp) (string_bytes k) (string_bytes v) (map written es)
put_written k v [] = refl
put_written k v (e ∷ es) = placed k v e es _ (string_cmp k e.0) (put_written k v es)

variables_written : {A : Type 0} (es : List (String A × String A)) → map variable es ≡ map pair_at (map written es)
variables_written [] = refl
variables_written (e ∷ es) = ap (λ ps. variable e ∷ ps) (variables_written es)

-- with the pairs that are left after them the entries are those of all
abbrev pub HoldsSoFar : {A : Type 0} → List (String A × String A) → List Pair → List Pair → Type 0
HoldsSoFar es left pairs = entries_by_name (map written es) left ≡ entries_by_name [] pairs

-- one more pair is held
pub holds_more : {A : Type 0} (pair : Pair) (k v : String A) (old new : List (String A × String A)) (left rest pairs : List Pair)
    → left ≡ pair ∷ rest → string_bytes k ≡ pair.name → string_bytes v ≡ pair.value → new ≡ insert_entry string_cmp old k v
    → HoldsSoFar old left pairs → HoldsSoFar new rest pairs
holds_more pair k v old new left rest pairs taken name value is h =
    let next : map written new ≡ put (slice_cmp nat_cmp) pair.name pair.value (map written old)
    = ap (map written) is ∙ (put_written k v old ∙ (ap (λ n. put (slice_cmp nat_cmp) n (string_bytes v) (map written old)) name ∙ ap (λ t. put (slice_cmp nat_cmp) pair.name t (map written old)) value)) in
    ap (λ es. entries_by_name es rest) next ∙ (ap (entries_by_name (map written old)) (sym taken) ∙ h)

-- all are held
pub holds_all : {A : Type 0} (es : List (String A × String A)) (left pairs : List Pair) (n : ℕ) → n ≡ length left → n ≡ 0 → HoldsSoFar es left pairs → map variable es ≡ by_name pairs
holds_all es left pairs n e z h = variables_written es ∙ ap (map pair_at) (ap (entries_by_name (map written es)) (sym (none left (sym e ∙ z))) ∙ h)
  where
    none : (xs : List Pair) → length xs ≡ 0 → xs ≡ []
    none [] e = refl
    none (x ∷ xs) e = absurd (cc)

-- ---- faults

-- it holds of the fault, unless memory ran out
abbrev pub Ended : {B : Type 0} → OpeningFault → (Result B OpeningFailure → Type 0) → Type 0
Ended {B = B} fault P = IfOpened (λ (b : B). b) (Err fault) P

-- what is said of a fault is said of it elsewhere
if_ended : {B D : Type 0} (P : Result B OpeningFailure → Type 0) (Q : Result D OpeningFailure → Type 0) → ((fault : OpeningFailure) → P (Err fault) → Q (Err fault)) → (fault : OpeningFault) → Ended fault P → Ended fault Q
if_ended P Q so OutOfMemory h = tt
if_ended P Q so (DotenvEnded fault) h = so (dotenv fault) h
if_ended P Q so (OpeningEnded error) h = so (opening (fault_of error)) h

-- ---- what is asked for

-- the host is asked once, and its answer is passed on
pub answered : {H : Type 0} (goes : H → List Entry → H → Type 0) (old new : Record H) (request : DotenvRequest) (answer : Result (List Pair) HostFault) (result : Result (List Pair) OpeningFault)
    → Follows goes old (Dotenv request answer ∷ []) new → (new.exhausted ≡ true → answer ≡ Err Memory) → (new.exhausted ≡ false → result ≡ passed answer)
    → (new.exhausted ≡ true → answer ≡ Err Memory → result ≡ Err OutOfMemory) → IfOpened (λ pairs. pairs) result (Requests (Some request) old.entries new.entries)
answered goes old new request answer result f when_exhausted when_open out = by_test new.exhausted refl
  where
    by_answer : (a : Result (List Pair) HostFault) → new.entries ≡ old.entries ++ Dotenv request a ∷ [] → IfOpened (λ pairs. pairs) (passed a) (Requests (Some request) old.entries new.entries)
    by_answer (Ok pairs) e = told e
    by_answer (Err fault) e = request_refused e

    by_test : (b : Bool) → new.exhausted ≡ b → IfOpened (λ pairs. pairs) result (Requests (Some request) old.entries new.entries)
    by_test true e = rw (out e (when_exhausted e)) tt
    by_test false e = rw (when_open e) (by_answer answer (f.entries ∙ ap (λ l. old.entries ++ l) (f.whole e)))

-- a fault of the host ends what asked for the pairs
requests_end : {request : Option DotenvRequest} {old new : List Entry} {r : Result (List Pair) OpeningFailure} (fault : OpeningFailure) → r ≡ Err fault → IsTold request old new r → Requests request old new (Err fault)
requests_end fault e (holds asked is) = absurd (cc)
requests_end fault e (ends {fault = f} asked) = let same : fault ≡ f = cc in rw same asked

module _ (config : Config) (view : ModuleView) where
  -- they are asked for
  pub requested : (b : Bool) → asks_for view.settings.now ≡ b → (request : DotenvRequest) → b ≡ true → request ≡ request_in config view → request_if_any config view ≡ Some request
  requested true e request t is = rw (e, is) refl
  requested false e request t is = absurd (cc)

  -- no pairs are asked for
  pub not_asked : {A : Type 0} (log : List Entry) (es : List (String A × String A)) → asks_for view.settings.now ≡ false → es ≡ [] → IsTold (request_if_any config view) log log (Ok (map variable es))
  not_asked log es e none = rw (e, none) (holds unasked refl)

  module _ (request : DotenvRequest) (asked : asks_for view.settings.now ≡ true) (request_is : request ≡ request_in config view) (old new : List Entry) where
    -- the pairs are told
    pub asked_told : {A : Type 0} (pairs : List Pair) (es : List (String A × String A)) → Requests (Some request) old new (Ok pairs) → map variable es ≡ by_name pairs → IsTold (request_if_any config view) old new (Ok (map variable es))
    asked_told pairs es h is = rw (requested true asked request refl request_is) (holds h is)

    -- none are told
    pub asked_ended : (fault : OpeningFault) → Ended fault (Requests (Some request) old new) → Ended fault (IsTold (request_if_any config view) old new)
    asked_ended fault h = if_ended (Requests (Some request) old new) (IsTold (request_if_any config view) old new) (λ f a. rw (requested true asked request refl request_is) (ends a)) fault h

-- ---- a module's variables

module _ (opens : Opening) (view : ModuleView) (pairs : List Pair) (context : ExecutionContext) (is : IsContextOf opens view pairs context) (wanted : Option (Bor (BTreeSet ℕ))) (wanted_is : wanted ≡ (if view.settings.now.lazy then opens.wanted else None))
    (before : Frames) (own_is : before.own ≡ []) (outer_is : before.outer ≡ opens.constants.now.own ∷ opens.constants.now.outer) (old new : List Entry) (own : List BoundRow) where
  -- their frame is inside that of the constants
  pub inside : (fault : Option Fault) → Opens context before.outer (reads wanted) (ordered context.module.now.assignments.now context.module.now.evaluation_order.now) before.own old own new fault
      → OpensInside context (is_wanted opens view) old own new fault
  inside fault h =
      let around : before.outer ≡ context.scope.now.own ∷ context.scope.now.outer = outer_is ∙ ap (λ s. s.own ∷ s.outer) (sym is.scope) in
      rw (around, own_is, wanted_is) at h

  -- they are evaluated
  pub fills : Opens context before.outer (reads wanted) (ordered context.module.now.assignments.now context.module.now.evaluation_order.now) before.own old own new None → IsFilled opens view pairs old new (Ok own)
  fills h = evaluated context is (inside None h)

  -- one has no value
  pub fills_not : (error : Error) (fault : OpeningFault) → IsOpening error fault
      → (fault_of error ≢ memory → Opens context before.outer (reads wanted) (ordered context.module.now.assignments.now context.module.now.evaluation_order.now) before.own old own new (Some (fault_of error)))
      → Ended fault (IsFilled opens view pairs old new)
  fills_not error fault (out_of_memory e) h = tt
  fills_not error fault (opening_refused n) h = not_evaluated context is (record { own = own; opens = inside (Some (fault_of error)) (h n) })

-- ---- one module

module _ (opens : Opening) (place : ℕ) (view : ModuleView) (old mid new : List Entry) where
  -- its pairs are not told
  pub ended_untold : (fault : OpeningFault) → Ended fault (IsTold (request_if_any opens.config.now view) old new) → Ended fault (OpensOne opens place view old new)
  ended_untold fault h = if_ended (IsTold (request_if_any opens.config.now view) old new) (OpensOne opens place view old new) (λ f t. untold (requests_end f refl t)) fault h

  module _ (pairs : List Pair) (asked : Requests (request_if_any opens.config.now view) old mid (Ok pairs)) where
    -- its variables have values
    opened_by : {r : Result (List BoundRow) OpeningFailure} (own : List BoundRow) (held : List Pair) (frames : Frames) → r ≡ Ok own → held ≡ by_name pairs → frames ≡ framed (opens.constants.now.own ∷ opens.constants.now.outer) own
        → IsFilled opens view pairs mid new r → OpensOne opens place view old new (Ok (record { place = place; pairs = held; frames = frames }))
    opened_by own held frames e held_is frames_are (evaluated {own = o} context is h) = let same : own ≡ o = cc in rw (held_is, frames_are, same) (opened context asked is h)
    opened_by own held frames e held_is frames_are (not_evaluated context is h) = absurd (cc)

    -- one has none
    ended_by : {r : Result (List BoundRow) OpeningFailure} (fault : OpeningFailure) → r ≡ Err fault → IsFilled opens view pairs mid new r → OpensOne opens place view old new (Err fault)
    ended_by fault e (evaluated context is h) = absurd (cc)
    ended_by fault e (not_evaluated {fault = f} context is h) = let same : fault ≡ opening f = cc in rw same (unfilled context asked is h)

  module _ (held : List Pair) where
    -- its pairs are told
    pub told_pairs : {r : Result (List Pair) OpeningFailure} (P : Type 0) → r ≡ Ok held → IsTold (request_if_any opens.config.now view) old mid r
        → ((pairs : List Pair) → held ≡ by_name pairs → Requests (request_if_any opens.config.now view) old mid (Ok pairs) → P) → P
    told_pairs P e (holds {pairs = ps} {held = h} asked is) then_ = let same : held ≡ h = cc in then_ ps (same ∙ is) asked
    told_pairs P e (ends asked) then_ = absurd (cc)

    module _ (told : IsTold (request_if_any opens.config.now view) old mid (Ok held)) (before : Frames) (own_is : before.own ≡ []) (outer_is : before.outer ≡ opens.constants.now.own ∷ opens.constants.now.outer) where
      -- it opens
      pub module_opened : (frames : Frames) → frames.outer ≡ before.outer
          → ((pairs : List Pair) → held ≡ by_name pairs → before.own ≡ [] → before.outer ≡ opens.constants.now.own ∷ opens.constants.now.outer → IsFilled opens view pairs mid new (Ok frames.own))
          → OpensOne opens place view old new (Ok (record { place = place; pairs = held; frames = frames }))
      module_opened frames around h = told_pairs _ refl told (λ pairs is asked. opened_by pairs asked frames.own held frames refl is (ap (λ outer. framed outer frames.own) (around ∙ outer_is)) (h pairs is own_is outer_is))

      -- it doesn't
      pub module_ended : (fault : OpeningFault)
          → ((pairs : List Pair) → held ≡ by_name pairs → before.own ≡ [] → before.outer ≡ opens.constants.now.own ∷ opens.constants.now.outer → Ended fault (IsFilled opens view pairs mid new))
          → Ended fault (OpensOne opens place view old new)
      module_ended fault h =
          told_pairs _ refl told (λ pairs is asked. if_ended (IsFilled opens view pairs mid new) (OpensOne opens place view old new) (λ f t. ended_by pairs asked f refl t) fault (h pairs is own_is outer_is))

-- ---- one module after another

-- rows before those of the rest
abbrev pub after : List OpenedRow → Result (List OpenedRow) OpeningFailure → Result (List OpenedRow) OpeningFailure
after before (Ok rows) = Ok (before ++ rows)
after before (Err fault) = Err fault

module _ (opens : Opening) (modules : List ModuleView) where
  -- what the place and the rest lead to
  record Leads (place : ℕ) (places : List ℕ) (before rows : List OpenedRow) (old new : List Entry) (r : Result (List OpenedRow) OpeningFailure) : Type 0 where
    whole : Result (List OpenedRow) OpeningFailure
    opens_all : OpensAll opens modules (place ∷ places) old new whole
    is : after before whole ≡ after rows r

  leads : {place : ℕ} {places : List ℕ} {before rows : List OpenedRow} {old mid new : List Entry} {s : Result (List OpenedRow) OpeningFailure} (r : Result (List OpenedRow) OpeningFailure)
      → s ≡ Ok rows → OpensAfter opens modules place before old mid s → OpensAll opens modules places mid new r → Leads place places before rows old new r
  leads {before = before} {rows = rows} r e (not_there none) h = let same : before ≡ rows = cc in record { whole = r; opens_all = nowhere none h; is = ap (λ b. after b r) same }
  leads {before = before} {rows = rows} (Ok more) e (there {row = row} {rows = others} at one is) h =
      let same : rows ≡ before ++ row ∷ [] = cc in
      record { whole = Ok (row ∷ more); opens_all = one_more at one h; is = rw same (ap Ok (sym (append_assoc before (row ∷ []) more))) }
  leads (Err fault) e (there at one is) h = record { whole = Err fault; opens_all = fault_later at one h; is = refl }
  leads r e (refused at one) h = absurd (cc)

  fails : {place : ℕ} {before : List OpenedRow} {old new : List Entry} {s : Result (List OpenedRow) OpeningFailure} (fault : OpeningFailure) (places : List ℕ)
      → s ≡ Err fault → OpensAfter opens modules place before old new s → OpensAll opens modules (place ∷ places) old new (Err fault)
  fails fault places e (not_there none) = absurd (cc)
  fails fault places e (there at one is) = absurd (cc)
  fails fault places e (refused {fault = f} at one) = let same : fault ≡ f = cc in rw same (fault_here at one)

  -- ---- the module at one place

  module _ (place : ℕ) (before : List OpenedRow) (old new : List Entry) where
    pub opens_nowhere : length modules ≤ place → OpensAfter opens modules place before old old (Ok before)
    opens_nowhere h = not_there (slice_get_past modules place h)

    module _ (view : ModuleView) (lt : place < length modules) (view_is : view ≡ get_or modules place view) where
      pub opens_here : (all now : List Opened) (o : Opened) → now ≡ all ++ o ∷ [] → before ≡ map opened_row all → OpensOne opens place view old new (Ok (opened_row o)) → OpensAfter opens modules place before old new (Ok (map opened_row now))
      opens_here all now o is before_is h =
          there (slice_get_read modules (length modules) place view refl lt view_is) h (ap (map opened_row) is ∙ (map-append opened_row all (o ∷ []) ∙ ap (λ rows. rows ++ opened_row o ∷ []) (sym before_is)))

      pub ended_here : (fault : OpeningFault) → Ended fault (OpensOne opens place view old new) → Ended fault (OpensAfter opens modules place before old new)
      ended_here fault h = if_ended (OpensOne opens place view old new) (OpensAfter opens modules place before old new) (λ f t. refused (slice_get_read modules (length modules) place view refl lt view_is) t) fault h

  -- whatever the places that are left lead to from here, all lead to
  pub record OpensOn (places : List ℕ) (old : List Entry) (i : ℕ) (rows : List OpenedRow) (mid : List Entry) : Type 0 where
    pub on : (new : List Entry) (r : Result (List OpenedRow) OpeningFailure) → OpensAll opens modules (drop i places) mid new r → OpensAll opens modules places old new (after rows r)

  module _ (places : List ℕ) (old : List Entry) where
    pub opens_none : OpensOn places old 0 [] old
    opens_none = record { on = λ new r h. at new r h }
      where
        at : (new : List Entry) (r : Result (List OpenedRow) OpeningFailure) → OpensAll opens modules places old new r → OpensAll opens modules places old new (after [] r)
        at new (Ok rows) h = h
        at new (Err fault) h = h

    -- a place is before those that are left after it
    pub split : (i place d : ℕ) → i < length places → place ≡ get_or places i d → drop i places ≡ place ∷ drop (i + 1) places
    split i place d lt is = let parts = drop-cons places i d lt in rw add-one (parts ∙ ap (λ y. y ∷ drop (suc i) places) (sym is))

    pub opens_more : (i place d : ℕ) (before rows : List OpenedRow) (mid next : List Entry) → OpensOn places old i before mid → i < length places → place ≡ get_or places i d
        → OpensAfter opens modules place before mid next (Ok rows) → OpensOn places old (i + 1) rows next
    opens_more i place d before rows mid next h lt is one = record {
      on = λ new r rest.
          let l = leads {before = before} {rows = rows} r refl one rest in
          subst (OpensAll opens modules places old new) l.is (h.on new l.whole (rw (split i place d lt is) l.opens_all));
    }

    pub opens_fails : (i place d : ℕ) (before : List OpenedRow) (mid new : List Entry) (fault : OpeningFailure) → OpensOn places old i before mid → i < length places → place ≡ get_or places i d
        → OpensAfter opens modules place before mid new (Err fault) → OpensAll opens modules places old new (Err fault)
    opens_fails i place d before mid new fault h lt is one = h.on new (Err fault) (rw (split i place d lt is) (fails fault (drop (i + 1) places) refl one))

    pub ended_at : (i place d : ℕ) (before : List OpenedRow) (mid new : List Entry) (fault : OpeningFault) → OpensOn places old i before mid → i < length places → place ≡ get_or places i d
        → Ended fault (OpensAfter opens modules place before mid new) → Ended fault (OpensAll opens modules places old new)
    ended_at i place d before mid new fault h lt is one =
        if_ended (OpensAfter opens modules place before mid new) (OpensAll opens modules places old new) (λ f t. opens_fails i place d before mid new f h lt is t) fault one

    pub opens_end : (i : ℕ) (rows : List OpenedRow) (mid : List Entry) → OpensOn places old i rows mid → length places ≤ i → OpensAll opens modules places old mid (Ok rows)
    opens_end i rows mid h le = subst (λ all. OpensAll opens modules places old mid (Ok all)) (append-nil rows) (h.on mid (Ok []) (rw (drop_all i places le) none_left))
