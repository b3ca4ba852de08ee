-- What was recorded of openings is their beginning, step by step.
use Rattle.std.proofs.Common.{◌≡◌, inl, inr, ℕ, ◌+◌, ◌<◌, ◌≤◌, true, List, [], ◌∷◌, ◌++◌, append-nil, length, get_or, drop, Option, Some, None, Result, Ok, Err, refl, sym, ap, subst}
use Rattle.std.specs.Prelude.{if◌then◌else◌}
use Rattle.std.specs.Borrow.{Bor}
use Rattle.std.specs.BTreeSet.{BTreeSet}
use Rattle.std.proofs.lemmas.Option.{slice_get_past, slice_get_read}
use Rattle.just_host.specs.Follows.{Begins, Follows, unanswered}
use Rattle.just_host.specs.Record.{Record}
use Rattle.just_host.specs.declared.entry.Entry.{Entry}
use Rattle.just_host.specs.declared.entry.Entry.TheVariants.{Asked, Line, Script, Confirm, Show, Dotenv}
use Rattle.just_host.specs.declared.host.HostFault.{HostFault}
use Rattle.just_host.specs.declared.job.DotenvRequest.{DotenvRequest}
use Rattle.just_host.specs.declared.job.Pair.{Pair}
use Rattle.just_host.specs.declared.config.Config.{Config}
use Rattle.just_value.specs.Frames.{BoundRow, Frames}
use Rattle.evaluate_context.specs.Surroundings.{by_name}
use Rattle.evaluate_context.specs.declared.context.ExecutionContext.{ExecutionContext}
use Rattle.evaluate_context.specs.declared.context.ModuleView.{ModuleView}
use Rattle.evaluate_variables.specs.Opened.{BeginsOpening, OpensInside, ordered, reads}
use Rattle.meaning_dialogues.specs.Faults.{Fault}
use Rattle.meaning_evaluation.specs.Requests.{OpeningFailure, Requests, told, refused as request_refused}
use Rattle.analyze_calls.specs.Opening.{AllBegin, FillsBegin, IsContextOf, IsTold, MayBeTold, OneBegins, OpenedRow, OpensAfter, asks_for, is_wanted, request_if_any, request_in}
use Rattle.analyze_calls.specs.Opening.{not_told, was_told, opened, unfilled, not_there, there, refused, nothing, asked as answer_begins, goes as opening_begins, none_begins, nowhere_begins, one_begins, later_begins}
use Rattle.analyze_calls.specs.declared.opening.Opening.{Opening}
use Rattle.analyze_calls.proofs.Openings.{inside, requested, split, told_pairs}

-- ---- what is asked for

-- the whole of a request's record
one_told : (request : DotenvRequest) (old new : List Entry) (answer : Result (List Pair) HostFault) → new ≡ old ++ Dotenv request answer ∷ [] → MayBeTold (Some request) old new
one_told request old new (Ok pairs) e = was_told (told e)
one_told request old new (Err fault) e = was_told (request_refused e)

-- what is kept where the answer was not handed out is the whole as well
kept_told : (request : DotenvRequest) (old : List Entry) (answer : Result (List Pair) HostFault) (kept : Entry) → Dotenv request answer ≡ unanswered kept → MayBeTold (Some request) old (old ++ kept ∷ [])
kept_told request old answer (Dotenv r a) e = one_told request old (old ++ Dotenv r a ∷ []) a (ap (λ q. old ++ Dotenv q a ∷ []) (cc))
kept_told request old answer (Asked question a) e = absurd (cc)
kept_told request old answer (Line job status) e = absurd (cc)
kept_told request old answer (Script job status) e = absurd (cc)
kept_told request old answer (Confirm prompt a) e = absurd (cc)
kept_told request old answer (Show text) e = absurd (cc)

-- nothing is kept, or one entry
part_told : (request : DotenvRequest) (old : List Entry) (answer : Result (List Pair) HostFault) (part : List Entry) → Begins part (Dotenv request answer ∷ []) → MayBeTold (Some request) old (old ++ part)
part_told request old answer [] h = not_told (append-nil old)
part_told request old answer (kept ∷ []) h =
    elim h [ inl k ↦ one_told request old (old ++ kept ∷ []) answer (ap (λ e. old ++ e ∷ []) (sym k.0)) | inr k ↦ kept_told request old answer kept k.0 ]
part_told request old answer (kept ∷ more ∷ rest) h = elim h [ inl k ↦ absurd k.1 | inr k ↦ absurd cc ]

-- the host is asked once, and however that ends, nothing was recorded, or an answer
pub may_be_told : {H : Type 0} (goes : H → List Entry → H → Type 0) (old new : Record H) (request : DotenvRequest) (answer : Result (List Pair) HostFault) → Follows goes old (Dotenv request answer ∷ []) new
    → MayBeTold (Some request) old.entries new.entries
may_be_told goes old new request answer f = subst (λ log. MayBeTold (Some request) old.entries log) (sym f.entries) (part_told request old.entries answer f.part f.begins)

-- what may be told to a request may be told to a module that asks for it
pub asked_begins : (config : Config) (view : ModuleView) (request : DotenvRequest) → asks_for view.settings.now ≡ true → request ≡ request_in config view → (old new : List Entry)
    → MayBeTold (Some request) old new → MayBeTold (request_if_any config view) old new
asked_begins config view request asks is old new h = rw (requested config view true asks request refl is) h

-- ---- a module's variables

module _ (opens : Opening) (view : ModuleView) (pairs : List Pair) (context : ExecutionContext) (is : IsContextOf opens view pairs context)
    (wanted : Option (Bor (BTreeSet ℕ))) (wanted_is : wanted ≡ (if view.settings.now.lazy then opens.wanted else None))
    (before : Frames) (own_is : before.own ≡ []) (outer_is : before.outer ≡ opens.constants.now.own ∷ opens.constants.now.outer) (old new : List Entry) where
  -- what was recorded is the beginning of what they record
  pub fills_begin : BeginsOpening context before.outer (reads wanted) (ordered context.module.now.assignments.now context.module.now.evaluation_order.now) before.own old new → FillsBegin opens view pairs old new
  fills_begin h = record {
    context = context;
    is = is;
    begins = record {
      rest = h.rest;
      last = h.last;
      fault = h.fault;
      assigns = inside opens view pairs context is wanted wanted_is before own_is outer_is old (new ++ h.rest) h.last h.fault h.assigns;
    };
  }

-- ---- one module

module _ (opens : Opening) (place : ℕ) (view : ModuleView) (old mid new : List Entry) where
  -- nothing was recorded of it, or what it was told
  pub told_begins : MayBeTold (request_if_any opens.config.now view) old new → OneBegins opens place view old new
  told_begins (not_told e) = nothing e
  told_begins (was_told h) = answer_begins h

  ends_somehow : (pairs : List Pair) (context : ExecutionContext) → Requests (request_if_any opens.config.now view) old mid (Ok pairs) → IsContextOf opens view pairs context
      → (rest : List Entry) (last : List BoundRow) (fault : Option Fault) → OpensInside context (is_wanted opens view) mid last (new ++ rest) fault → OneBegins opens place view old new
  ends_somehow pairs context asked is rest last None h = opening_begins rest (opened context asked is h)
  ends_somehow pairs context asked is rest last (Some fault) h = opening_begins rest (unfilled context asked is (record { own = last; opens = h }))

  -- it was told its pairs, and what was recorded then is the beginning of what its variables record
  pub filling_begins : (held : List Pair) → IsTold (request_if_any opens.config.now view) old mid (Ok held) → (before : Frames) → before.own ≡ [] → before.outer ≡ opens.constants.now.own ∷ opens.constants.now.outer
      → ((pairs : List Pair) → held ≡ by_name pairs → before.own ≡ [] → before.outer ≡ opens.constants.now.own ∷ opens.constants.now.outer → FillsBegin opens view pairs mid new) → OneBegins opens place view old new
  filling_begins held is_told before own_is outer_is h =
      told_pairs opens place view old mid new held (OneBegins opens place view old new) refl is_told
      (λ pairs is asked. let f = h pairs is own_is outer_is in ends_somehow pairs f.context asked f.is f.begins.rest f.begins.last f.begins.fault f.begins.assigns)

-- ---- one module after another

module _ (opens : Opening) (modules : List ModuleView) where
  -- further places may follow
  further : {places : List ℕ} {old new : List Entry} (more : List ℕ) → AllBegin opens modules places old new → AllBegin opens modules (places ++ more) old new
  further more none_begins = none_begins
  further more (nowhere_begins none h) = nowhere_begins none (further more h)
  further more (one_begins at h) = one_begins at h
  further more (later_begins at one h) = later_begins at one (further more h)

  -- a place that is passed is before those that are left
  passed_begins : {place : ℕ} {before : List OpenedRow} {old mid : List Entry} {s : Result (List OpenedRow) OpeningFailure} (rows : List OpenedRow) (places : List ℕ) (new : List Entry)
      → s ≡ Ok rows → OpensAfter opens modules place before old mid s → AllBegin opens modules places mid new → AllBegin opens modules (place ∷ places) old new
  passed_begins rows places new e (not_there none) h = nowhere_begins none h
  passed_begins rows places new e (there at one is) h = later_begins at one h
  passed_begins rows places new e (refused at one) h = absurd (cc)

  -- ---- the module at one place

  module _ (place : ℕ) where
    -- there is none
    pub begins_nowhere : (log : List Entry) → length modules ≤ place → AllBegin opens modules (place ∷ []) log log
    begins_nowhere log h = nowhere_begins (slice_get_past modules place h) none_begins

    -- what was recorded is its beginning
    pub begins_here : (view : ModuleView) → place < length modules → view ≡ get_or modules place view → (old new : List Entry) → OneBegins opens place view old new → AllBegin opens modules (place ∷ []) old new
    begins_here view lt is old new h = one_begins (slice_get_read modules (length modules) place view refl lt is) h

  -- ---- the modules at all places

  -- what begins the places that are left from here begins all
  pub record BeginsOn (places : List ℕ) (old : List Entry) (i : ℕ) (mid : List Entry) : Type 0 where
    pub on : (new : List Entry) → AllBegin opens modules (drop i places) mid new → AllBegin opens modules places old new

  module _ (places : List ℕ) (old : List Entry) where
    pub begins_none : BeginsOn places old 0 old
    begins_none = record { on = λ new h. h }

    pub begins_more : (i place d : ℕ) (before rows : List OpenedRow) (mid next : List Entry) → BeginsOn places old i mid → i < length places → place ≡ get_or places i d
        → OpensAfter opens modules place before mid next (Ok rows) → BeginsOn places old (i + 1) next
    begins_more i place d before rows mid next h lt is one = record { on = λ new rest. h.on new (rw (split opens modules places old i place d lt is) (passed_begins {before = before} rows (drop (i + 1) places) new refl one rest)) }

    -- it ends at a place
    pub begins_at : (i place d : ℕ) (mid new : List Entry) → BeginsOn places old i mid → i < length places → place ≡ get_or places i d → AllBegin opens modules (place ∷ []) mid new → AllBegin opens modules places old new
    begins_at i place d mid new h lt is one = h.on new (rw (split opens modules places old i place d lt is) (further (drop (i + 1) places) one))

    -- it ends behind a place
    pub begins_end : (i : ℕ) (mid : List Entry) → BeginsOn places old i mid → AllBegin opens modules places old mid
    begins_end i mid h = h.on mid none_begins
