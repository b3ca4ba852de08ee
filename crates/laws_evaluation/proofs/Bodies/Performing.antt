-- Parts of a run one after another.
use Rattle.std.proofs.Common.{◌≡◌, ◌≢◌, ◌⊎◌, inl, inr, ℕ, List, [], ◌∷◌, ◌++◌, append_assoc, append-nil, Bool, true, false, Result, Ok, Err, refl, sym, ap, subst, ◌∙◌}
use Rattle.just_host.specs.declared.entry.Entry.{Entry}
use Rattle.just_host.specs.declared.entry.Entry.TheVariants.{Asked, Line, Script, Confirm, Show, Dotenv}
use Rattle.just_host.specs.declared.host.Status.{Status}
use Rattle.just_host.specs.Record.{Record}
use Rattle.just_host.specs.Follows.{Begins, Follows, Nothing, unanswered}
use Rattle.just_host.specs.AskingLaws.{asked_nothing}
use Rattle.just_host.specs.Kinds.{AsksQuestions, AsksWork, Only}
use Rattle.just_host.specs.KindsLaws.{every, every_question, every_work, only_nothing}
use Rattle.just_host.specs.Steps.{was_open}
use Rattle.meaning_dialogues.specs.Faults.{Fault, memory}
use Rattle.meaning_dialogues.specs.Dialogue.{Dialogue, Evaluates, Reading}
use Rattle.meaning_runs.specs.Failures.{Failure, evaluation}
use Rattle.meaning_runs.specs.Task.{Task, Job, line, script, handed, ends, shows, hands, confirms, ◌>>=◌, lift, as_failure, TaskBegins, TaskLeads}
use Rattle.just_host.specs.declared.host.Confirmation.{Confirmation}
use Rattle.meaning_runs.proofs.Tasks.{lift_goes}
use Rattle.meaning_runs.proofs.Beginnings.{lift_begins, task_begins_first, task_begins_here, task_begins_on, task_whole_begins}
use Rattle.meaning_evaluation.specs.Calling.{shown_if}
use Rattle.laws_evaluation.specs.Bodies.Performing.{Performs, Stays, LeadsOn}
use Rattle.laws_evaluation.proofs.Bodies.Orders.{leads_then, leads_stops}

-- ---- records that can grow no more

module _ {H : Type 0} (goes : H → List Entry → H → Type 0) where
  -- a record that can grow no more stays as it is, whatever is asked of it
  pub stays_asked : Nothing goes → (old new : Record H) → AsksQuestions goes old new → Stays old new
  stays_asked nothing old new asks = (every_question goes old new asks old (asked_nothing (Only every goes) (only_nothing every goes nothing) old)).followed.stays

  pub stays_worked : Nothing goes → (dry : Bool) (old new : Record H) → AsksWork dry goes old new → Stays old new
  stays_worked nothing dry old new asks = (every_work goes old new dry asks old (asked_nothing (Only every goes) (only_nothing every goes nothing) old)).followed.stays

-- a record that can grow no more stays as it is over two parts
pub stays_through : {H : Type 0} (old mid new : Record H) → Stays old mid → Stays mid new → Stays old new
stays_through old mid new first second full =
    let same : mid ≡ old = first full in
    second (ap (λ r. r.exhausted) same ∙ full) ∙ same

-- a record can grow still, or it can't
by_growth : {H : Type 0} (P : Type 0) (now : Record H) → (now.exhausted ≡ false → P) → (now.exhausted ≡ true → P) → P
by_growth P now still full = elim now.exhausted as (λ v. now.exhausted ≡ v → P) [
  | true ↦ full
  | false ↦ still
] refl

-- ---- parts in order

module _ {H A B : Type 0} (reading : Reading) where
  -- a part goes through, and then the next one is performed
  pub performs_then : (t : Task A) (k : A → Task B) (old mid new : Record H) (a : A) (r : Result B Failure) → Performs reading t old mid (Ok a) → Stays mid new → Performs reading (k a) mid new r → Performs reading (t >>= k) old new r
  performs_then t k old mid new a r h stays g = record {
    goes = λ e n. leads_then reading t k old.entries mid.entries new.entries a r (h.goes (was_open mid new stays e) (λ q. cc)) (g.goes e n);
    begins = by_growth (TaskBegins reading (t >>= k) old.entries new.entries) mid
        (λ still. task_begins_on reading t k old.entries mid.entries new.entries a (h.goes still (λ q. cc)) g.begins)
        (λ full. subst (λ s. TaskBegins reading (t >>= k) old.entries s.entries) (sym (stays full)) (task_begins_first reading t k old.entries mid.entries h.begins));
  }

  -- a part fails, and nothing follows
  pub performs_stops : (t : Task A) (k : A → Task B) (old new : Record H) (f : Failure) → Performs reading t old new (Err f) → Performs reading (t >>= k) old new (Err f)
  performs_stops t k old new f h = record {
    goes = λ e n. leads_stops reading t k old.entries new.entries f (h.goes e (λ q. n (cc)));
    begins = task_begins_first reading t k old.entries new.entries h.begins;
  }

-- a part of a run that ends for want of memory is an evaluation that does
not_memory : {A : Type 0} (r : Result A Fault) → as_failure r ≢ Err (evaluation memory) → r ≢ Err memory
not_memory r n e = n (ap as_failure e)

-- a record that can still grow grew by the whole piece
followed_by : {H : Type 0} (goes : H → List Entry → H → Type 0) (old new : Record H) (piece : List Entry) → Follows goes old piece new → new.exhausted ≡ false → new.entries ≡ old.entries ++ piece
followed_by goes old new piece f e = f.entries ∙ ap (λ l. old.entries ++ l) (f.whole e)

-- ---- what is recorded of what goes to the host

-- what is handed out without an answer is what was recorded, where nothing was to be answered
abbrev IsEvent : Entry → Type 0
IsEvent (Asked question answer) = ⊥
IsEvent (Line job status) = Unit {0}
IsEvent (Script job status) = Unit {0}
IsEvent (Confirm prompt answer) = Unit {0}
IsEvent (Show text) = Unit {0}
IsEvent (Dotenv request answer) = ⊥

event_kept : (entry kept : Entry) → IsEvent entry → entry ≡ unanswered kept → kept ≡ entry
event_kept entry (Asked question answer) h e = absurd (subst IsEvent e h)
event_kept entry (Line job status) h e = sym e
event_kept entry (Script job status) h e = sym e
event_kept entry (Confirm prompt answer) h e = sym e
event_kept entry (Show text) h e = sym e
event_kept entry (Dotenv request answer) h e = absurd (subst IsEvent e h)

none_begins : (part : List Entry) → Begins part [] → part ≡ []
none_begins [] h = refl
none_begins (kept ∷ part) h = absurd h

-- of one event all is recorded, or nothing
event_begins : (entry : Entry) (part : List Entry) → IsEvent entry → Begins part (entry ∷ []) → (part ≡ []) ⊎ (part ≡ entry ∷ [])
event_begins entry [] is h = inl refl
event_begins entry (kept ∷ part) is h = elim h [
  | inl k ↦ inr (ap (λ e. e ∷ part) (sym k.0) ∙ ap (λ l. entry ∷ l) (none_begins part k.1))
  | inr k ↦ inr (ap (λ e. e ∷ part) (event_kept entry kept is k.0) ∙ ap (λ l. entry ∷ l) k.1)
]

-- what begins a task where nothing, or one event, was recorded
by_event : {H A : Type 0} (reading : Reading) (goes : H → List Entry → H → Type 0) (task : Task A) (entry : Entry) (old mid : Record H) → IsEvent entry → Follows goes old (entry ∷ []) mid
    → TaskBegins reading task old.entries (old.entries ++ entry ∷ []) → TaskBegins reading task old.entries mid.entries
by_event reading goes task entry old mid is f all =
    let whole : (part : List Entry) → (part ≡ []) ⊎ (part ≡ entry ∷ []) → TaskBegins reading task old.entries (old.entries ++ part)
    = λ part h. elim h [
      | inl e ↦ subst (λ l. TaskBegins reading task old.entries l) (sym (ap (λ p. old.entries ++ p) e ∙ append-nil old.entries)) (task_begins_here reading task old.entries)
      | inr e ↦ subst (λ p. TaskBegins reading task old.entries (old.entries ++ p)) (sym e) all
    ] in
    subst (λ l. TaskBegins reading task old.entries l) (sym f.entries) (whole f.part (event_begins entry f.part is f.begins))

handed_is_event : (job : Job) (status : Status) → IsEvent (handed job status)
handed_is_event (line job) status = tt
handed_is_event (script job) status = tt

module _ {A : Type 0} (reading : Reading) where
  shown_leads : (text : List ℕ) (task : Task A) (old new : List Entry) (r : Result A Failure) → TaskLeads reading task (old ++ Show text ∷ []) new r → TaskLeads reading (shows text task) old new r
  shown_leads text task old new r l = record {
    piece = Show text ∷ l.piece;
    entries = l.entries ∙ append_assoc old (Show text ∷ []) l.piece;
    goes = record { rest = l.piece; is = refl; behind = l.goes };
  }

  shown_begins : (text : List ℕ) (task : Task A) (old new : List Entry) → TaskBegins reading task (old ++ Show text ∷ []) new → TaskBegins reading (shows text task) old new
  shown_begins text task old new b = record { rest = b.rest; result = b.result; leads = shown_leads text task old (new ++ b.rest) b.result b.leads }

module _ {H A : Type 0} (reading : Reading) where
  -- nothing is left to do
  pub performs_ends : (old : Record H) (end : Result A Failure) → Performs reading (ends end) old old end
  performs_ends old end = record {
    goes = λ e n. record { piece = []; entries = sym (append-nil old.entries); goes = (refl, refl) };
    begins = task_begins_here reading (ends end) old.entries;
  }

  -- memory ran out before anything was done
  pub performs_memory : (task : Task A) (old : Record H) → Performs reading task old old (Err (evaluation memory))
  performs_memory task old = record { goes = λ e n. absurd (n refl); begins = task_begins_here reading task old.entries }

  -- memory ran out after a beginning
  pub performs_cut : (task : Task A) (old new : Record H) → TaskBegins reading task old.entries new.entries → Performs reading task old new (Err (evaluation memory))
  performs_cut task old new b = record { goes = λ e n. absurd (n refl); begins = b }

  -- an evaluation, as a part of a run
  pub performs_evaluated : (d : Dialogue A) (old new : Record H) (r : Result A Fault) → Evaluates reading d old.entries new.entries r → Performs reading (lift d) old new (as_failure r)
  performs_evaluated d old new r h = record {
    goes = λ e n. lift_goes reading d old.entries new.entries r (h.goes (not_memory r n));
    begins = lift_begins reading d old.entries new.entries h.begins;
  }

  -- ---- what goes to the host

  -- a text is shown, and then the next part is performed
  pub performs_shown : (goes : H → List Entry → H → Type 0) (text : List ℕ) (task : Task A) (old mid new : Record H) (r : Result A Failure) → Follows goes old (Show text ∷ []) mid → Stays mid new → Performs reading task mid new r → Performs reading (shows text task) old new r
  performs_shown goes text task old mid new r f stays h = record {
    goes = λ e n. shown_leads reading text task old.entries new.entries r (subst (λ l. TaskLeads reading task l new.entries r) (followed_by goes old mid (Show text ∷ []) f (was_open mid new stays e)) (h.goes e n));
    begins = by_growth (TaskBegins reading (shows text task) old.entries new.entries) mid
        (λ still. shown_begins reading text task old.entries new.entries (subst (λ l. TaskBegins reading task l new.entries) (followed_by goes old mid (Show text ∷ []) f still) h.begins))
        (λ full. subst (λ s. TaskBegins reading (shows text task) old.entries s.entries) (sym (stays full))
        (by_event reading goes (shows text task) (Show text) old mid tt f (shown_begins reading text task old.entries (old.entries ++ Show text ∷ []) (task_begins_here reading task (old.entries ++ Show text ∷ [])))));
  }

  -- where one event was recorded, or nothing, and nothing is left to do after it
  performs_event : (goes : H → List Entry → H → Type 0) (task : Task A) (entry : Entry) (old new : Record H) (r : Result A Failure) → IsEvent entry → Follows goes old (entry ∷ []) new
      → TaskLeads reading task old.entries (old.entries ++ entry ∷ []) r → Performs reading task old new r
  performs_event goes task entry old new r is f whole = record {
    goes = λ e n. subst (λ l. TaskLeads reading task old.entries l r) (sym (followed_by goes old new (entry ∷ []) f e)) whole;
    begins = by_event reading goes task entry old new is f (task_whole_begins reading task old.entries (old.entries ++ entry ∷ []) r whole);
  }

  -- a job is handed over, and its status says how it ends
  pub performs_handed : (goes : H → List Entry → H → Type 0) (job : Job) (next : Status → Result A Failure) (old new : Record H) (status : Status) → Follows goes old (handed job status ∷ []) new → Performs reading (hands job (λ s. ends (next s))) old new (next status)
  performs_handed goes job next old new status f =
      performs_event goes (hands job (λ s. ends (next s))) (handed job status) old new (next status) (handed_is_event job status) f
      (record { piece = handed job status ∷ []; entries = refl; goes = (status, record { rest = []; is = refl; behind = (refl, refl) }) })

  -- the user is asked, and the answer says how it ends
  pub performs_confirmed : (goes : H → List Entry → H → Type 0) (prompt : List ℕ) (next : Confirmation → Result A Failure) (old new : Record H) (answer : Confirmation) → Follows goes old (Confirm prompt answer ∷ []) new → Performs reading (confirms prompt (λ a. ends (next a))) old new (next answer)
  performs_confirmed goes prompt next old new answer f =
      performs_event goes (confirms prompt (λ a. ends (next a))) (Confirm prompt answer) old new (next answer) tt f
      (record { piece = Confirm prompt answer ∷ []; entries = refl; goes = (answer, record { rest = []; is = refl; behind = (refl, refl) }) })

  -- a text that is to be shown is shown first
  pub shown_first : (goes : H → List Entry → H → Type 0) (b : Bool) (text : List ℕ) (task : Task A) (old mid new : Record H) (r : Result A Failure) → b ≡ true → Follows goes old (Show text ∷ []) mid → Stays mid new → Performs reading task mid new r → Performs reading (shown_if b text task) old new r
  shown_first goes b text task old mid new r e f stays h = rw e (performs_shown goes text task old mid new r f stays h)

  -- a text that is not to be shown is passed over
  pub not_shown : (b : Bool) (text : List ℕ) (task : Task A) (old new : Record H) (r : Result A Failure) → b ≡ false → Performs reading task old new r → Performs reading (shown_if b text task) old new r
  not_shown b text task old new r e h = rw e h

  -- ---- what is left of a task

  -- before the first part
  pub leads_first : (whole : Task A) (old : Record H) → LeadsOn reading whole whole old old
  leads_first whole old = record { on = λ e new r h. h; begins = task_begins_here reading whole old.entries }

  -- what begins what is left begins the whole
  pub on_begins : (whole left : Task A) (old mid new : Record H) → LeadsOn reading whole left old mid → Stays mid new → TaskBegins reading left mid.entries new.entries → TaskBegins reading whole old.entries new.entries
  on_begins whole left old mid new h stays b = by_growth (TaskBegins reading whole old.entries new.entries) mid
      (λ still. record { rest = b.rest; result = b.result; leads = h.on still (new.entries ++ b.rest) b.result b.leads })
      (λ full. subst (λ s. TaskBegins reading whole old.entries s.entries) (sym (stays full)) h.begins)

  -- what is left is performed, and so the whole is
  pub leads_end : (whole left : Task A) (old mid new : Record H) (r : Result A Failure) → LeadsOn reading whole left old mid → Stays mid new → Performs reading left mid new r → Performs reading whole old new r
  leads_end whole left old mid new r h stays g = record {
    goes = λ e n. h.on (was_open mid new stays e) new.entries r (g.goes e n);
    begins = on_begins whole left old mid new h stays g.begins;
  }

  -- memory ran out where this is left
  pub leads_memory : (whole left : Task A) (old mid : Record H) → LeadsOn reading whole left old mid → Performs reading whole old mid (Err (evaluation memory))
  leads_memory whole left old mid h = performs_cut whole old mid h.begins

  -- what is left goes on by a part that goes through to what is left then
  pub leads_more : (whole left rest : Task A) (old mid new : Record H) → LeadsOn reading whole left old mid → Stays mid new
      → (new.exhausted ≡ false → (last : List Entry) (r : Result A Failure) → TaskLeads reading rest new.entries last r → TaskLeads reading left mid.entries last r)
      → TaskBegins reading left mid.entries new.entries → LeadsOn reading whole rest old new
  leads_more whole left rest old mid new h stays goes b = record {
    on = λ e last r d. h.on (was_open mid new stays e) last r (goes e last r d);
    begins = on_begins whole left old mid new h stays b;
  }
