-- One task after another, and what a run of a task means.
use Rattle.std.proofs.Common.{◌≡◌, List, [], ◌∷◌, ◌++◌, append-nil, append_assoc, Option, Some, None, option_and_then, Result, Ok, Err, refl, sym, ap, ◌∙◌, subst, MatchResult}
use Rattle.just_host.specs.declared.entry.Entry.{Entry}
use Rattle.just_host.specs.declared.entry.Entry.TheVariants.{Asked, Confirm, Show}
use Rattle.just_host.specs.declared.host.Status.{Status}
use Rattle.just_host.specs.declared.host.Answer.{Answer}
use Rattle.just_host.specs.declared.host.Confirmation.{Confirmation}
use Rattle.meaning_dialogues.specs.Faults.{Fault}
use Rattle.meaning_dialogues.specs.Dialogue.{Dialogue, Ends, Asks, Reads, DialogueGoes, Reading, Lookup, Variable}
use Rattle.meaning_dialogues.specs.Evaluation.{Value}
use Rattle.meaning_dialogues.specs.Meaning.{Meaning, meaning, with_meaning}
use Rattle.meaning_dialogues.proofs.Dialogues.{weaker}
use Rattle.meaning_dialogues.proofs.Unfolding.{IsMeant}
use Rattle.meaning_runs.specs.Failures.{Failure, evaluation}
use Rattle.meaning_runs.specs.Task.{Task, ends, asks, reads, shows, hands, confirms, ◌>>=◌, lift, as_failure, Job, line, script, handed, Begins, TaskGoes, TaskLeads}
use Rattle.meaning_runs.specs.Told.{Answers, holds, Agrees}
use Rattle.meaning_runs.specs.Naive.{RunPart, End, went, failed, unanswered}
use Rattle.meaning_runs.specs.Laws.{events_of}
use Rattle.meaning_runs.specs.Meant.{is_event, ended_as, only, behind, if_told, if_meant, status_of, task_meaning}

-- ---- one after the other

pub begins_more : {entry : Entry} {piece : List Entry} (more : List Entry) (P Q : List Entry → Type 0) → ((rest : List Entry) → P rest → Q (rest ++ more)) → Begins entry piece P → Begins entry (piece ++ more) Q
begins_more {entry = entry} more P Q go b = record { rest = b.rest ++ more; is = ap (λ l. l ++ more) b.is; behind = go b.rest b.behind }

pub begins_as : {entry : Entry} {piece : List Entry} (P Q : List Entry → Type 0) → ((rest : List Entry) → P rest → Q rest) → Begins entry piece P → Begins entry piece Q
begins_as P Q go b = record { rest = b.rest; is = b.is; behind = go b.rest b.behind }

module _ {A B : Type 0} (reading : Reading) (k : A → Task B) where
  -- both go through
  pub goes_on : (t : Task A) (piece more : List Entry) (a : A) (r : Result B Failure) → TaskGoes reading t piece (Ok a) → TaskGoes reading (k a) more r → TaskGoes reading (t >>= k) (piece ++ more) r
  goes_on (ends (Ok b)) piece more a r h g =
      let e : a ≡ b = cc in
      subst (λ l. TaskGoes reading (k b) (l ++ more) r) (sym h.0) (subst (λ x. TaskGoes reading (k x) more r) e g)
  goes_on (ends (Err f)) piece more a r h g = absurd (cc)
  goes_on (asks q next) piece more a r h g = (h.0, begins_more more _ _ (λ rest b. goes_on (next h.0) rest more a r b g) h.1)
  goes_on (reads p x next) piece more a r h g =
      weaker (reading p x) (λ v b. goes_on (next v) piece more a r b g) (λ f b. absurd (cc)) h
  goes_on (shows text next) piece more a r h g = begins_more more _ _ (λ rest b. goes_on next rest more a r b g) h
  goes_on (hands job next) piece more a r h g = (h.0, begins_more more _ _ (λ rest b. goes_on (next h.0) rest more a r b g) h.1)
  goes_on (confirms prompt next) piece more a r h g = (h.0, begins_more more _ _ (λ rest b. goes_on (next h.0) rest more a r b g) h.1)

  -- the first fails
  pub stops : (t : Task A) (piece : List Entry) (failure : Failure) → TaskGoes reading t piece (Err failure) → TaskGoes reading (t >>= k) piece (Err failure)
  stops (ends (Ok b)) piece failure h = absurd (cc)
  stops (ends (Err f)) piece failure h = (h.0, cc)
  stops (asks q next) piece failure h = (h.0, begins_as _ _ (λ rest b. stops (next h.0) rest failure b) h.1)
  stops (reads p x next) piece failure h = weaker (reading p x) (λ v b. stops (next v) piece failure b) (λ f b. (b.0, cc)) h
  stops (shows text next) piece failure h = begins_as _ _ (λ rest b. stops next rest failure b) h
  stops (hands job next) piece failure h = (h.0, begins_as _ _ (λ rest b. stops (next h.0) rest failure b) h.1)
  stops (confirms prompt next) piece failure h = (h.0, begins_as _ _ (λ rest b. stops (next h.0) rest failure b) h.1)

-- ---- what it means

-- it reads only these variables
abbrev pub Sound : {A : Type 0} → (Lookup → Variable → Type 0) → Task A → Type 0
Sound P (ends end) = Unit {0}
Sound P (asks question next) = (answer : Answer) → Sound P (next answer)
Sound P (reads place variable next) = P place variable × ((value : Value) → Sound P (next value))
Sound P (shows text next) = Sound P next
Sound P (hands job next) = (status : Status) → Sound P (next status)
Sound P (confirms prompt next) = (answer : Confirmation) → Sound P (next answer)

-- the piece's events, and the end
abbrev pub seen_part : {A : Type 0} → List Entry → Result A Failure → RunPart Entry A Failure
seen_part piece r = record { events = events_of is_event piece; end = ended_as r }

told_status : (f : Answers) (job : Job) (status : Status) → holds f f.recipe (handed job status) → status_of f job ≡ Some status
told_status f (line job) status h = h
told_status f (script job) status h = h

handed_is_event : (job : Job) (status : Status) (es : List Entry) → events_of is_event (handed job status ∷ es) ≡ handed job status ∷ events_of is_event es
handed_is_event (line job) status es = refl
handed_is_event (script job) status es = refl

at_value : (seen : Result Value Fault) (v : Value) (P : Value → Type 0) (Q : Fault → Type 0) → seen ≡ Ok v → MatchResult seen P Q → P v
at_value seen v P Q e h = subst (λ s. MatchResult s P Q) e h

module _ {A : Type 0} (reading : Reading) (f : Answers) (variables : Lookup → Variable → Meaning Value) where
  -- A run of a task whose piece agrees with the answers, and whose variables are read and mean what is read, is what the task means.
  pub unfolds : (t : Task A) (piece : List Entry) (r : Result A Failure) → Sound (IsMeant reading variables) t → Agrees f piece → TaskGoes reading t piece r → task_meaning f variables t ≡ seen_part piece r
  unfolds (ends end) piece r sound agrees h =
      ap (λ e. only (ended_as e)) (sym h.1) ∙ ap (λ l. seen_part l r) (sym h.0)
  unfolds (asks q next) piece r sound agrees h =
      let b = h.1 in
      let told : (f.recipe q ≡ Some h.0) × Agrees f b.rest = subst (Agrees f) b.is agrees in
      ap (λ o. if_told o (λ answer. task_meaning f variables (next answer))) told.0
      ∙ (unfolds (next h.0) b.rest r (sound h.0) told.1 b.behind ∙ ap (λ l. seen_part l r) (sym b.is))
  unfolds (reads place x next) piece r sound agrees h =
      let m = sound.0 in
      ap (λ o. if_meant o (λ value. task_meaning f variables (next value))) m.means
      ∙ unfolds (next m.value) piece r (sound.1 m.value) agrees (at_value (reading place x) m.value _ _ m.read h)
  unfolds (shows text next) piece r sound agrees h =
      let told : Unit {0} × Agrees f h.rest = subst (Agrees f) h.is agrees in
      ap (behind (Show text)) (unfolds next h.rest r sound told.1 h.behind) ∙ ap (λ l. seen_part l r) (sym h.is)
  unfolds (hands job next) piece r sound agrees h =
      let b = h.1 in
      let told : holds f f.recipe (handed job h.0) × Agrees f b.rest = subst (Agrees f) b.is agrees in
      ap (λ o. if_told o (λ status. behind (handed job status) (task_meaning f variables (next status)))) (told_status f job h.0 told.0)
      ∙ (ap (behind (handed job h.0)) (unfolds (next h.0) b.rest r (sound h.0) told.1 b.behind)
      ∙ (ap (λ l. let p : RunPart Entry A Failure = record { events = l; end = ended_as r } in p) (sym (handed_is_event job h.0 b.rest))
      ∙ ap (λ l. seen_part l r) (sym b.is)))
  unfolds (confirms prompt next) piece r sound agrees h =
      let b = h.1 in
      let told : (f.confirm prompt ≡ Some h.0) × Agrees f b.rest = subst (Agrees f) b.is agrees in
      ap (λ o. if_told o (λ answer. behind (Confirm prompt answer) (task_meaning f variables (next answer)))) told.0
      ∙ (ap (behind (Confirm prompt h.0)) (unfolds (next h.0) b.rest r (sound h.0) told.1 b.behind) ∙ ap (λ l. seen_part l r) (sym b.is))

-- ---- the meaning of one after the other

abbrev pub and_then_end : {A B : Type 0} → List Entry → End A Failure → (A → RunPart Entry B Failure) → RunPart Entry B Failure
and_then_end events (went a) k = record { events = events ++ (k a).events; end = (k a).end }
and_then_end events (failed failure) k = record { events = events; end = failed failure }
and_then_end events unanswered k = record { events = events; end = unanswered }

abbrev pub and_then : {A B : Type 0} → RunPart Entry A Failure → (A → RunPart Entry B Failure) → RunPart Entry B Failure
and_then p k = and_then_end p.events p.end k

module _ {A B : Type 0} (k : A → RunPart Entry B Failure) where
  told_then : {X : Type 0} (o : Option X) (n : X → RunPart Entry A Failure) (m : X → RunPart Entry B Failure) → ((x : X) → m x ≡ and_then (n x) k) → if_told o m ≡ and_then (if_told o n) k
  told_then None n m h = refl
  told_then (Some x) n m h = h x

  meant_then : (o : Meaning Value) (n : Value → RunPart Entry A Failure) (m : Value → RunPart Entry B Failure) → ((x : Value) → m x ≡ and_then (n x) k) → if_meant o m ≡ and_then (if_meant o n) k
  meant_then None n m h = refl
  meant_then (Some (Ok x)) n m h = h x
  meant_then (Some (Err e)) n m h = refl

  behind_end : (event : Entry) (events : List Entry) (end : End A Failure) → behind event (and_then_end events end k) ≡ and_then_end (event ∷ events) end k
  behind_end event events (went a) = refl
  behind_end event events (failed failure) = refl
  behind_end event events unanswered = refl

  behind_then : (event : Entry) (p : RunPart Entry A Failure) (q : RunPart Entry B Failure) → q ≡ and_then p k → behind event q ≡ and_then (behind event p) k
  behind_then event p q h = ap (behind event) h ∙ behind_end event p.events p.end

module _ {A B : Type 0} (f : Answers) (variables : Lookup → Variable → Meaning Value) (k : A → Task B) where
  pub meaning_then : (t : Task A) → task_meaning f variables (t >>= k) ≡ and_then (task_meaning f variables t) (λ a. task_meaning f variables (k a))
  meaning_then (ends (Ok a)) = refl
  meaning_then (ends (Err failure)) = refl
  meaning_then (asks q next) = told_then _ (f.recipe q) _ _ (λ answer. meaning_then (next answer))
  meaning_then (reads place x next) = meant_then _ (variables place x) _ _ (λ value. meaning_then (next value))
  meaning_then (shows text next) = behind_then _ (Show text) _ _ (meaning_then next)
  meaning_then (hands job next) = told_then _ (status_of f job) _ _ (λ status. behind_then _ (handed job status) _ _ (meaning_then (next status)))
  meaning_then (confirms prompt next) = told_then _ (f.confirm prompt) _ _ (λ answer. behind_then _ (Confirm prompt answer) _ _ (meaning_then (next answer)))

-- ---- dialogues as tasks

abbrev pub end_of : {A : Type 0} → Meaning A → End A Failure
end_of None = unanswered
end_of (Some (Ok a)) = went a
end_of (Some (Err fault)) = failed (evaluation fault)

module _ {A : Type 0} where
  lift_answer : (o : Option Answer) (n : Answer → RunPart Entry A Failure) (m : Answer → Meaning A) → ((x : Answer) → n x ≡ only (end_of (m x))) → if_told o n ≡ only (end_of (option_and_then m o))
  lift_answer None n m h = refl
  lift_answer (Some answer) n m h = h answer

  lift_value : (o : Meaning Value) (n : Value → RunPart Entry A Failure) (m : Value → Meaning A) → ((x : Value) → n x ≡ only (end_of (m x))) → if_meant o n ≡ only (end_of (with_meaning o m))
  lift_value None n m h = refl
  lift_value (Some (Ok value)) n m h = h value
  lift_value (Some (Err fault)) n m h = refl

module _ {A : Type 0} (f : Answers) (variables : Lookup → Variable → Meaning Value) where
  -- a dialogue has no events, and means as a task what it means
  pub lift_means : (d : Dialogue A) → task_meaning f variables (lift d) ≡ only (end_of (meaning f.recipe variables d))
  lift_means (Ends (Ok a)) = refl
  lift_means (Ends (Err fault)) = refl
  lift_means (Asks q next) = lift_answer (f.recipe q) _ _ (λ answer. lift_means (next answer))
  lift_means (Reads place x next) = lift_value (variables place x) _ _ (λ value. lift_means (next value))

module _ {A : Type 0} (reading : Reading) where
  lift_reading : (seen : Result Value Fault) (old new : List Entry) (r : Result A Fault) (n : Value → Dialogue A)
      → ((v : Value) → DialogueGoes reading (n v) old new r → TaskLeads reading (lift (n v)) old new (as_failure r))
      → MatchResult seen (λ value. DialogueGoes reading (n value) old new r) (λ fault. (new ≡ old) × (r ≡ Err fault))
      → (piece : List Entry) × (new ≡ old ++ piece) × MatchResult seen (λ value. TaskGoes reading (lift (n value)) piece (as_failure r)) (λ fault. (piece ≡ []) × (as_failure r ≡ Err (evaluation fault)))
  lift_reading (Ok v) old new r n go g = let l = go v g in (l.piece, l.entries, l.goes)
  lift_reading (Err e) old new r n go g = ([], g.0 ∙ sym (append-nil old), (refl, ap as_failure g.1))

  -- a dialogue that leads from one record to another does so as a task
  pub lift_goes : (d : Dialogue A) (old new : List Entry) (r : Result A Fault) → DialogueGoes reading d old new r → TaskLeads reading (lift d) old new (as_failure r)
  lift_goes (Ends end) old new r h = record { piece = []; entries = h.0 ∙ sym (append-nil old); goes = (refl, ap as_failure h.1) }
  lift_goes (Asks q next) old new r h =
      let l = lift_goes (next h.0) _ new r h.1 in
      record { piece = Asked q h.0 ∷ l.piece; entries = l.entries ∙ append_assoc old _ _; goes = (h.0, record { rest = l.piece; is = refl; behind = l.goes }) }
  lift_goes (Reads p x next) old new r h =
      let l = lift_reading (reading p x) old new r next (λ v g. lift_goes (next v) old new r g) h in
      record { piece = l.0; entries = l.1; goes = l.2 }
