-- Tasks one after another, from one record to another.
use Rattle.std.proofs.Common.{◌≡◌, List, ◌++◌, append_assoc, Result, Ok, Err, ap, ◌∙◌, subst}
use Rattle.just_host.specs.declared.entry.Entry.{Entry}
use Rattle.meaning_dialogues.specs.Dialogue.{Dialogue, Ends, Asks, Reads, Reading}
use Rattle.meaning_dialogues.specs.Dialogue as dialogues
use Rattle.meaning_dialogues.proofs.Dialogues.{weaker}
use Rattle.meaning_runs.specs.Failures.{Failure}
use Rattle.meaning_runs.specs.Task.{Task, ends, asks, reads, shows, hands, confirms, ◌>>=◌, lift, TaskGoes, TaskLeads}
use Rattle.meaning_runs.proofs.Tasks.{begins_as, goes_on, stops}

module _ {A B C : Type 0} (reading : Reading) where
  -- of three tasks in order the last two may be taken as one, or the first two
  regrouped : (t : Task A) (k : A → Task B) (l : B → Task C) (piece : List Entry) (r : Result C Failure) → TaskGoes reading (t >>= λ a. k a >>= l) piece r → TaskGoes reading ((t >>= k) >>= l) piece r
  regrouped (ends (Ok a)) k l piece r h = h
  regrouped (ends (Err f)) k l piece r h = h
  regrouped (asks q next) k l piece r h = (h.0, begins_as _ _ (λ rest b. regrouped (next h.0) k l rest r b) h.1)
  regrouped (reads p x next) k l piece r h = weaker (reading p x) (λ v b. regrouped (next v) k l piece r b) (λ f b. b) h
  regrouped (shows text next) k l piece r h = begins_as _ _ (λ rest b. regrouped next k l rest r b) h
  regrouped (hands job next) k l piece r h = (h.0, begins_as _ _ (λ rest b. regrouped (next h.0) k l rest r b) h.1)
  regrouped (confirms prompt next) k l piece r h = (h.0, begins_as _ _ (λ rest b. regrouped (next h.0) k l rest r b) h.1)

  -- two dialogues in order, as tasks
  lifted : (d : Dialogue A) (k : A → Dialogue B) (l : B → Task C) (piece : List Entry) (r : Result C Failure) → TaskGoes reading (lift d >>= λ a. lift (k a) >>= l) piece r → TaskGoes reading (lift (dialogues.◌>>=◌ d k) >>= l) piece r
  lifted (Ends (Ok a)) k l piece r h = h
  lifted (Ends (Err f)) k l piece r h = h
  lifted (Asks q next) k l piece r h = (h.0, begins_as _ _ (λ rest b. lifted (next h.0) k l rest r b) h.1)
  lifted (Reads p x next) k l piece r h = weaker (reading p x) (λ v b. lifted (next v) k l piece r b) (λ f b. b) h

  -- the same from one record to another
  pub leads_regrouped : (t : Task A) (k : A → Task B) (l : B → Task C) (old new : List Entry) (r : Result C Failure) → TaskLeads reading (t >>= λ a. k a >>= l) old new r → TaskLeads reading ((t >>= k) >>= l) old new r
  leads_regrouped t k l old new r h = record { piece = h.piece; entries = h.entries; goes = regrouped t k l h.piece r h.goes }

  pub leads_lifted : (d : Dialogue A) (k : A → Dialogue B) (l : B → Task C) (old new : List Entry) (r : Result C Failure) → TaskLeads reading (lift d >>= λ a. lift (k a) >>= l) old new r → TaskLeads reading (lift (dialogues.◌>>=◌ d k) >>= l) old new r
  leads_lifted d k l old new r h = record { piece = h.piece; entries = h.entries; goes = lifted d k l h.piece r h.goes }

module _ {A B : Type 0} (reading : Reading) where
  -- a task goes through, and what follows leads on
  pub leads_then : (t : Task A) (k : A → Task B) (old mid new : List Entry) (a : A) (r : Result B Failure) → TaskLeads reading t old mid (Ok a) → TaskLeads reading (k a) mid new r → TaskLeads reading (t >>= k) old new r
  leads_then t k old mid new a r h g = record {
    piece = h.piece ++ g.piece;
    entries = g.entries ∙ (ap (λ l. l ++ g.piece) h.entries ∙ append_assoc old h.piece g.piece);
    goes = goes_on reading k t h.piece g.piece a r h.goes g.goes;
  }

  -- a task fails, and nothing follows
  pub leads_stops : (t : Task A) (k : A → Task B) (old new : List Entry) (f : Failure) → TaskLeads reading t old new (Err f) → TaskLeads reading (t >>= k) old new (Err f)
  leads_stops t k old new f h = record { piece = h.piece; entries = h.entries; goes = stops reading k t h.piece f h.goes }

module _ {A B : Type 0} (reading : Reading) where
  alike : (d : Dialogue A) (k l : A → Task B) (piece : List Entry) (r : Result B Failure) → ((a : A) → k a ≡ l a) → TaskGoes reading (lift d >>= k) piece r → TaskGoes reading (lift d >>= l) piece r
  alike (Ends (Ok a)) k l piece r e h = subst (λ t. TaskGoes reading t piece r) (e a) h
  alike (Ends (Err f)) k l piece r e h = h
  alike (Asks q next) k l piece r e h = (h.0, begins_as _ _ (λ rest b. alike (next h.0) k l rest r e b) h.1)
  alike (Reads p x next) k l piece r e h = weaker (reading p x) (λ v b. alike (next v) k l piece r e b) (λ f b. b) h

  -- what follows may be another that is the same for each value
  pub leads_alike : (d : Dialogue A) (k l : A → Task B) (old new : List Entry) (r : Result B Failure) → ((a : A) → k a ≡ l a) → TaskLeads reading (lift d >>= k) old new r → TaskLeads reading (lift d >>= l) old new r
  leads_alike d k l old new r e h = record { piece = h.piece; entries = h.entries; goes = alike d k l h.piece r e h.goes }
