-- Beginnings of what tasks record.
use Rattle.std.proofs.Common.{◌≡◌, ℕ, List, [], ◌∷◌, ◌++◌, append_assoc, append-nil, Result, Ok, Err, refl, sym, ap, ◌∙◌, subst, MatchResult}
use Rattle.just_host.specs.declared.entry.Entry.{Entry}
use Rattle.just_host.specs.declared.entry.Entry.TheVariants.{Asked, Confirm, Show}
use Rattle.just_host.specs.declared.host.Answer.TheVariants.{Absent}
use Rattle.just_host.specs.declared.host.Confirmation.TheVariants.{Yes}
use Rattle.just_host.specs.declared.host.Status.TheVariants.{NotStarted}
use Rattle.meaning_dialogues.specs.Faults.{Fault}
use Rattle.meaning_dialogues.specs.Dialogue.{Dialogue, Begins, Reading}
use Rattle.meaning_runs.specs.Failures.{Failure, evaluation}
use Rattle.meaning_runs.specs.Task.{Task, ends, asks, reads, shows, hands, confirms, ◌>>=◌, lift, as_failure, handed, TaskBegins, TaskGoes, TaskLeads}
use Rattle.meaning_runs.proofs.Tasks.{goes_on, lift_goes, stops}

module _ {A : Type 0} (reading : Reading) where
  -- to what end a task goes
  record GoesSo (t : Task A) : Type 0 where
    pub piece : List Entry
    pub result : Result A Failure
    pub goes : TaskGoes reading t piece result

  at_read : (seen : Result (List (List ℕ)) Fault) (next : List (List ℕ) → Task A) → ((value : List (List ℕ)) → GoesSo (next value))
      → (piece : List Entry) × (r : Result A Failure) × MatchResult seen (λ value. TaskGoes reading (next value) piece r) (λ fault. (piece ≡ []) × (r ≡ Err (evaluation fault)))
  at_read (Ok value) next each = let b = each value in (b.piece, b.result, b.goes)
  at_read (Err fault) next each = ([], Err (evaluation fault), (refl, refl))

  goes_so : (t : Task A) → GoesSo t
  goes_so (ends end) = record { piece = []; result = end; goes = (refl, refl) }
  goes_so (asks question next) =
      let b = goes_so (next Absent) in
      record { piece = Asked question Absent ∷ b.piece; result = b.result; goes = (Absent, record { rest = b.piece; is = refl; behind = b.goes }) }
  goes_so (reads place variable next) =
      let b = at_read (reading place variable) next (λ value. goes_so (next value)) in
      record { piece = b.0; result = b.1; goes = b.2 }
  goes_so (shows text next) =
      let b = goes_so next in
      record { piece = Show text ∷ b.piece; result = b.result; goes = record { rest = b.piece; is = refl; behind = b.goes } }
  goes_so (hands job next) =
      let b = goes_so (next NotStarted) in
      record { piece = handed job NotStarted ∷ b.piece; result = b.result; goes = (NotStarted, record { rest = b.piece; is = refl; behind = b.goes }) }
  goes_so (confirms prompt next) =
      let b = goes_so (next Yes) in
      record { piece = Confirm prompt Yes ∷ b.piece; result = b.result; goes = (Yes, record { rest = b.piece; is = refl; behind = b.goes }) }

  -- from each record a task can go on to an end
  pub task_begins_here : (t : Task A) (old : List Entry) → TaskBegins reading t old old
  task_begins_here t old =
      let b = goes_so t in
      record { rest = b.piece; result = b.result; leads = record { piece = b.piece; entries = refl; goes = b.goes } }

  -- what a task records to its end is a beginning
  pub task_whole_begins : (t : Task A) (old new : List Entry) (r : Result A Failure) → TaskLeads reading t old new r → TaskBegins reading t old new
  task_whole_begins t old new r h = record { rest = []; result = r; leads = subst (λ n. TaskLeads reading t old n r) (sym (append-nil new)) h }

  -- what begins an evaluation begins the task
  pub lift_begins : (d : Dialogue A) (old new : List Entry) → Begins reading d old new → TaskBegins reading (lift d) old new
  lift_begins d old new b = record { rest = b.rest; result = as_failure b.result; leads = lift_goes reading d old (new ++ b.rest) b.result b.goes }

module _ {A B : Type 0} (reading : Reading) where
  leads_on : (t : Task A) (k : A → Task B) (old mid new : List Entry) (a : A) (r : Result B Failure) → TaskLeads reading t old mid (Ok a) → TaskLeads reading (k a) mid new r → TaskLeads reading (t >>= k) old new r
  leads_on t k old mid new a r h g = record {
    piece = h.piece ++ g.piece;
    entries = g.entries ∙ (ap (λ l. l ++ g.piece) h.entries ∙ append_assoc old h.piece g.piece);
    goes = goes_on reading k t h.piece g.piece a r h.goes g.goes;
  }

  -- behind a task that goes through, what begins the next one begins both
  pub task_begins_on : (t : Task A) (k : A → Task B) (old mid new : List Entry) (a : A) → TaskLeads reading t old mid (Ok a) → TaskBegins reading (k a) mid new → TaskBegins reading (t >>= k) old new
  task_begins_on t k old mid new a h b = record { rest = b.rest; result = b.result; leads = leads_on t k old mid (new ++ b.rest) a b.result h b.leads }

  -- what begins a task begins it and the next one
  pub task_begins_first : (t : Task A) (k : A → Task B) (old new : List Entry) → TaskBegins reading t old new → TaskBegins reading (t >>= k) old new
  task_begins_first t k old new b = by_end b.result b.leads
    where
      by_end : (r : Result A Failure) → TaskLeads reading t old (new ++ b.rest) r → TaskBegins reading (t >>= k) old new
      by_end (Ok a) h =
          let next = task_begins_here reading (k a) (new ++ b.rest) in
          record {
            rest = b.rest ++ next.rest;
            result = next.result;
            leads = subst (λ last. TaskLeads reading (t >>= k) old last next.result) (append_assoc new b.rest next.rest) (leads_on t k old (new ++ b.rest) ((new ++ b.rest) ++ next.rest) a next.result h next.leads);
          }
      by_end (Err failure) h = record { rest = b.rest; result = Err failure; leads = record { piece = h.piece; entries = h.entries; goes = stops reading k t h.piece failure h.goes } }
