-- How tasks end whose parts end so.
use Rattle.std.proofs.Common.{List, Result, Ok, Err, sym, subst}
use Rattle.just_host.specs.declared.entry.Entry.{Entry}
use Rattle.just_host.specs.declared.host.Answer.{Answer}
use Rattle.just_host.specs.declared.host.Status.{Status}
use Rattle.just_host.specs.declared.host.Confirmation.{Confirmation}
use Rattle.meaning_dialogues.specs.Dialogue.{Dialogue, Ends, Asks, Reads, Lookup, Variable, Reading}
use Rattle.meaning_dialogues.specs.Evaluation.{Value}
use Rattle.meaning_runs.specs.Failures.{Failure}
use Rattle.meaning_runs.specs.Task.{Task, ends, asks, reads, shows, hands, confirms, ◌>>=◌, lift, TaskGoes}
use Rattle.just_meaning.specs.Certain.{IsCertainFailure}
use Rattle.laws_agreement.proofs.Certain.Dialogues.{EndsWell, IsRead, at_read}

-- a value of this kind, or a failure with another fault than `internal`
abbrev pub ResultsIn : {A : Type 0} → (A → Type 0) → Result A Failure → Type 0
ResultsIn Q (Ok a) = Q a
ResultsIn Q (Err failure) = IsCertainFailure failure

-- it reads only such variables, and so it ends, whatever comes back
abbrev pub Certain : {A : Type 0} → (Lookup → Variable → Type 0) → (A → Type 0) → Task A → Type 0
Certain W Q (ends end) = ResultsIn Q end
Certain W Q (asks question next) = (answer : Answer) → Certain W Q (next answer)
Certain W Q (reads place x next) = W place x × ((value : Value) → Certain W Q (next value))
Certain W Q (shows text next) = Certain W Q next
Certain W Q (hands job next) = (status : Status) → Certain W Q (next status)
Certain W Q (confirms prompt next) = (answer : Confirmation) → Certain W Q (next answer)

-- so ends a dialogue as a task
pub lift_certain : {A : Type 0} (W : Lookup → Variable → Type 0) (Q : A → Type 0) (d : Dialogue A) → EndsWell W Q d → Certain W Q (lift d)
lift_certain W Q (Ends (Ok a)) h = h
lift_certain W Q (Ends (Err fault)) h = h
lift_certain W Q (Asks question next) h = λ answer. lift_certain W Q (next answer) (h answer)
lift_certain W Q (Reads place x next) h = (h.0, λ value. lift_certain W Q (next value) (h.1 value))

-- one after the other
pub then_certain : {A B : Type 0} (W : Lookup → Variable → Type 0) (Q : A → Type 0) (R : B → Type 0) (t : Task A) (k : A → Task B) → Certain W Q t → ((a : A) → Q a → Certain W R (k a)) → Certain W R (t >>= k)
then_certain W Q R (ends (Ok a)) k h g = g a h
then_certain W Q R (ends (Err failure)) k h g = h
then_certain W Q R (asks question next) k h g = λ answer. then_certain W Q R (next answer) k (h answer) g
then_certain W Q R (reads place x next) k h g = (h.0, λ value. then_certain W Q R (next value) k (h.1 value) g)
then_certain W Q R (shows text next) k h g = then_certain W Q R next k h g
then_certain W Q R (hands job next) k h g = λ status. then_certain W Q R (next status) k (h status) g
then_certain W Q R (confirms prompt next) k h g = λ answer. then_certain W Q R (next answer) k (h answer) g

module _ {A : Type 0} (W : Lookup → Variable → Type 0) (Q : A → Type 0) (reading : Reading) (is_read : (place : Lookup) (x : Variable) → W place x → IsRead reading place x) where
  -- a task ends so for every host, where what it reads has values
  pub task_ends : (t : Task A) (piece : List Entry) (r : Result A Failure) → Certain W Q t → TaskGoes reading t piece r → ResultsIn Q r
  task_ends (ends end) piece r h g = subst (ResultsIn Q) (sym g.1) h
  task_ends (asks question next) piece r h g = task_ends (next g.0) g.1.rest r (h g.0) g.1.behind
  task_ends (reads place x next) piece r h g = let seen = is_read place x h.0 in task_ends (next seen.0) piece r (h.1 seen.0) (at_read (reading place x) _ _ seen g)
  task_ends (shows text next) piece r h g = task_ends next g.rest r h g.behind
  task_ends (hands job next) piece r h g = task_ends (next g.0) g.1.rest r (h g.0) g.1.behind
  task_ends (confirms prompt next) piece r h g = task_ends (next g.0) g.1.rest r (h g.0) g.1.behind
