-- A task: what a part of a run asks, reads, shows and hands over, one after another, until it ends.
use Rattle.std.specs.Prelude.{◌≡◌, ℕ, List, [], ◌∷◌, ◌++◌, Result, Ok, Err, MatchResult}
use Rattle.just_host.specs.declared.entry.Entry.{Entry}
use Rattle.just_host.specs.declared.entry.Entry.TheVariants.{Asked, Line as LineEntry, Script as ScriptEntry, Confirm, Show}
use Rattle.just_host.specs.declared.host.Question.{Question}
use Rattle.just_host.specs.declared.host.Answer.{Answer}
use Rattle.just_host.specs.declared.host.Status.{Status}
use Rattle.just_host.specs.declared.host.Confirmation.{Confirmation}
use Rattle.just_host.specs.declared.job.CommandJob.{CommandJob}
use Rattle.just_host.specs.declared.job.ScriptJob.{ScriptJob}
use Rattle.meaning_dialogues.specs.Faults.{Fault}
use Rattle.meaning_dialogues.specs.Dialogue.{Dialogue, Ends, Asks, Reads, Lookup, Variable, Reading}
use Rattle.meaning_runs.specs.Failures.{Failure, evaluation}

-- what is handed over
pub data Job : Type 0 where
  line : CommandJob → Job
  script : ScriptJob → Job

-- how it stands in a record
abbrev pub handed : Job → Status → Entry
handed (line job) status = LineEntry job status
handed (script job) status = ScriptEntry job status

pub data Task (A : Type 0) : Type 0 where
  ends : Result A Failure → Task A
  asks : Question → (Answer → Task A) → Task A
  reads : Lookup → Variable → (List (List ℕ) → Task A) → Task A
  shows : List ℕ → Task A → Task A
  hands : Job → (Status → Task A) → Task A
  confirms : List ℕ → (Confirmation → Task A) → Task A

-- one after the other; a failure ends both
infixl 10 ◌>>=◌
abbrev pub ◌>>=◌ : {A B : Type 0} → Task A → (A → Task B) → Task B
ends (Err failure) >>= f = ends (Err failure)
ends (Ok a) >>= f = f a
asks question next >>= f = asks question (λ answer. next answer >>= f)
reads place variable next >>= f = reads place variable (λ value. next value >>= f)
shows text next >>= f = shows text (next >>= f)
hands job next >>= f = hands job (λ status. next status >>= f)
confirms prompt next >>= f = confirms prompt (λ answer. next answer >>= f)

-- a fault of evaluation is a failure of its recipe
abbrev pub as_failure : {A : Type 0} → Result A Fault → Result A Failure
as_failure (Ok a) = Ok a
as_failure (Err fault) = Err (evaluation fault)

abbrev pub lift : {A : Type 0} → Dialogue A → Task A
lift (Ends end) = ends (as_failure end)
lift (Asks question next) = asks question (λ answer. lift (next answer))
lift (Reads place variable next) = reads place variable (λ value. lift (next value))

-- the piece begins with this entry, and goes on so
pub record Begins (entry : Entry) (piece : List Entry) (Behind : List Entry → Type 0) : Type 0 where
  pub rest : List Entry
  pub is : piece ≡ entry ∷ rest
  pub behind : Behind rest

-- The task against a piece of the record, for every host: what it asks, shows and hands over is the piece, whatever comes back, and so it ends.
abbrev pub TaskGoes : {A : Type 0} → Reading → Task A → List Entry → Result A Failure → Type 0
TaskGoes reading (ends end) piece result = (piece ≡ []) × (result ≡ end)
TaskGoes reading (asks question next) piece result =
    (answer : Answer) × Begins (Asked question answer) piece (λ rest. TaskGoes reading (next answer) rest result)
TaskGoes reading (reads place variable next) piece result =
    MatchResult (reading place variable) (λ value. TaskGoes reading (next value) piece result) (λ fault. (piece ≡ []) × (result ≡ Err (evaluation fault)))
TaskGoes reading (shows text next) piece result = Begins (Show text) piece (λ rest. TaskGoes reading next rest result)
TaskGoes reading (hands job next) piece result =
    (status : Status) × Begins (handed job status) piece (λ rest. TaskGoes reading (next status) rest result)
TaskGoes reading (confirms prompt next) piece result =
    (answer : Confirmation) × Begins (Confirm prompt answer) piece (λ rest. TaskGoes reading (next answer) rest result)

-- a task from one record to another
pub record TaskLeads {A : Type 0} (reading : Reading) (task : Task A) (old new : List Entry) (result : Result A Failure) : Type 0 where
  pub piece : List Entry
  pub entries : new ≡ old ++ piece
  pub goes : TaskGoes reading task piece result

-- what was recorded is the beginning of what the task records: behind it the task can go on to an end
pub record TaskBegins {A : Type 0} (reading : Reading) (task : Task A) (old new : List Entry) : Type 0 where
  pub rest : List Entry
  pub result : Result A Failure
  pub leads : TaskLeads reading task old (new ++ rest) result
