-- What a task means by fixed answers.
use Rattle.std.specs.Prelude.{[], ◌∷◌, Bool, true, false, Option, Some, None, Result, Ok, Err}
use Rattle.just_host.specs.declared.entry.Entry.{Entry}
use Rattle.just_host.specs.declared.entry.Entry.TheVariants.{Asked, Line as LineEntry, Script as ScriptEntry, Confirm, Show, Dotenv}
use Rattle.just_host.specs.declared.host.Status.{Status}
use Rattle.meaning_dialogues.specs.Dialogue.{Lookup, Variable}
use Rattle.meaning_dialogues.specs.Evaluation.{Value}
use Rattle.meaning_dialogues.specs.Meaning.{Meaning}
use Rattle.meaning_runs.specs.Failures.{Failure, evaluation}
use Rattle.meaning_runs.specs.Told.{Answers}
use Rattle.meaning_runs.specs.Naive.{RunPart, End, went, failed, unanswered}
use Rattle.meaning_runs.specs.Task.{Task, ends, asks, reads, shows, hands, confirms, Job, line, script, handed}

-- which entries are events: all but the questions
abbrev pub is_event : Entry → Bool
is_event (Asked question answer) = false
is_event (Dotenv request answer) = false
is_event (LineEntry job status) = true
is_event (ScriptEntry job status) = true
is_event (Confirm prompt answer) = true
is_event (Show text) = true

abbrev pub ended_as : {A : Type 0} → Result A Failure → End A Failure
ended_as (Ok a) = went a
ended_as (Err failure) = failed failure

-- without an event
abbrev pub only : {A : Type 0} → End A Failure → RunPart Entry A Failure
only end = record { events = []; end = end }

abbrev pub behind : {A : Type 0} → Entry → RunPart Entry A Failure → RunPart Entry A Failure
behind event part = record { events = event ∷ part.events; end = part.end }

-- what follows an answer; an unanswered question has no end
abbrev pub if_told : {X A : Type 0} → Option X → (X → RunPart Entry A Failure) → RunPart Entry A Failure
if_told None next = only unanswered
if_told (Some answer) next = next answer

abbrev pub if_meant : {A : Type 0} → Meaning Value → (Value → RunPart Entry A Failure) → RunPart Entry A Failure
if_meant None next = only unanswered
if_meant (Some (Ok value)) next = next value
if_meant (Some (Err fault)) next = only (failed (evaluation fault))

abbrev pub status_of : Answers → Job → Option Status
status_of f (line job) = f.line job
status_of f (script job) = f.script job

-- The events of the task with their statuses, and its end, by what variables mean.
abbrev pub task_meaning : {A : Type 0} → Answers → (Lookup → Variable → Meaning Value) → Task A → RunPart Entry A Failure
task_meaning f variables (ends end) = only (ended_as end)
task_meaning f variables (asks question next) = if_told (f.recipe question) (λ answer. task_meaning f variables (next answer))
task_meaning f variables (reads place variable next) = if_meant (variables place variable) (λ value. task_meaning f variables (next value))
task_meaning f variables (shows text next) = behind (Show text) (task_meaning f variables next)
task_meaning f variables (hands job next) = if_told (status_of f job) (λ status. behind (handed job status) (task_meaning f variables (next status)))
task_meaning f variables (confirms prompt next) = if_told (f.confirm prompt) (λ answer. behind (Confirm prompt answer) (task_meaning f variables (next answer)))
