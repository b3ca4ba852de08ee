-- What a part of a run does, by its task.
use Rattle.std.specs.Prelude.{◌≡◌, ◌≢◌, List, ◌++◌, true, false, Result, Ok, Err}
use Rattle.just_host.specs.declared.entry.Entry.{Entry}
use Rattle.just_host.specs.Record.{Record}
use Rattle.meaning_dialogues.specs.Faults.{Fault, memory}
use Rattle.meaning_dialogues.specs.Dialogue.{Reading, Dialogue, DialogueGoes}
use Rattle.meaning_runs.specs.Failures.{Failure, evaluation}
use Rattle.meaning_runs.specs.Task.{Task, TaskBegins, TaskLeads}
use Rattle.meaning_evaluation.specs.Groups.{each}

-- a part of a run by its task: where memory suffices it leads from the old record to the new one, and so it ends; however it ends, what was recorded is the beginning of what the task records
pub record Performs {H A : Type 0} (reading : Reading) (task : Task A) (old new : Record H) (result : Result A Failure) : Type 0 where
  pub goes : new.exhausted ≡ false → result ≢ Err (evaluation memory) → TaskLeads reading task old.entries new.entries result
  pub begins : TaskBegins reading task old.entries new.entries

-- a record that can grow no more stays as it is
abbrev pub Stays : {H : Type 0} → Record H → Record H → Type 0
Stays old new = old.exhausted ≡ true → new ≡ old

-- where memory sufficed as yet, whatever the task that is left leads to from here, the whole task leads to; what was recorded is the beginning of what the whole task records
pub record LeadsOn {H A : Type 0} (reading : Reading) (whole left : Task A) (old now : Record H) : Type 0 where
  pub on : now.exhausted ≡ false → (new : List Entry) (result : Result A Failure) → TaskLeads reading left now.entries new result → TaskLeads reading whole old.entries new result
  pub begins : TaskBegins reading whole old.entries now.entries

-- values in front of those of a result
abbrev pub in_front : {A : Type 0} → List A → Result (List A) Fault → Result (List A) Fault
in_front values (Ok others) = Ok (values ++ others)
in_front values (Err fault) = Err fault

-- whatever the dialogues that are left give, one after another, all give with these values in front
pub record LeadsRow {A : Type 0} (reading : Reading) (all rest : List (Dialogue A)) (old now : List Entry) (values : List A) : Type 0 where
  pub on : (new : List Entry) (r : Result (List A) Fault) → DialogueGoes reading (each rest) now new r → DialogueGoes reading (each all) old new (in_front values r)
