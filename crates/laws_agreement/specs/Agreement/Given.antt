-- What a task may end with.
use Rattle.std.specs.Prelude.{Ok, Err}
use Rattle.just_host.specs.declared.host.Answer.{Answer}
use Rattle.just_host.specs.declared.host.Status.{Status}
use Rattle.just_host.specs.declared.host.Confirmation.{Confirmation}
use Rattle.meaning_dialogues.specs.Evaluation.{Value}
use Rattle.meaning_runs.specs.Task.{Task, ends, asks, reads, shows, hands, confirms}

-- each value that it ends with, whatever comes back, is of this kind
abbrev pub Gives : {A : Type 0} → (A → Type 0) → Task A → Type 0
Gives Q (ends (Ok a)) = Q a
Gives Q (ends (Err failure)) = Unit {0}
Gives Q (asks question next) = (answer : Answer) → Gives Q (next answer)
Gives Q (reads place variable next) = (value : Value) → Gives Q (next value)
Gives Q (shows text next) = Gives Q next
Gives Q (hands job next) = (status : Status) → Gives Q (next status)
Gives Q (confirms prompt next) = (answer : Confirmation) → Gives Q (next answer)
