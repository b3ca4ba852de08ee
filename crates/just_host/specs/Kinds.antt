-- Which kinds of entries are added to a record.
use Rattle.std.specs.Prelude.{ℕ, List, Bool, true, false, Result, ◌≡◌}
use Rattle.std.specs.List.{list_all}
use Rattle.just_host.specs.declared.entry.Entry.{Entry}
use Rattle.just_host.specs.declared.entry.Entry.TheVariants.{Asked, Line, Script, Confirm, Show, Dotenv}
use Rattle.just_host.specs.declared.host.Answer.{Answer}
use Rattle.just_host.specs.declared.host.Confirmation.{Confirmation}
use Rattle.just_host.specs.declared.host.HostFault.{HostFault}
use Rattle.just_host.specs.declared.host.Question.{Question}
use Rattle.just_host.specs.declared.host.Status.{Status}
use Rattle.just_host.specs.declared.job.CommandJob.{CommandJob}
use Rattle.just_host.specs.declared.job.DotenvRequest.{DotenvRequest}
use Rattle.just_host.specs.declared.job.Pair.{Pair}
use Rattle.just_host.specs.declared.job.ScriptJob.{ScriptJob}
use Rattle.just_text.specs.declared.sequence.Sequence.{Sequence}
use Rattle.just_host.specs.Record.{Record}
use Rattle.just_host.specs.Asking.{Asks}

-- the host goes along, by entries of these kinds alone
pub record Only {H : Type 0} (kinds : Entry → Bool) (goes : H → List Entry → H → Type 0) (a : H) (piece : List Entry) (b : H) : Type 0 where
  pub went : goes a piece b
  pub of_kinds : list_all kinds piece ≡ true

-- ---- what kinds may hold

-- all questions
pub record HaveQuestions (kinds : Entry → Bool) : Type 0 where
  pub asked : (question : Question) (answer : Answer) → kinds (Asked question answer) ≡ true

-- all requests for files of variables
pub record HaveRequests (kinds : Entry → Bool) : Type 0 where
  pub requested : (request : DotenvRequest) (answer : Result (Sequence Pair) HostFault) → kinds (Dotenv request answer) ≡ true

-- all that the user is shown and asked
pub record HaveUser (kinds : Entry → Bool) : Type 0 where
  pub shown : (text : List ℕ) → kinds (Show text) ≡ true
  pub confirmed : (prompt : List ℕ) (answer : Confirmation) → kinds (Confirm prompt answer) ≡ true

-- all commands and scripts that are handed over
pub record HaveWork (kinds : Entry → Bool) : Type 0 where
  pub lines : (job : CommandJob) (status : Status) → kinds (Line job status) ≡ true
  pub scripts : (job : ScriptJob) (status : Status) → kinds (Script job status) ≡ true

-- ---- what a stage adds

-- nothing
abbrev pub AsksNothing : {H : Type 0} → (H → List Entry → H → Type 0) → Record H → Record H → Type 0
AsksNothing goes old new = (kinds : Entry → Bool) → Asks (Only kinds goes) old new

-- questions alone
abbrev pub AsksQuestions : {H : Type 0} → (H → List Entry → H → Type 0) → Record H → Record H → Type 0
AsksQuestions goes old new = (kinds : Entry → Bool) → HaveQuestions kinds → Asks (Only kinds goes) old new

-- questions, and requests for files of variables
abbrev pub AsksRequests : {H : Type 0} → (H → List Entry → H → Type 0) → Record H → Record H → Type 0
AsksRequests goes old new = (kinds : Entry → Bool) → HaveQuestions kinds → HaveRequests kinds → Asks (Only kinds goes) old new

-- questions, and what the user is shown and asked; commands and scripts in no dry run
abbrev pub AsksWork : {H : Type 0} → Bool → (H → List Entry → H → Type 0) → Record H → Record H → Type 0
AsksWork dry goes old new = (kinds : Entry → Bool) → HaveQuestions kinds → HaveUser kinds → (dry ≡ false → HaveWork kinds) → Asks (Only kinds goes) old new
