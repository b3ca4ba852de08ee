-- How answers are read, and what is made of them.
use Rattle.std.specs.Prelude.{◌≡◌, ℕ, Bool, List, [], ◌∷◌, ◌++◌, Option, Some, None, Result, Ok, Err, codes, if◌then◌else◌}
use Rattle.tree_expressions.specs.Cutting.{ends, without_back}
use Rattle.just_host.specs.Faults.{fault_text}
use Rattle.just_host.specs.declared.entry.Entry.{Entry}
use Rattle.just_host.specs.declared.entry.Entry.TheVariants.{Asked}
use Rattle.just_host.specs.declared.host.Question.{Question}
use Rattle.just_host.specs.declared.host.Answer.{Answer}
use Rattle.just_host.specs.declared.host.Answer.TheVariants.{Text, Truth, Absent, Fault as FaultOf}
use Rattle.just_host.specs.declared.host.HostFault.{HostFault}
use Rattle.just_host.specs.declared.host.HostFault.TheVariants.{Io}
use Rattle.meaning_dialogues.specs.Faults.{Fault, function_failed, command_failed}

-- the fault of an answer that the question does not take
abbrev pub unexpected : HostFault
unexpected = Io (codes "unexpected answer")

abbrev pub text_in : Answer → Result (List ℕ) HostFault
text_in (Text text) = Ok text
text_in (FaultOf fault) = Err fault
text_in Absent = Err unexpected
text_in (Truth holds) = Err unexpected

abbrev pub optional_in : Answer → Result (Option (List ℕ)) HostFault
optional_in (Text text) = Ok (Some text)
optional_in Absent = Ok None
optional_in (FaultOf fault) = Err fault
optional_in (Truth holds) = Err unexpected

abbrev pub truth_in : Answer → Result Bool HostFault
truth_in (Truth holds) = Ok holds
truth_in (FaultOf fault) = Err fault
truth_in Absent = Err unexpected
truth_in (Text text) = Err unexpected

-- a question was asked, and told so
pub record IsAnswered {A : Type 0} (question : Question) (tells : Answer → A) (old new : List Entry) (told : A) : Type 0 where
  pub answer : Answer
  pub entries : new ≡ old ++ Asked question answer ∷ []
  pub is : told ≡ tells answer

-- a question was asked, or memory ran out before it
pub data MayAsk (question : Question) (old new : List Entry) : Type 0 where
  not_asked : new ≡ old → MayAsk question old new
  asked : (answer : Answer) → new ≡ old ++ Asked question answer ∷ [] → MayAsk question old new

-- a text without one line end at its end
abbrev pub without_line_end : List ℕ → List ℕ
without_line_end text = if ends text (codes "\r\n") then without_back (codes "\r\n") text else without_back (codes "\n") text

-- what a command in backticks gives that is written so
abbrev pub output : List ℕ → Result (List ℕ) HostFault → Result (List (List ℕ)) Fault
output written (Ok text) = Ok (without_line_end text ∷ [])
output written (Err fault) = Err (command_failed fault written)

-- what a function makes of a host's fault, after these words
abbrev pub faulted : List ℕ → List ℕ → HostFault → Fault
faulted name words fault = function_failed name (words ++ fault_text fault)
