-- Commands in expressions.
use Rattle.std.specs.Prelude.{ℕ, List, Result, Ok, Err, None, false}
use Rattle.just_host.specs.declared.host.Answer.{Answer}
use Rattle.just_host.specs.declared.host.HostFault.{HostFault}
use Rattle.just_host.specs.declared.host.Question.{Question}
use Rattle.just_host.specs.declared.host.Question.TheVariants.{Command}
use Rattle.just_host.specs.declared.job.Pair.{Pair}
use Rattle.just_value.specs.Frames.{Frames}
use Rattle.evaluate_context.specs.declared.context.ExecutionContext.{ExecutionContext}
use Rattle.evaluate_context.specs.Surroundings.{surroundings_of, standing_in, job_of}
use Rattle.meaning_dialogues.specs.Answers.{text_in, without_line_end}

-- what is asked for a command with these words after it; which recipe stands there makes no difference
abbrev pub command_question : ExecutionContext → List Pair → Frames → List ℕ → List (List ℕ) → Question
command_question context env frames command positional = Command (job_of (surroundings_of context) (standing_in context env frames false None) command positional)

-- a text without one line end at its end, or the fault
abbrev pub trimmed : Result (List ℕ) HostFault → Result (List ℕ) HostFault
trimmed (Ok text) = Ok (without_line_end text)
trimmed (Err fault) = Err fault

abbrev pub printed_in : Answer → Result (List ℕ) HostFault
printed_in answer = trimmed (text_in answer)
