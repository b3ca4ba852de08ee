-- What built-in functions say, with their names.
use Rattle.std.proofs.Common.{◌≡◌, ℕ, List, ◌++◌, Option, Result, Ok, Err, codes, refl}
use Rattle.just_host.specs.declared.entry.Entry.{Entry}
use Rattle.just_host.specs.declared.host.HostFault.{HostFault}
use Rattle.just_host.specs.declared.host.Question.{Question}
use Rattle.just_host.specs.declared.host.Question.TheVariants.{Which}
use Rattle.just_host.specs.declared.host.Answer.{Answer}
use Rattle.evaluate_functions.specs.declared.fault.FunctionFault.{FunctionFault}
use Rattle.evaluate_functions.specs.declared.fault.FunctionFault.TheVariants.{OutOfMemory, Message}
use Rattle.evaluate_functions.specs.Functions.{Answers}
use Rattle.meaning_dialogues.specs.Answers.{IsAnswered, text_in, optional_in}
use Rattle.meaning_dialogues.specs.Dialogue.{Ends, Asks, Evaluates, Reading}
use Rattle.meaning_dialogues.specs.Evaluation.{Value, ticked}
use Rattle.meaning_dialogues.specs.Faults.{Fault, function_failed}
use Rattle.meaning_dialogues.proofs.Answered.{answered_goes}
use Rattle.meaning_dialogues.proofs.Dialogues.{ends}
use Rattle.just_value.specs.Paths.{join}
use Rattle.evaluate_context.specs.Surroundings.{Surroundings}
use Rattle.evaluate_builtins.specs.Builtins.{says, at_path, text_told, optional_told, program_dialogue}
use Rattle.evaluate_builtins.specs.Named.{IsNamed, named}

-- an answer of the function
pub answer_named : (name : List ℕ) (answer : Result Value (List ℕ)) (given : Result Value FunctionFault) → Answers answer given → IsNamed name given (says name answer)
answer_named name answer (Ok value) h = record { is = λ n. rw h refl }
answer_named name answer (Err (Message text)) h = record { is = λ n. rw h refl }
answer_named name answer (Err OutOfMemory) h = record { is = λ n. absurd (n refl) }

pub value_named : (name : List ℕ) (value : Value) (given : Result Value FunctionFault) → Answers (Ok value) given → IsNamed name given (Ok value)
value_named name value given h = answer_named name (Ok value) given h

pub refusal_named : (name text : List ℕ) (fault : FunctionFault) → Answers (Err text) (Err fault) → IsNamed name (Err fault) (Err (function_failed name text))
refusal_named name text fault h = answer_named name (Err text) (Err fault) h

-- what is made of the answer to a question
pub question_goes : {A : Type 0} {reading : Reading} {question : Question} {tells : Answer → A} {old new : List Entry} {told : A} {given : Result Value FunctionFault} (name : List ℕ) (gives : A → Result Value Fault) → IsAnswered question tells old new told → IsNamed name given (gives told) → Evaluates reading (Asks question (λ answer. Ends (gives (tells answer)))) old new (named name given)
question_goes name gives answered is = answered_goes gives answered is.is

-- nothing is asked
pub answer_goes : {reading : Reading} {old : List Entry} {given : Result Value FunctionFault} (name : List ℕ) (said : Result Value Fault) → IsNamed name given said → Evaluates reading (Ends said) old old (named name given)
answer_goes name said is = ends said is.is

-- the text that answers a question about a path
pub path_goes : {reading : Reading} {asked : Question} {old new : List Entry} {told : Result (List ℕ) HostFault} {given : Result Value FunctionFault} (name : List ℕ) (question : List ℕ → Question) (doing path : List ℕ) (around : Surroundings) → asked ≡ question (join around.folder path) → IsAnswered asked text_in old new told → IsNamed name given (text_told name (codes "I/O error " ++ (doing ++ (codes " " ++ (ticked path ++ codes ": ")))) told) → Evaluates reading (at_path name question doing around path) old new (named name given)
path_goes name question doing path around e answered is = rw (← e) (question_goes name (text_told name (codes "I/O error " ++ (doing ++ (codes " " ++ (ticked path ++ codes ": "))))) answered is)

-- the answer to the question for a program
pub program_goes : {reading : Reading} {asked : Question} {old new : List Entry} {told : Result (Option (List ℕ)) HostFault} {given : Result Value FunctionFault} (name program : List ℕ) (around : Surroundings) (absent : Result Value Fault) → asked ≡ Which program around.folder → IsAnswered asked optional_in old new told → IsNamed name given (optional_told name absent told) → Evaluates reading (program_dialogue name around program absent) old new (named name given)
program_goes name program around absent e answered is = rw (← e) (question_goes name (optional_told name absent) answered is)
