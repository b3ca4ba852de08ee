-- Questions and what is told of them.
use Rattle.std.proofs.Common.{◌≡◌, ◌≢◌, List, [], ◌∷◌, ◌++◌, Result, Err, refl, sym, subst, ◌∙◌, ap}
use Rattle.just_host.specs.declared.entry.Entry.{Entry}
use Rattle.just_host.specs.declared.entry.Entry.TheVariants.{Asked}
use Rattle.just_host.specs.declared.host.Question.{Question}
use Rattle.just_host.specs.declared.host.Answer.{Answer}
use Rattle.meaning_dialogues.specs.Faults.{Fault, memory}
use Rattle.meaning_dialogues.specs.Dialogue.{Dialogue, DialogueGoes, Begins, Ends, Asks, Evaluates, Reading}
use Rattle.meaning_dialogues.specs.Answers.{IsAnswered, MayAsk, asked, not_asked}
use Rattle.meaning_dialogues.proofs.Dialogues.{begins_here, whole_begins}

pub is_answered : {A : Type 0} (question : Question) (tells : Answer → A) (old new : List Entry) (answer : Answer) (told : A) → new ≡ old ++ Asked question answer ∷ [] → told ≡ tells answer → IsAnswered question tells old new told
is_answered question tells old new answer told e t = record { answer = answer; entries = e; is = t }

-- a question that was asked and told, and what is made of it
pub answered_goes : {A B : Type 0} {reading : Reading} {question : Question} {tells : Answer → A} {old new : List Entry} {told : A} {result : Result B Fault} (gives : A → Result B Fault) → IsAnswered question tells old new told → (result ≢ Err memory → result ≡ gives told) → Evaluates reading (Asks question (λ answer. Ends (gives (tells answer)))) old new result
answered_goes {reading = reading} {question = question} {tells = tells} {old = old} {new = new} gives answered is = record {
  goes = λ n. (answered.answer, (answered.entries, is n ∙ ap gives answered.is));
  begins = whole_begins reading (Asks question (λ answer. Ends (gives (tells answer)))) old new (gives (tells answered.answer)) (answered.answer, (answered.entries, refl));
}

-- ---- where memory ran out about a question

-- a question that was asked, or was not, begins what asks it first
pub may_ask_begins : {A : Type 0} {question : Question} (reading : Reading) (next : Answer → Dialogue A) (old new : List Entry) → MayAsk question old new → Begins reading (Asks question next) old new
may_ask_begins {question = question} reading next old new (not_asked e) = subst (λ n. Begins reading (Asks question next) old n) (sym e) (begins_here reading (Asks question next) old)
may_ask_begins {question = question} reading next old new (asked answer e) =
    let b = begins_here reading (next answer) new in
    record { rest = b.rest; result = b.result; goes = (answer, subst (λ n. DialogueGoes reading (next answer) n (new ++ b.rest) b.result) e b.goes) }

-- nothing more was asked for want of memory
pub may_ask_goes : {A : Type 0} {reading : Reading} {question : Question} {old new : List Entry} (next : Answer → Dialogue A) → MayAsk question old new → Evaluates reading (Asks question next) old new (Err memory)
may_ask_goes {reading = reading} {old = old} {new = new} next m = record { goes = λ n. absurd (n refl); begins = may_ask_begins reading next old new m }

-- a question that was answered was asked
pub answered_asks : {A : Type 0} {question : Question} {tells : Answer → A} {old new : List Entry} {told : A} → IsAnswered question tells old new told → MayAsk question old new
answered_asks a = asked a.answer a.entries
