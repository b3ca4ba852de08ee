-- The naive meaning: a question means what is answered to it, and a variable what its right side means, evaluated anew at each reading.
use Rattle.std.specs.Prelude.{◌≡◌, ℕ, zero, suc, List, [], ◌∷◌, Option, Some, None, option_and_then, Result, Ok, Err}
use Rattle.just_host.specs.declared.entry.Entry.{Entry}
use Rattle.just_host.specs.declared.entry.Entry.TheVariants.{Asked}
use Rattle.just_host.specs.declared.host.Question.{Question}
use Rattle.just_host.specs.declared.host.Answer.{Answer}
use Rattle.meaning_dialogues.specs.Faults.{Fault}
use Rattle.meaning_dialogues.specs.Dialogue.{Dialogue, Ends, Asks, Reads, Lookup, Variable}
use Rattle.meaning_dialogues.specs.Evaluation.{Value}

-- what questions are answered; some are not
abbrev pub QuestionAnswers : Type 0
QuestionAnswers = Question → Option Answer

-- a value, a fault, or none where a question is unanswered
abbrev pub Meaning : Type 0 → Type 0
Meaning A = Option (Result A Fault)

abbrev pub with_meaning : {A : Type 0} → Meaning Value → (Value → Meaning A) → Meaning A
with_meaning None go = None
with_meaning (Some (Err fault)) go = Some (Err fault)
with_meaning (Some (Ok value)) go = go value

-- what a dialogue means, by what variables mean at each place
abbrev pub meaning : {A : Type 0} → QuestionAnswers → (Lookup → Variable → Meaning Value) → Dialogue A → Meaning A
meaning answers variables (Ends end) = Some end
meaning answers variables (Asks question next) = option_and_then (λ answer. meaning answers variables (next answer)) (answers question)
meaning answers variables (Reads place variable next) = with_meaning (variables place variable) (λ value. meaning answers variables (next value))

-- the questions of a piece have the answers that are given
abbrev pub AgreesWith : QuestionAnswers → List Entry → Type 0
AgreesWith answers [] = Unit {0}
AgreesWith answers (Asked question answer ∷ entries) = (answers question ≡ Some answer) × AgreesWith answers entries
AgreesWith answers (entry ∷ entries) = AgreesWith answers entries

module _ (right_side : Variable → Option (Dialogue Value)) (answers : QuestionAnswers) where
  -- what a variable means, where readings nest at most so deep
  abbrev pub variable_meaning : ℕ → Lookup → Variable → Meaning Value
  variable_meaning zero place variable = None
  variable_meaning (suc deep) place variable = option_and_then (λ side. meaning answers (variable_meaning deep) side) (right_side variable)
