-- Dialogues that differ in questions alone, and places of a run that differ in what they export alone.
use Rattle.std.specs.Prelude.{◌≡◌, ℕ, true, List, Result}
use Rattle.std.specs.List.{AllByRecursion}
use Rattle.just_host.specs.declared.host.Question.{Question}
use Rattle.just_host.specs.declared.host.Question.TheVariants.{Command}
use Rattle.just_host.specs.declared.host.Answer.{Answer}
use Rattle.just_host.specs.declared.job.Pair.{Pair}
use Rattle.evaluate_context.specs.Environment.{is_among}
use Rattle.evaluate_context.specs.Surroundings.{Surroundings, Standing, job_of}
use Rattle.meaning_dialogues.specs.Faults.{Fault}
use Rattle.meaning_dialogues.specs.Dialogue.{Dialogue, Ends, Asks, Reads, Lookup, Variable}
use Rattle.meaning_dialogues.specs.Evaluation.{Value}
use Rattle.meaning_dialogues.specs.Meaning.{QuestionAnswers}

module _ (answers : QuestionAnswers) where
  -- they read the same and end alike, and questions at the same place are answered the same
  pub data AnsweredAlike {A : Type 0} : Dialogue A → Dialogue A → Type 0 where
    both_end : {r : Result A Fault} → AnsweredAlike (Ends r) (Ends r)
    both_ask : {q p : Question} {k l : Answer → Dialogue A} → answers q ≡ answers p → ((answer : Answer) → AnsweredAlike (k answer) (l answer)) → AnsweredAlike (Asks q k) (Asks p l)
    both_read : {place : Lookup} {x : Variable} {k l : Value → Dialogue A} → ((value : Value) → AnsweredAlike (k value) (l value)) → AnsweredAlike (Reads place x k) (Reads place x l)

  -- two places of a run: commands are answered the same at both, and both are in the same recipe, as a dependency or not
  pub record StandAlike (around : Surroundings) (first second : Standing) : Type 0 where
    pub commands : (command : List ℕ) (positional : List (List ℕ)) → answers (Command (job_of around first command positional)) ≡ answers (Command (job_of around second command positional))
    pub dependency : first.is_dependency ≡ second.is_dependency
    pub recipe : first.recipe ≡ second.recipe

-- each of these pairs has one of the names
abbrev pub HaveNames : List (List ℕ) → List Pair → Type 0
HaveNames names pairs = AllByRecursion (λ pair. is_among names pair.name ≡ true) pairs
