-- Commands between backticks.
use Rattle.std.proofs.Common.{◌≡◌, ◌≢◌, ℕ, true, false, List, [], ◌∷◌, Result, Ok, Err, refl, ap, subst, ◌∙◌}
use Rattle.std.specs.Borrow.{Bor}
use Rattle.just_host.specs.declared.entry.Entry.{Entry}
use Rattle.just_host.specs.declared.host.HostFault.{HostFault}
use Rattle.just_host.specs.declared.host.Question.{Question}
use Rattle.evaluate_context.specs.declared.context.ExecutionContext.{ExecutionContext}
use Rattle.evaluate_builtins.specs.Commands.{command_question, printed_in, trimmed}
use Rattle.evaluate_expressions.specs.Failures.{printed_value}
use Rattle.evaluate_expressions.specs.Situations.{stage_of}
use Rattle.evaluate_expressions.specs.declared.evaluator.Evaluator.{Evaluator}
use Rattle.evaluate_expressions.specs.declared.evaluator.Stage.TheVariants.{Run}
use Rattle.meaning_dialogues.specs.Answers.{IsAnswered, MayAsk, output, text_in}
use Rattle.meaning_dialogues.specs.Dialogue.{Ends, Asks, Evaluates, Reading}
use Rattle.meaning_dialogues.specs.Evaluation.{Value, dialogue, ticked}
use Rattle.meaning_dialogues.specs.Faults.{Fault, memory}
use Rattle.meaning_dialogues.specs.Terms.{command}
use Rattle.meaning_dialogues.proofs.Answered.{may_ask_begins, may_ask_goes, answered_asks}
use Rattle.meaning_dialogues.proofs.Dialogues.{ends}

printed_output : (written : List ℕ) (text : Result (List ℕ) HostFault) → printed_value written (trimmed text) ≡ output written text
printed_output written (Ok text) = refl
printed_output written (Err fault) = refl

-- a command that was run
pub command_told : {reading : Reading} {question : Question} {old new : List Entry} {told : Result (List ℕ) HostFault} {result : Result Value Fault} (written : List ℕ)
    → IsAnswered question printed_in old new told → (result ≢ Err memory → result ≡ printed_value written told)
    → Evaluates reading (Asks question (λ answer. Ends (output written (text_in answer)))) old new result
command_told {reading = reading} {question = question} {old = old} {new = new} written told is = record {
  goes = λ n. (told.answer, (told.entries, is n ∙ (ap (printed_value written) told.is ∙ printed_output written (text_in told.answer))));
  begins = may_ask_begins reading (λ answer. Ends (output written (text_in answer))) old new (answered_asks told);
}

module _ (context : Bor ExecutionContext) (e : Evaluator) (contents written : List ℕ) where
  -- a command in a dry run
  pub command_dry : {reading : Reading} {old : List Entry} {result : Result Value Fault} → context.now.config.now.dry_run ≡ true → (result ≢ Err memory → result ≡ Ok (ticked contents ∷ []))
      → Evaluates reading (dialogue (stage_of (Run context) e) (command contents written)) old old result
  command_dry dry is = rw dry (ends _ is)

  module _ (put : List ℕ) (same : put ≡ contents) (asks : context.now.config.now.dry_run ≡ false) where
    -- a command of a run that was run
    pub command_runs : {reading : Reading} {old new : List Entry} {told : Result (List ℕ) HostFault} {result : Result Value Fault} → IsAnswered (command_question context.now e.env.now e.scope.now put []) printed_in old new told
        → (result ≢ Err memory → result ≡ printed_value written told) → Evaluates reading (dialogue (stage_of (Run context) e) (command contents written)) old new result
    command_runs {reading = reading} {old = old} {new = new} {result = result} told is =
        subst (λ text. Evaluates reading (dialogue (stage_of (Run context) e) (command text written)) old new result) same (rw asks (command_told written told is))

    -- memory ran out about a command of a run
    pub command_begins : {reading : Reading} {old new : List Entry} → MayAsk (command_question context.now e.env.now e.scope.now put []) old new
        → Evaluates reading (dialogue (stage_of (Run context) e) (command contents written)) old new (Err memory)
    command_begins {reading = reading} {old = old} {new = new} m =
        subst (λ text. Evaluates reading (dialogue (stage_of (Run context) e) (command text written)) old new (Err memory)) same (rw asks (may_ask_goes (λ answer. Ends (output written (text_in answer))) m))
