-- Confirmations, for each way that they go.
use Rattle.std.proofs.Common.{◌≡◌, ℕ, List, [], ◌∷◌, Option, Some, None, refl}
use Rattle.std.specs.Prelude.{Result, Ok, Err}
use Rattle.just_host.specs.declared.entry.Entry.{Entry}
use Rattle.just_host.specs.declared.entry.Entry.TheVariants.{Confirm}
use Rattle.just_host.specs.declared.host.Confirmation.{Confirmation}
use Rattle.just_host.specs.Record.{Record}
use Rattle.just_host.specs.Follows.{Follows}
use Rattle.just_value.specs.Values.{joined}
use Rattle.tree_expressions.specs.declared.expression.Expression.{Expression}
use Rattle.evaluate_expressions.proofs.WantOfMemory.{unless_memory}
use Rattle.meaning_dialogues.specs.Dialogue.{Evaluates, Reading}
use Rattle.meaning_dialogues.specs.Evaluation.{Stage, Value, dialogue}
use Rattle.meaning_dialogues.specs.Faults.{Fault, memory}
use Rattle.meaning_dialogues.specs.Terms.{term_of}
use Rattle.meaning_runs.specs.Failures.{Failure, confirmed, evaluation}
use Rattle.meaning_runs.specs.Task.{ends, lift}
use Rattle.laws_evaluation.specs.Bodies.Performing.{Performs, Stays}
use Rattle.laws_evaluation.proofs.Bodies.Performing.{performs_confirmed, performs_then, performs_stops, performs_ends, performs_evaluated}
use Rattle.analyze_calls.specs.Confirming.{asking, confirming, prompt_text}

module _ {H : Type 0} (reading : Reading) where
  -- the user is asked, and the answer says how it ends
  pub performs_asked : (goes : H → List Entry → H → Type 0) (recipe text : List ℕ) (old new : Record H) (answer : Confirmation) (r : Result (Unit {0}) Failure) → Follows goes old (Confirm text answer ∷ []) new → r ≡ confirmed recipe answer → Performs reading (asking recipe text) old new r
  performs_asked goes recipe text old new answer r f is = rw is (performs_confirmed reading goes text (confirmed recipe) old new answer f)

  module _ (stage : Stage) (recipe : List ℕ) (prompt : Expression) (old new : Record H) where
    -- a prompt has a text
    pub prompt_given : (v : Value) (text : List ℕ) → Evaluates reading (dialogue stage (term_of prompt)) old.entries new.entries (Ok v) → text ≡ joined v → Performs reading (prompt_text stage recipe (Some prompt)) old new (Ok text)
    prompt_given v text h is =
        rw is
        (performs_then reading (lift (dialogue stage (term_of prompt))) (λ texts. ends (Ok (joined texts))) old new new v (Ok (joined v))
        (performs_evaluated reading (dialogue stage (term_of prompt)) old new (Ok v) h) (λ full. refl) (performs_ends reading new (Ok (joined v))))

    -- it has none
    pub prompt_stopped : (f : Fault) → Evaluates reading (dialogue stage (term_of prompt)) old.entries new.entries (Err f) → Performs reading (prompt_text stage recipe (Some prompt)) old new (Err (evaluation f))
    prompt_stopped f h =
        performs_stops reading (lift (dialogue stage (term_of prompt))) (λ texts. ends (Ok (joined texts))) old new (evaluation f) (performs_evaluated reading (dialogue stage (term_of prompt)) old new (Err f) h)

    -- memory ran out behind its value
    pub prompt_memory : (v : Value) → Evaluates reading (dialogue stage (term_of prompt)) old.entries new.entries (Ok v) → Performs reading (prompt_text stage recipe (Some prompt)) old new (Err (evaluation memory))
    prompt_memory v h = prompt_stopped memory (unless_memory h (λ n. absurd (n refl)))

  -- a text is come to, and then the user is asked
  pub asked_then : (stage : Stage) (recipe : List ℕ) (prompt : Option Expression) (old mid new : Record H) (text : List ℕ) (r : Result (Unit {0}) Failure) → Performs reading (prompt_text stage recipe prompt) old mid (Ok text) → Stays mid new → Performs reading (asking recipe text) mid new r → Performs reading (confirming stage recipe (Some prompt)) old new r
  asked_then stage recipe prompt old mid new text r h stays g = performs_then reading (prompt_text stage recipe prompt) (asking recipe) old mid new text r h stays g

  pub asked_none : (stage : Stage) (recipe : List ℕ) (prompt : Option Expression) (old new : Record H) (f : Failure) → Performs reading (prompt_text stage recipe prompt) old new (Err f) → Performs reading (confirming stage recipe (Some prompt)) old new (Err f)
  asked_none stage recipe prompt old new f h = performs_stops reading (prompt_text stage recipe prompt) (asking recipe) old new f h
