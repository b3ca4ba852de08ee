-- Requests that are asked for, and the rules of words that are then not broken.
use Rattle.std.proofs.Common.{◌≡◌, ◌≢◌, ℕ, List, [], ◌∷◌, refl, subst}
use Rattle.modules_compilation.specs.declared.compilation.Compilation.{Compilation}
use Rattle.resolve_analysis.specs.declared.analysis.Analysis.{Analysis}
use Rattle.just_meaning.specs.Actions.{ActionRule, BreaksCommand, BreaksText, any, none}
use Rattle.run_tasks.specs.declared.task.Task.{Task}
use Rattle.run_tasks.specs.declared.task.Task.TheVariants as tasks
use Rattle.run_tasks.specs.Requested.Asked.{HandsOver, IsAskedFor}
use Rattle.run_tasks.specs.Requested.Words.{MeansPlaced}
use Rattle.run_tasks.specs.declared.action.Action.{Action}
use Rattle.run_tasks.specs.declared.action.Action.TheVariants as actions
use Rattle.run_tasks.specs.declared.request.Request.{Request}
use Rattle.run_tasks.specs.declared.request.Request.TheVariants as requests

-- where there are no words, none is too many
no_word : (words : List (List ℕ)) → words ≡ [] → (rule : ActionRule) → BreaksText words rule → ⊥
no_word words e rule (any {word} {words = others}) = absurd (let f : word ∷ others ≡ [] = e in cc)

-- where there is a word, none is missing
a_word : (words : List (List ℕ)) → words ≢ [] → (rule : ActionRule) → BreaksCommand words rule → ⊥
a_word words there rule none = there refl

handed : (words : List (List ℕ)) (request : Request) → HandsOver words request → words ≢ []
handed words (requests.Task (tasks.Run calls)) h = absurd h
handed words (requests.Task (tasks.Evaluate target)) h = absurd h
handed words (requests.Task (tasks.Command command)) h = h.1
handed words (requests.Plan calls) h = absurd h
handed words (requests.Text text) h = absurd h

module _ (compilation : Compilation) (analysis : Analysis) (words : List (List ℕ)) where
  -- the words of a request break no rule
  pub asked_means : (action : Action) (request : Request) → IsAskedFor compilation analysis words action request → MeansPlaced compilation analysis words action
  asked_means actions.Run request h = (h.0, h.1)
  asked_means actions.Plan request h = (h.0, h.1)
  asked_means actions.Evaluate request h = (h.0, h.1)
  asked_means actions.Command request h = a_word words (handed words request h)
  asked_means actions.Dump request h = no_word words h.0
  asked_means actions.Format request h = no_word words h.0
  asked_means actions.List request h = no_word words h.0
