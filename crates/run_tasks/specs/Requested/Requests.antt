-- What an action asks for.
use Rattle.std.specs.Prelude.{◌≡◌, ◌≢◌}
use Rattle.run_tasks.specs.declared.action.Action.{Action}
use Rattle.run_tasks.specs.declared.action.Action.TheVariants as actions
use Rattle.run_tasks.specs.declared.request.Request.{Request}
use Rattle.run_tasks.specs.declared.request.Request.TheVariants as requests
use Rattle.run_tasks.specs.declared.request.RootText.TheVariants as texts
use Rattle.run_tasks.specs.declared.task.Task.{Task}
use Rattle.run_tasks.specs.declared.task.Task.TheVariants as tasks

-- a text of the root module alone is asked for
abbrev pub IsText : Action → Type 0
IsText actions.Run = ⊥
IsText actions.Plan = ⊥
IsText actions.Evaluate = ⊥
IsText actions.Command = ⊥
IsText actions.Dump = Unit {0}
IsText actions.Format = Unit {0}
IsText actions.List = Unit {0}

-- a task is one of its action
abbrev pub IsTaskOf : Action → Task → Type 0
IsTaskOf actions.Run (tasks.Run calls) = Unit {0}
IsTaskOf actions.Evaluate (tasks.Evaluate target) = Unit {0}
IsTaskOf actions.Command (tasks.Command words) = Unit {0}
IsTaskOf action task = ⊥

-- a task is asked for by its action; a plan is asked for by its action, which asks for nothing else but the list of recipes; a text is asked for by its action, or is that list
abbrev pub IsFor : Action → Request → Type 0
IsFor action (requests.Task task) = (action ≢ actions.Plan) × (IsText action → ⊥) × IsTaskOf action task
IsFor action (requests.Plan calls) = action ≡ actions.Plan
IsFor action (requests.Text text) = action ≡ actions.Plan → text ≡ texts.List
