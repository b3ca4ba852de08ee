-- Which kinds of entries a call adds to the record.
use Rattle.std.specs.Prelude.{◌≡◌, Bool, false, List}
use Rattle.just_host.specs.Asking.{Asks}
use Rattle.just_host.specs.Kinds.{HaveQuestions, HaveRequests, HaveUser, HaveWork, Only}
use Rattle.just_host.specs.Record.{Record}
use Rattle.just_host.specs.declared.entry.Entry.{Entry}
use Rattle.run_tasks.specs.declared.action.Action.{Action}
use Rattle.run_tasks.specs.declared.action.Action.TheVariants as actions

-- What an action may add: opening asks questions and for files of variables, and so does a plan; a run shows, asks and hands over; a command is handed over; nothing is handed over in a dry run. A text of the root module adds nothing.
abbrev pub MayAdd : Action → Bool → (Entry → Bool) → Type 0
MayAdd actions.Run dry kinds = HaveQuestions kinds × HaveRequests kinds × HaveUser kinds × (dry ≡ false → HaveWork kinds)
MayAdd actions.Plan dry kinds = HaveQuestions kinds × HaveRequests kinds
MayAdd actions.Evaluate dry kinds = HaveQuestions kinds × HaveRequests kinds
MayAdd actions.Command dry kinds = HaveQuestions kinds × HaveRequests kinds × (dry ≡ false → HaveWork kinds)
MayAdd actions.Dump dry kinds = Unit {0}
MayAdd actions.Format dry kinds = Unit {0}
MayAdd actions.List dry kinds = Unit {0}

-- what the action may add, and nothing else
abbrev pub AsksFor : {H : Type 0} → Action → Bool → (H → List Entry → H → Type 0) → Record H → Record H → Type 0
AsksFor action dry goes old new = (kinds : Entry → Bool) → MayAdd action dry kinds → Asks (Only kinds goes) old new
