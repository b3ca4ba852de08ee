-- What shows that the definitions of naive runs and of their plans carry.
use Rattle.std.specs.Prelude.{◌≡◌, List, Contains, ◌↔◌, []}
use Rattle.just_host.specs.declared.entry.Entry.{Entry}
use Rattle.meaning_runs.specs.Laws.{events_of}
use Rattle.meaning_runs.specs.Meant.{is_event}
use Rattle.meaning_runs.specs.Told.{Answers}
use Rattle.meaning_evaluation.specs.Named.{Call, Definitions, paths_of}
use Rattle.meaning_evaluation.specs.Scopes.{Configuration}
use Rattle.meaning_evaluation.specs.Requests.{OpeningFailure}
use Rattle.just_meaning.specs.Runs.{Outcome, recipes_of, not_opened}
use Rattle.just_meaning.specs.Naively.{GivesFault, IsRefused, GoesNaively}
use Rattle.run_plan.specs.Plans.{plan_text}
use Rattle.just_meaning.specs.Planned.{WritesNaively}

-- A fault that the answers give refuses the opening.
abbrev pub GivenFaultsRefuse : Type 0
GivenFaultsRefuse = (f : Answers) (c : Configuration) (defined : Definitions) (calls : List Call) (fault : OpeningFailure) → GivesFault f c defined (recipes_of calls) (λ path. Contains (paths_of defined.modules) path) fault → IsRefused f c defined calls

-- What goes naively is refused before any recipe exactly where the answers refuse the opening.
abbrev pub RefusedExactly : Type 0 → Type 0
RefusedExactly Rule = (f : Answers) (c : Configuration) (defined : Definitions) (calls : List Call) (old new : List Entry) (outcome : Outcome Rule) → GoesNaively f c defined calls old new outcome
    → IsRefused f c defined calls ↔ ((fault : OpeningFailure) × (outcome ≡ not_opened fault))

-- the text of a plan is that of the events alone
abbrev pub PlansTellEvents : Type 0
PlansTellEvents = (entries : List Entry) → plan_text (events_of is_event entries) ≡ plan_text entries

-- A plan of a run that goes naively is the text of the naive run.
abbrev pub PlansTellNaively : Type 0 → Type 0
PlansTellNaively Rule = (f : Answers) (c : Configuration) (defined : Definitions) (calls : List Call) (entries : List Entry) (outcome : Outcome Rule) → GoesNaively f c defined calls [] entries outcome
    → WritesNaively f c defined calls (plan_text entries) outcome
