-- The text of plans of runs.
use Rattle.std.specs.Prelude.{◌≡◌, List, []}
use Rattle.just_host.specs.declared.entry.Entry.{Entry}
use Rattle.meaning_runs.specs.Tallies.{Tally}
use Rattle.meaning_evaluation.specs.Named.{Call, Definitions}
use Rattle.meaning_evaluation.specs.Scopes.{Configuration}
use Rattle.meaning_evaluation.specs.Requests.{OpeningFailure}
use Rattle.just_meaning.specs.Runs.{Runs}
use Rattle.just_meaning.specs.Determined.{GoAlike, nothing}
use Rattle.run_plan.specs.Plans.{plan_text}
use Rattle.just_meaning.specs.Runs as runs

-- how a run ended, without rules
abbrev pub End : Type 0
End = runs.Outcome ⊥

-- where modules could not open nothing is written
abbrev pub RefusedPlansAreEmpty : Type 0
RefusedPlansAreEmpty = (c : Configuration) (defined : Definitions) (calls : List Call) (entries : List Entry) (t : Tally) (fault : OpeningFailure) → Runs {Rule = ⊥} c defined calls [] nothing entries t (runs.not_opened fault) → plan_text entries ≡ []

-- Plans of runs that go alike have the same text.
abbrev pub PlansAreSame : Type 0
PlansAreSame = (c : Configuration) (a b : Definitions) (calls others : List Call) (entries entries' : List Entry) (t t' : Tally) (end end' : End)
    → Runs c a calls [] nothing entries t end → Runs c b others [] nothing entries' t' end' → GoAlike [] entries [] entries' t t' end end' → plan_text entries ≡ plan_text entries'
