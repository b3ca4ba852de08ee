-- Two runs of the same words in one world.
use Rattle.std.specs.Prelude.{ℕ, List, map}
use Rattle.just_host.specs.declared.entry.Entry.{Entry}
use Rattle.meaning_runs.specs.Invokes.{Invoke}
use Rattle.meaning_runs.specs.Tallies.{Tally}
use Rattle.meaning_runs.specs.Told.{Answers}
use Rattle.meaning_rules.specs.Worlds.Given.{Overrides, Text, World}
use Rattle.meaning_evaluation.specs.Named.{Definitions, RecipeName}
use Rattle.meaning_evaluation.specs.Scopes.{Configuration}
use Rattle.just_meaning.specs.Agreement.{AgreesRun}
use Rattle.just_meaning.specs.Defining.{AreDefined}
use Rattle.just_meaning.specs.Menus.{menu_of}
use Rattle.just_meaning.specs.Runs.{Outcome, Runs, call_in}
use Rattle.just_meaning.specs.Determined.{GoAlike, nothing}
use Rattle.just_meaning.specs.Known.{AreInOrder, BreaksNoRule, HaveRows, IsRead}

-- what words invoke
abbrev pub Invoked : Type 0
Invoked = List (RecipeName × List (List (List ℕ)))

-- In a world that breaks no rule, two runs of what the same words invoke, by what is defined there, go alike where both agree with one set of answers, from any two records.
abbrev pub RunsGoAlike : Type 0 → Type 0
RunsGoAlike Rule = (w : World) (o : Overrides) → BreaksNoRule w o → IsRead w → AreInOrder w
    → (base working : Text) (defined other : Definitions) → AreDefined w o base working defined → AreDefined w o base working other → HaveRows defined
    → (c : Configuration) (words : List Text) (invocations others : Invoked) → Invoke (menu_of defined) words invocations → Invoke (menu_of other) words others → (f : Answers)
    → (old new : List Entry) (t : Tally) (outcome : Outcome Rule) (run : Runs c defined (map call_in invocations) old nothing new t outcome) → AgreesRun f c defined run
    → (old' new' : List Entry) (t' : Tally) (outcome' : Outcome Rule) (run' : Runs c other (map call_in others) old' nothing new' t' outcome') → AgreesRun f c other run'
    → GoAlike old new old' new' t t' outcome outcome'
