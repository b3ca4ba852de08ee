-- Runs in two worlds that agree on what the runs reach.
use Rattle.std.specs.Prelude.{List, map}
use Rattle.just_host.specs.declared.entry.Entry.{Entry}
use Rattle.meaning_runs.specs.Invokes.{Invoke}
use Rattle.meaning_runs.specs.Tallies.{Tally}
use Rattle.meaning_runs.specs.Told.{Answers}
use Rattle.meaning_rules.specs.Worlds.Given.{Overrides, Text, World}
use Rattle.meaning_evaluation.specs.Named.{Definitions}
use Rattle.meaning_evaluation.specs.Scopes.{Configuration}
use Rattle.just_meaning.specs.Agreement.{AgreesRun}
use Rattle.just_meaning.specs.Menus.{menu_of}
use Rattle.just_meaning.specs.Runs.{Outcome, Runs, call_in}
use Rattle.just_meaning.specs.Determined.{GoAlike, nothing}
use Rattle.laws_agreement.specs.Repeated.Repeated.{Invoked}
use Rattle.laws_naive.specs.Reach.Alike.{IsRunToo}
use Rattle.just_meaning.specs.Reach.{AgreeOnCalls}
use Rattle.just_meaning.specs.Clear.{IsClear}

-- Two inputs that break no rule, whose words invoke the same calls and which agree on what these reach: two runs of these that agree with one set of answers go alike, from any two records.
abbrev pub ReachDecides : Type 0 → Type 0
ReachDecides Rule = (w w' : World) (o o' : Overrides) (base working base' working' : Text) (defined other : Definitions) → IsClear w o base working defined → IsClear w' o' base' working' other
    → (c : Configuration) (words words' : List Text) (invocations : Invoked) → Invoke (menu_of defined) words invocations → Invoke (menu_of other) words' invocations → AgreeOnCalls c (map call_in invocations) defined other → (f : Answers)
    → (old new : List Entry) (t : Tally) (outcome : Outcome Rule) (run : Runs c defined (map call_in invocations) old nothing new t outcome) → AgreesRun f c defined run
    → (old' new' : List Entry) (t' : Tally) (outcome' : Outcome Rule) (run' : Runs c other (map call_in invocations) old' nothing new' t' outcome') → AgreesRun f c other run'
    → GoAlike old new old' new' t t' outcome outcome'

-- The run of a call is one by each such input, from the same record to the same record, and agrees with the same answers there.
abbrev pub RunsAreOfReached : Type 0 → Type 0
RunsAreOfReached Rule = (w w' : World) (o o' : Overrides) (base working base' working' : Text) (defined other : Definitions) → IsClear w o base working defined → IsClear w' o' base' working' other
    → (c : Configuration) (words words' : List Text) (invocations : Invoked) → Invoke (menu_of defined) words invocations → Invoke (menu_of other) words' invocations → AgreeOnCalls c (map call_in invocations) defined other
    → (old new : List Entry) (t t' : Tally) (outcome : Outcome Rule) (run : Runs c defined (map call_in invocations) old t new t' outcome) → IsRunToo c other (map call_in invocations) old new t t' outcome (λ f. AgreesRun f c defined run)
