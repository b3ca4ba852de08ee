-- Runs go naively by each input that agrees on what they reach.
use Rattle.std.specs.Prelude.{◌↔◌, List, map}
use Rattle.just_host.specs.declared.entry.Entry.{Entry}
use Rattle.meaning_runs.specs.Invokes.{Invoke}
use Rattle.meaning_runs.specs.Tallies.{Tally}
use Rattle.meaning_runs.specs.Told.{Answers}
use Rattle.meaning_rules.specs.Worlds.Given.{Overrides, Text, World}
use Rattle.meaning_evaluation.specs.Named.{Definitions}
use Rattle.meaning_evaluation.specs.Scopes.{Configuration}
use Rattle.just_meaning.specs.Agreement.{AgreesRun}
use Rattle.just_meaning.specs.Menus.{menu_of}
use Rattle.just_meaning.specs.Runs.{Outcome, Runs, call_in}
use Rattle.just_meaning.specs.Determined.{nothing}
use Rattle.laws_agreement.specs.Repeated.Repeated.{Invoked}
use Rattle.just_meaning.specs.Naively.{GoesNaively, IsRefused}
use Rattle.just_meaning.specs.Reach.{AgreeOnCalls}
use Rattle.just_meaning.specs.Clear.{IsClear}

-- The run of a call goes naively by each input that breaks no rule, whose words invoke the same, and which agrees on what is reached: it is refused exactly where the answers refuse that input's opening,
-- and else, where that input's trees are steady, it hands over what that input's naive run does.
abbrev pub ReachedGoNaively : Type 0 → Type 0
ReachedGoNaively Rule = (w w' : World) (o o' : Overrides) (base working base' working' : Text) (defined other : Definitions) → IsClear w o base working defined → IsClear w' o' base' working' other
    → (c : Configuration) (words words' : List Text) (invocations : Invoked) → Invoke (menu_of defined) words invocations → Invoke (menu_of other) words' invocations → AgreeOnCalls c (map call_in invocations) defined other
    → (f : Answers) (old new : List Entry) (t : Tally) (outcome : Outcome Rule) (run : Runs c defined (map call_in invocations) old nothing new t outcome) → AgreesRun f c defined run
    → GoesNaively f c other (map call_in invocations) old new outcome

-- So one input's opening is refused exactly where the other's is, by answers that the call's run agrees with.
abbrev pub RefusalsAgree : Type 0 → Type 0
RefusalsAgree Rule = (w w' : World) (o o' : Overrides) (base working base' working' : Text) (defined other : Definitions) → IsClear w o base working defined → IsClear w' o' base' working' other
    → (c : Configuration) (words words' : List Text) (invocations : Invoked) → Invoke (menu_of defined) words invocations → Invoke (menu_of other) words' invocations → AgreeOnCalls c (map call_in invocations) defined other
    → (f : Answers) (old new : List Entry) (t : Tally) (outcome : Outcome Rule) (run : Runs c defined (map call_in invocations) old nothing new t outcome) → AgreesRun f c defined run
    → IsRefused f c defined (map call_in invocations) ↔ IsRefused f c other (map call_in invocations)
