-- Two runs of the same words in one world go alike.
use Rattle.std.proofs.Common.{◌≡◌, ◌⊎◌, inl, inr, refl, subst, ℕ, List, [], ◌∷◌, map}
use Rattle.std.specs.Prelude.{Contains}
use Rattle.std.specs.List.{AllByRecursion}
use Rattle.just_host.specs.declared.entry.Entry.{Entry}
use Rattle.meaning_runs.specs.Invokes.{Invoke}
use Rattle.meaning_runs.specs.Tallies.{Tally}
use Rattle.meaning_runs.specs.Told.{Answers}
use Rattle.meaning_rules.specs.Worlds.Given.{Overrides, Text, World}
use Rattle.meaning_rules.proofs.Worlds.Places.{contains_cases, contains_none}
use Rattle.meaning_evaluation.specs.Named.{Call, Definitions, RecipeName}
use Rattle.meaning_evaluation.specs.Scopes.{Configuration}
use Rattle.just_meaning.specs.Agreement.{AgreesRun}
use Rattle.just_meaning.specs.Defining.{AreDefined}
use Rattle.just_meaning.specs.Menus.{menu_of}
use Rattle.just_meaning.specs.Runs.{Outcome, Runs, call_in}
use Rattle.analyze_words.proofs.Exact.{at_most_one}
use Rattle.laws_agreement.specs.Certain.Certain.{AreCertainVariables}
use Rattle.just_meaning.specs.Determined.{GoAlike, nothing}
use Rattle.laws_agreement.specs.Determined.Fit.{AreFit}
use Rattle.laws_agreement.proofs.Determined.Runs.{runs_are_determined}
use Rattle.laws_agreement.specs.Known.Known.{HasRecipe}
use Rattle.just_meaning.specs.Known.{AreInOrder, BreaksNoRule, HaveRows, IsRead}
use Rattle.laws_agreement.proofs.Known.Invoked.{invoked_are_known}
use Rattle.laws_agreement.proofs.Known.Known.{defined_are_known}
use Rattle.laws_agreement.proofs.Unique.Unique.{definitions_are_one}
use Rattle.laws_agreement.specs.Repeated.Repeated.{Invoked, RunsGoAlike}

-- the recipes of what is invoked are there
recipes_there : (defined : Definitions) (P : RecipeName × List (List (List ℕ)) → Type 0) (invocations : Invoked) → AllByRecursion (λ i. HasRecipe defined i.0 × P i) invocations
    → (r : RecipeName) → Contains (map (λ (call : Call). call.recipe) (map call_in invocations)) r → HasRecipe defined r
recipes_there defined P [] all r there = absurd (contains_none [] r refl there)
recipes_there defined P (i ∷ others) all r there = by_case (contains_cases i.0 (map (λ (call : Call). call.recipe) (map call_in others)) r there) (recipes_there defined P others all.1)
  where
    by_case : (i.0 ≡ r) ⊎ Contains (map (λ (call : Call). call.recipe) (map call_in others)) r → ((r : RecipeName) → Contains (map (λ (call : Call). call.recipe) (map call_in others)) r → HasRecipe defined r) → HasRecipe defined r
    by_case (inl same) later = subst (HasRecipe defined) same all.0.0
    by_case (inr more) later = later r more

-- what is certain of the calls of variables is that they fit
fit_of : (defined : Definitions) (Open : _) → AreCertainVariables defined Open → AreFit defined Open
fit_of defined Open certain = record { fits = λ x row inner others name count g opens there free. certain.fits x row inner others name count g opens free there }

module _ (Rule : Type 0) (w : World) (o : Overrides) (none : BreaksNoRule w o) (read : IsRead w) (order : AreInOrder w) (base working : Text) (defined : Definitions) (are : AreDefined w o base working defined) (rows : HaveRows defined)
    (c : Configuration) (words : List Text) (invocations : Invoked) (invoke : Invoke (menu_of defined) words invocations) (f : Answers)
    (old new : List Entry) (t : Tally) (outcome : Outcome Rule) (run : Runs c defined (map call_in invocations) old nothing new t outcome) (agrees : AgreesRun f c defined run) where
  -- another run of what is invoked, by the same definitions
  abbrev AlikeFor : Definitions → Invoked → Type 0
  AlikeFor other others = (old' new' : List Entry) (t' : Tally) (outcome' : Outcome Rule) (run' : Runs c other (map call_in others) old' nothing new' t' outcome') → AgreesRun f c other run' → GoAlike old new old' new' t t' outcome outcome'

  same_calls : AlikeFor defined invocations
  same_calls =
      let known = defined_are_known w o none read order base working defined are rows c.no_dependencies (map (λ (call : Call). call.recipe) (map call_in invocations))
      (recipes_there defined _ invocations (invoked_are_known w o none read base working defined are words invocations invoke)) in
      λ old' new' t' outcome' run' agrees'. runs_are_determined Rule f c defined (map call_in invocations) known.3 (fit_of defined _ known.1) old new t outcome run agrees old' new' t' outcome' run' agrees'

  same_words : (others : Invoked) → Invoke (menu_of defined) words others → AlikeFor defined others
  same_words others also = subst (AlikeFor defined) (at_most_one (menu_of defined) invoke also) same_calls

  same_world : (other : Definitions) → AreDefined w o base working other → (others : Invoked) → Invoke (menu_of other) words others → AlikeFor other others
  same_world other too = subst (λ d. (others : Invoked) → Invoke (menu_of d) words others → AlikeFor d others) (definitions_are_one w o base working defined other are too) same_words

pub runs_go_alike : (Rule : Type 0) → RunsGoAlike Rule
runs_go_alike Rule w o none read order base working defined other are too rows c words invocations others invoke also f old new t outcome run agrees old' new' t' outcome' run' agrees' =
    same_world Rule w o none read order base working defined are rows c words invocations invoke f old new t outcome run agrees other too others also old' new' t' outcome' run' agrees'
