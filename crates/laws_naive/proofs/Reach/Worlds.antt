-- Runs in two worlds that agree on what is reached go alike.
use Rattle.std.proofs.Common.{◌≡◌, ◌⊎◌, inl, inr, refl, subst, ℕ, List, [], ◌∷◌, map}
use Rattle.std.specs.Prelude.{Contains}
use Rattle.std.specs.List.{AllByRecursion}
use Rattle.meaning_rules.proofs.Worlds.Places.{contains_cases, contains_none}
use Rattle.meaning_evaluation.specs.Named.{Call, Definitions, RecipeName}
use Rattle.just_meaning.specs.Runs.{call_in}
use Rattle.laws_agreement.specs.Certain.Certain.{AreCertainVariables}
use Rattle.laws_agreement.specs.Determined.Fit.{AreFit}
use Rattle.laws_agreement.specs.Known.Known.{HasRecipe}
use Rattle.laws_agreement.proofs.Known.Invoked.{invoked_are_known}
use Rattle.laws_agreement.proofs.Known.Known.{defined_are_known}
use Rattle.laws_agreement.specs.Repeated.Repeated.{Invoked}
use Rattle.laws_naive.specs.Reach.Worlds.{ReachDecides, RunsAreOfReached}
use Rattle.laws_naive.proofs.Reach.Runs.{runs_are_reached, runs_move}

-- the recipes of what is invoked are there
recipes_there : (defined : Definitions) (P : RecipeName × List (List (List ℕ)) → Type 0) (invocations : Invoked) → AllByRecursion (λ i. HasRecipe defined i.0 × P i) invocations
    → (r : RecipeName) → Contains (map (λ (call : Call). call.recipe) (map call_in invocations)) r → HasRecipe defined r
recipes_there defined P [] all r there = absurd (contains_none [] r refl there)
recipes_there defined P (i ∷ others) all r there = by_case (contains_cases i.0 (map (λ (call : Call). call.recipe) (map call_in others)) r there) (recipes_there defined P others all.1)
  where
    by_case : (i.0 ≡ r) ⊎ Contains (map (λ (call : Call). call.recipe) (map call_in others)) r → ((r : RecipeName) → Contains (map (λ (call : Call). call.recipe) (map call_in others)) r → HasRecipe defined r) → HasRecipe defined r
    by_case (inl same) later = subst (HasRecipe defined) same all.0.0
    by_case (inr more) later = later r more

fit_of : (defined : Definitions) (Open : _) → AreCertainVariables defined Open → AreFit defined Open
fit_of defined Open certain = record { fits = λ x row inner others name count g opens there free. certain.fits x row inner others name count g opens free there }

-- Two inputs that agree on reach run alike.
pub reach_decides : (Rule : Type 0) → ReachDecides Rule
reach_decides Rule w w' o o' base working base' working' defined other clear clear' c words words' invocations invoke invoke' agree f old new t outcome run agrees old' new' t' outcome' run' agrees' =
    let known = defined_are_known w o clear.none clear.read clear.order base working defined clear.are clear.rows c.no_dependencies (map (λ (call : Call). call.recipe) (map call_in invocations))
    (recipes_there defined _ invocations (invoked_are_known w o clear.none clear.read base working defined clear.are words invocations invoke)) in
    let known' = defined_are_known w' o' clear'.none clear'.read clear'.order base' working' other clear'.are clear'.rows c.no_dependencies (map (λ (call : Call). call.recipe) (map call_in invocations))
    (recipes_there other _ invocations (invoked_are_known w' o' clear'.none clear'.read base' working' other clear'.are words' invocations invoke')) in
    runs_are_reached Rule f c defined other (map call_in invocations) agree known.3 known'.3 (fit_of defined _ known.1) old new t outcome run agrees old' new' t' outcome' run' agrees'

-- The run of a call is one by each such input.
pub runs_are_of_reached : (Rule : Type 0) → RunsAreOfReached Rule
runs_are_of_reached Rule w w' o o' base working base' working' defined other clear clear' c words words' invocations invoke invoke' agree old new t t' outcome run =
    let known = defined_are_known w o clear.none clear.read clear.order base working defined clear.are clear.rows c.no_dependencies (map (λ (call : Call). call.recipe) (map call_in invocations))
    (recipes_there defined _ invocations (invoked_are_known w o clear.none clear.read base working defined clear.are words invocations invoke)) in
    let known' = defined_are_known w' o' clear'.none clear'.read clear'.order base' working' other clear'.are clear'.rows c.no_dependencies (map (λ (call : Call). call.recipe) (map call_in invocations))
    (recipes_there other _ invocations (invoked_are_known w' o' clear'.none clear'.read base' working' other clear'.are words' invocations invoke')) in
    runs_move Rule c defined other (map call_in invocations) agree known.3 known'.3 old new t t' outcome run
