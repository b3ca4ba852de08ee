-- In a world that breaks no rule, runs of what words invoke go as the answers mean.
use Rattle.std.proofs.Common.{◌≡◌, ◌⊎◌, inl, inr, refl, subst, ℕ, List, [], ◌∷◌, map, Some}
use Rattle.std.specs.Prelude.{Contains}
use Rattle.std.specs.List.{AllByRecursion}
use Rattle.meaning_rules.specs.Worlds.Given.{Overrides, Text, World}
use Rattle.meaning_rules.proofs.Worlds.Places.{contains_cases, contains_none}
use Rattle.meaning_evaluation.specs.Named.{Call, Definitions, RecipeName, VariableName, VariableRow, paths_of}
use Rattle.just_meaning.specs.Defining.{AreDefined}
use Rattle.just_meaning.specs.Runs.{call_in}
use Rattle.laws_agreement.proofs.Determined.Openings.{run_variables}
use Rattle.laws_agreement.specs.Known.Known.{HasRecipe}
use Rattle.laws_agreement.proofs.Known.Invoked.{invoked_are_known}
use Rattle.laws_agreement.proofs.Known.Known.{defined_are_known}
use Rattle.laws_naive.specs.Naive.Laws.{DependenciesFall, InvokedGoNaively}
use Rattle.laws_naive.proofs.Naive.Runs.{runs_go_naively}

-- the recipes of what is invoked are there
recipes_there : (defined : Definitions) (P : RecipeName × List (List (List ℕ)) → Type 0) (invocations : List (RecipeName × List (List (List ℕ)))) → AllByRecursion (λ i. HasRecipe defined i.0 × P i) invocations
    → (r : RecipeName) → Contains (map (λ (call : Call). call.recipe) (map call_in invocations)) r → HasRecipe defined r
recipes_there defined P [] all r there = absurd (contains_none [] r refl there)
recipes_there defined P (i ∷ others) all r there = by_case (contains_cases i.0 (map (λ (call : Call). call.recipe) (map call_in others)) r there) (recipes_there defined P others all.1)
  where
    by_case : (i.0 ≡ r) ⊎ Contains (map (λ (call : Call). call.recipe) (map call_in others)) r → ((r : RecipeName) → Contains (map (λ (call : Call). call.recipe) (map call_in others)) r → HasRecipe defined r) → HasRecipe defined r
    by_case (inl same) later = subst (HasRecipe defined) same all.0.0
    by_case (inr more) later = later r more

-- the module of a variable that opens is in the tree
in_tree : (w : World) (o : Overrides) (base working : Text) (defined : Definitions) → AreDefined w o base working defined → (x : VariableName) → (row : VariableRow) × (defined.variable x ≡ Some row) → Contains (paths_of defined.modules) x.path
in_tree w o base working defined are x there = let h = (are.variables x there.0).0 there.1 in (are.tree x.path).1 (h.own, h.is)

-- where recipes' dependencies fall
pub invoked_go_naively : DependenciesFall → (Rule : Type 0) → InvokedGoNaively Rule
invoked_go_naively falls Rule w o none read order base working defined are rows c words invocations invoke f old new t outcome run agrees =
    let known = defined_are_known w o none read order base working defined are rows c.no_dependencies (map (λ (call : Call). call.recipe) (map call_in invocations))
    (recipes_there defined _ invocations (invoked_are_known w o none read base working defined are words invocations invoke)) in
    let rank = falls w o none read base working defined are in
    runs_go_naively Rule f c defined (map call_in invocations)
    (record {
      resolved = known.0.resolved;
      certain = known.1;
      listed = known.3;
      inside = known.2;
      tree = λ x opens. in_tree w o base working defined are x ((run_variables defined c.no_dependencies (map (λ (call : Call). call.recipe) (map call_in invocations))).stands x opens);
      rank = rank.0;
      falling = rank.1;
    }) old new t outcome run agrees
