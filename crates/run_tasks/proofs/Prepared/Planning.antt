-- Recipes that are planned so far.
use Rattle.std.proofs.Common.{◌≡◌, ◌<◌, ◌≤◌, ◌+◌, ◌∙◌, ℕ, suc, false, List, [], ◌∷◌, ◌++◌, drop, length, get_or, sym, ap, subst, arith, append_assoc, append-nil}
use Rattle.std.proofs.Math.ListN.{drop_of_length-le}
use Rattle.std.proofs.Math.Seq.{drop-cons}
use Rattle.modules_compilation.specs.Places.{is_recipe, item_at}
use Rattle.modules_compilation.specs.declared.compilation.Compilation.{Compilation}
use Rattle.resolve_analysis.specs.declared.recipes.ResolvedRecipe.{ResolvedRecipe}
use Rattle.analyze_calls.specs.declared.plan.Planned.{Planned}
use Rattle.run_tasks.specs.Prepared.Planned.{ArePlanned, IsPlanned, none_left, nowhere, one_more}

module _ (compilation : Compilation) (recipes : List ResolvedRecipe) where
  -- whatever is planned of those from a place on, all are planned as these and that
  pub record PlannedSoFar (place : ℕ) (all : List Planned) : Type 0 where
    pub on : (later : List Planned) → ArePlanned compilation (drop place recipes) later → ArePlanned compilation recipes (all ++ later)

  pub none_planned : (all : List Planned) → all ≡ [] → PlannedSoFar 0 all
  none_planned all none = record { on = λ later are. rw none are }

  cut : (place : ℕ) (one : ResolvedRecipe) → place < length recipes → one ≡ get_or recipes place one → drop place recipes ≡ one ∷ drop (suc place) recipes
  cut place one lt is = drop-cons recipes place one lt ∙ ap (λ r. r ∷ drop (suc place) recipes) (sym is)

  pub one_planned : (place : ℕ) (one : ResolvedRecipe) (planned : Planned) (all all' : List Planned) → place < length recipes → one ≡ get_or recipes place one → IsPlanned compilation one planned → all' ≡ all ++ planned ∷ []
      → PlannedSoFar place all → PlannedSoFar (place + 1) all'
  one_planned place one planned all all' lt is so pushed far = record {
    on = λ later are.
        let here : ArePlanned compilation (drop place recipes) (planned ∷ later) = rw (cut place one lt is) (one_more so (subst (λ n. ArePlanned compilation (drop n recipes) later) (let n : place + 1 ≡ suc place = omega arith in n) are)) in
        rw pushed (subst (ArePlanned compilation recipes) (sym (append_assoc all (planned ∷ []) later)) (far.on (planned ∷ later) here));
  }

  pub stopped : (place : ℕ) (one : ResolvedRecipe) (all : List Planned) → place < length recipes → one ≡ get_or recipes place one → is_recipe (item_at compilation one.place) ≡ false → PlannedSoFar place all → ArePlanned compilation recipes all
  stopped place one all lt is none far = subst (ArePlanned compilation recipes) (append-nil all) (far.on [] (rw (cut place one lt is) (nowhere none)))

  pub all_planned : (place : ℕ) (all : List Planned) → length recipes ≤ place → PlannedSoFar place all → ArePlanned compilation recipes all
  all_planned place all past far = subst (ArePlanned compilation recipes) (append-nil all) (far.on [] (rw (drop_of_length-le recipes past) none_left))
