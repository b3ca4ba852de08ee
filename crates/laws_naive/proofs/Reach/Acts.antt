-- Each call of a recipe that is reached does the same by two inputs that agree on reach.
use Rattle.std.proofs.Common.{◌≡◌, ℕ, List, [], ◌∷◌, ◌++◌, map, Bool, true, false, Option, Some, None, refl, sym, ap, ap₂, ◌∙◌, subst}
use Rattle.std.proofs.Math.Path.{fun_ext}
use Rattle.std.proofs.lemmas.List.Elements.{Contains-append_left, Contains-append_right}
use Rattle.std.specs.Prelude.{Contains}
use Rattle.std.specs.List.{AllByRecursion, flat_map}
use Rattle.tree_expressions.specs.Shape.{Shape}
use Rattle.just_host.specs.declared.job.Pair.{Pair}
use Rattle.meaning_evaluation.specs.Stages.Parameters.{Bound}
use Rattle.meaning_evaluation.specs.Named.{Call, ParameterRow, DependencyRow, RecipeRow, ModuleRow, RecipeName, Definitions}
use Rattle.meaning_evaluation.specs.Scopes.{Configuration}
use Rattle.meaning_evaluation.specs.Calling.{Ground, met, no_task, no_dialogue}
use Rattle.just_meaning.specs.Opening.{IsReached, by_recipe}
use Rattle.just_meaning.specs.Reading.{expressions_in, in_parameters, in_env, in_prompt, in_dependencies, in_interpreter, in_piece, hiding, shapes_of}
use Rattle.just_meaning.specs.Reach.{of_recipe, AgreeOnReach}
use Rattle.laws_agreement.proofs.Agreement.Lists.{all_left, all_right, all_unmap, all_more, all_contained, all_flat_back, contains_map}
use Rattle.laws_naive.specs.Reach.Alike.{ActsAlike}
use Rattle.laws_naive.proofs.Reach.Reached.{in_play_calls}
use Rattle.laws_naive.proofs.Reach.Steps.{Fixed, IsFixed, FixedRow, same_head, same_block, same_body}

module _ (c : Configuration) (invoked : List RecipeName) (a b : Definitions) (h : AgreeOnReach c.no_dependencies invoked a b) (dotenv out : List (List ℕ) → List Pair) where
  -- what runs rest on, by the one and by the other
  abbrev pub g : Ground
  g = record { configuration = c; defined = a; dotenv = dotenv; exported = out }

  abbrev pub g' : Ground
  g' = record { configuration = c; defined = b; dotenv = dotenv; exported = out }

  -- a call of a recipe that is there by both
  met_alike : {X : Type 0} (unknown : X) (o o' : Option RecipeRow) (p p' : Option ModuleRow) (first second : RecipeRow → ModuleRow → X) → o ≡ o' → p ≡ p'
      → ((recipe : RecipeRow) (row : ModuleRow) → o ≡ Some recipe → p ≡ Some row → first recipe row ≡ second recipe row) → met g unknown o p first ≡ met g' unknown o' p' second
  met_alike unknown o o' p p' first second e f go = by_case o p go ∙ ap₂ (λ q r. met g' unknown q r second) e f
    where
      by_case : (q : Option RecipeRow) (r : Option ModuleRow) → ((recipe : RecipeRow) (row : ModuleRow) → q ≡ Some recipe → r ≡ Some row → first recipe row ≡ second recipe row) → met g unknown q r first ≡ met g' unknown q r second
      by_case (Some recipe) (Some row) go = go recipe row refl refl
      by_case (Some recipe) None go = refl
      by_case None r go = refl

  module _ (call : Call) (flag : Bool) (reached : IsReached a c.no_dependencies invoked call.recipe) where
    same_recipe : a.recipe call.recipe ≡ b.recipe call.recipe
    same_recipe = h.recipes call.recipe reached

    same_inside : a.inside call.recipe.path ≡ b.inside call.recipe.path
    same_inside = h.inside call.recipe.path

    module _ (recipe : RecipeRow) (row : ModuleRow) (there : a.recipe call.recipe ≡ Some recipe) where
      abbrev F : Shape → Type 0
      F e = Fixed c call.recipe.path row (dotenv call.recipe.path) (out call.recipe.path) (a.functions call.recipe.path) (b.functions call.recipe.path) call.recipe.recipe recipe flag e

      -- each expression of the recipe calls the same functions
      all_fixed : AllByRecursion (λ x. F x.0) (expressions_in recipe)
      all_fixed = all_more (Contains (expressions_in recipe)) _ (λ x stands. (x.1, in_play_calls c.no_dependencies invoked a b h call.recipe.path x.0 x.1 (of_recipe reached there stands))) (expressions_in recipe) (all_contained (expressions_in recipe))

      hidden_fixed : (names : List (List ℕ)) (es : List Shape) → AllByRecursion (λ x. F x.0) (hiding names es) → AllByRecursion F es
      hidden_fixed names es k = all_unmap (λ x. F x.0) (λ e. (e, names)) es k

      abbrev all : List (List ℕ)
      all = map (λ p. p.name) recipe.parameters

      in_body : AllByRecursion F (in_prompt recipe.confirm ++ (in_dependencies recipe.priors ++ (in_dependencies recipe.subsequents ++ (in_interpreter recipe.script ++ flat_map (flat_map in_piece) recipe.body))))
      in_body = hidden_fixed all _ (all_right (λ x. F x.0) (hiding [] (in_env recipe.env)) _ (all_right (λ x. F x.0) (in_parameters [] recipe.parameters) _ all_fixed))

      behind_prompt : AllByRecursion F (in_dependencies recipe.priors ++ (in_dependencies recipe.subsequents ++ (in_interpreter recipe.script ++ flat_map (flat_map in_piece) recipe.body)))
      behind_prompt = all_right F (in_prompt recipe.confirm) _ in_body

      behind_priors : AllByRecursion F (in_dependencies recipe.subsequents ++ (in_interpreter recipe.script ++ flat_map (flat_map in_piece) recipe.body))
      behind_priors = all_right F (in_dependencies recipe.priors) _ behind_prompt

      behind_subsequents : AllByRecursion F (in_interpreter recipe.script ++ flat_map (flat_map in_piece) recipe.body)
      behind_subsequents = all_right F (in_dependencies recipe.subsequents) _ behind_priors

      env_fixed : (pairs : List (Shape × Shape)) → AllByRecursion F (in_env pairs) → AllByRecursion (λ pair. F pair.0 × F pair.1) pairs
      env_fixed [] k = tt
      env_fixed ((key, value) ∷ pairs) k = ((k.0, k.1.0), env_fixed pairs k.1.1)

      default_of : (o : Option Shape) (others : List Shape) → AllByRecursion F (shapes_of o ++ others) → (e : Shape) → o ≡ Some e → F e
      default_of None others k e is = absurd (cc)
      default_of (Some x) others k e is = subst F (some_is x e is) k.0
        where
          some_is : (x e : Shape) → Some x ≡ Some e → x ≡ e
          some_is x e is = cc

      parameters_fixed : (names : List (List ℕ)) (ps : List ParameterRow) → AllByRecursion (λ x. F x.0) (in_parameters names ps)
          → AllByRecursion (IsFixed c call.recipe.path row (dotenv call.recipe.path) (out call.recipe.path) (a.functions call.recipe.path) (b.functions call.recipe.path) call.recipe.recipe recipe flag) ps
      parameters_fixed names [] k = tt
      parameters_fixed names (p ∷ ps) k =
          let here = hidden_fixed names (shapes_of p.default ++ shapes_of p.value) (all_left (λ x. F x.0) (hiding names (shapes_of p.default ++ shapes_of p.value)) _ k) in (
            record { default = default_of p.default (shapes_of p.value) here; value = λ e is. default_of p.value [] (subst (AllByRecursion F) (sym (append_none (shapes_of p.value))) (all_right F (shapes_of p.default) (shapes_of p.value) here)) e is },
            parameters_fixed (names ++ p.name ∷ []) ps (all_right (λ x. F x.0) (hiding names (shapes_of p.default ++ shapes_of p.value)) _ k),
          )
        where
          append_none : (es : List Shape) → es ++ [] ≡ es
          append_none [] = refl
          append_none (e ∷ es) = ap (λ l. e ∷ l) (append_none es)

      prompt_fixed : (o : Option (Option Shape)) → AllByRecursion F (in_prompt o) → (e : Shape) → o ≡ Some (Some e) → F e
      prompt_fixed None k e is = absurd (cc)
      prompt_fixed (Some None) k e is = absurd (cc)
      prompt_fixed (Some (Some x)) k e is = subst F (some_is x e is) k.0
        where
          some_is : (x e : Shape) → Some (Some x) ≡ Some (Some e) → x ≡ e
          some_is x e is = cc

      -- dependencies on recipes that are reached
      rows_fixed : (bound : Bound) (ds : List DependencyRow) → AllByRecursion F (in_dependencies ds) → ((d : DependencyRow) → Contains ds d → a.recipe d.on ≡ b.recipe d.on)
          → AllByRecursion (FixedRow c call.recipe.path row (dotenv call.recipe.path) (out call.recipe.path) (a.functions call.recipe.path) (b.functions call.recipe.path) call.recipe.recipe recipe flag bound a b) ds
      rows_fixed bound ds k on = both ds (all_flat_back F (λ d. map (λ argument. argument.expression) d.arguments) ds k) (all_more (Contains ds) (λ d. a.recipe d.on ≡ b.recipe d.on) on ds (all_contained ds))
        where
          both : (es : List DependencyRow) → AllByRecursion (λ d. AllByRecursion F (map (λ argument. argument.expression) d.arguments)) es → AllByRecursion (λ d. a.recipe d.on ≡ b.recipe d.on) es
              → AllByRecursion (FixedRow c call.recipe.path row (dotenv call.recipe.path) (out call.recipe.path) (a.functions call.recipe.path) (b.functions call.recipe.path) call.recipe.recipe recipe flag bound a b) es
          both [] l m = tt
          both (d ∷ es) l m = ((all_unmap F (λ argument. argument.expression) d.arguments l.0, m.0), both es l.1 m.1)

      on_reached : (ds : List DependencyRow) → ((d : DependencyRow) → Contains ds d → Contains (recipe.priors ++ recipe.subsequents) d) → c.no_dependencies ≡ false → (d : DependencyRow) → Contains ds d → a.recipe d.on ≡ b.recipe d.on
      on_reached ds go runs d stands = h.recipes d.on (by_recipe runs reached there (contains_map (λ dependency. dependency.on) (recipe.priors ++ recipe.subsequents) d (go d stands)))

  -- Calls of recipes that are reached do the same.
  pub acts_alike : ActsAlike g g' (λ call. IsReached a c.no_dependencies invoked call.recipe)
  acts_alike = record {
    shares = λ call u. met_alike false _ _ _ _ _ _ (same_recipe call true u) (same_inside call true u) (λ recipe row there in_it. refl);
    heads = λ call flag u. met_alike (no_task g) _ _ _ _ _ _ (same_recipe call flag u) (same_inside call flag u)
        (λ recipe row there in_it.
        same_head c call.recipe.path row (dotenv call.recipe.path) (out call.recipe.path) (a.functions call.recipe.path) (b.functions call.recipe.path) call.recipe.recipe recipe flag call.groups
        (parameters_fixed call flag u recipe row there [] recipe.parameters (all_left _ (in_parameters [] recipe.parameters) _ (all_fixed call flag u recipe row there)))
        (env_fixed call flag u recipe row there recipe.env (hidden_fixed call flag u recipe row there [] (in_env recipe.env) (all_left _ (hiding [] (in_env recipe.env)) _ (all_right _ (in_parameters [] recipe.parameters) _ (all_fixed call flag u recipe row there)))))
        (prompt_fixed call flag u recipe row there recipe.confirm (all_left _ (in_prompt recipe.confirm) _ (in_body call flag u recipe row there))));
    priors = λ call flag u. fun_ext (λ bound. met_alike (no_dialogue g) _ _ _ _ _ _ (same_recipe call flag u) (same_inside call flag u)
        (λ recipe row there in_it.
        same_block c call.recipe.path row (dotenv call.recipe.path) (out call.recipe.path) (a.functions call.recipe.path) (b.functions call.recipe.path) call.recipe.recipe recipe flag bound a b recipe.priors
        (λ runs. rows_fixed call flag u recipe row there bound recipe.priors (all_left _ (in_dependencies recipe.priors) _ (behind_prompt call flag u recipe row there)) (on_reached call flag u recipe row there recipe.priors (λ d stands. Contains-append_left recipe.priors recipe.subsequents d stands) runs))));
    bodies = λ call flag u. fun_ext (λ bound. met_alike (no_task g) _ _ _ _ _ _ (same_recipe call flag u) (same_inside call flag u)
        (λ recipe row there in_it.
        same_body c call.recipe.path row (dotenv call.recipe.path) (out call.recipe.path) (a.functions call.recipe.path) (b.functions call.recipe.path) call.recipe.recipe recipe flag bound
        (all_left _ (in_interpreter recipe.script) _ (behind_subsequents call flag u recipe row there)) (all_right _ (in_interpreter recipe.script) _ (behind_subsequents call flag u recipe row there))));
    subsequents = λ call flag u. fun_ext (λ bound. met_alike (no_dialogue g) _ _ _ _ _ _ (same_recipe call flag u) (same_inside call flag u)
        (λ recipe row there in_it.
        same_block c call.recipe.path row (dotenv call.recipe.path) (out call.recipe.path) (a.functions call.recipe.path) (b.functions call.recipe.path) call.recipe.recipe recipe flag bound a b recipe.subsequents
        (λ runs. rows_fixed call flag u recipe row there bound recipe.subsequents (all_left _ (in_dependencies recipe.subsequents) _ (behind_priors call flag u recipe row there)) (on_reached call flag u recipe row there recipe.subsequents (λ d stands. Contains-append_right recipe.priors recipe.subsequents d stands) runs))));
  }
