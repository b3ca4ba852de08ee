-- Recipes whose dependencies are refused, or that depend on each other in a cycle.
use Rattle.std.proofs.Common.{◌≡◌, ◌∙◌, ℕ, List, [], ◌∷◌, Option, Some, None, Ok, Err, length, map, refl, subst, sym, ap}
use Rattle.std.specs.Prelude.{slice_get, Contains}
use Rattle.std.specs.List.{cons_option, range_with_len}
use Rattle.std.specs.Option.{option_and_then, option_map, option_or}
use Rattle.std.proofs.lemmas.Option.{none-some, slice_get-map}
use Rattle.std.proofs.lemmas.Simd.{map-map}
use Rattle.just_text.specs.Tokens.{lexeme}
use Rattle.just_text.specs.declared.name.Name.{Name}
use Rattle.tree_items.specs.declared.recipe.Recipe.{Recipe}
use Rattle.tree_items.specs.declared.recipe.UnresolvedDependency.{UnresolvedDependency}
use Rattle.modules_compilation.specs.declared.compilation.Compilation.{Compilation}
use Rattle.modules_compilation.specs.declared.module_node.ModuleNode.{ModuleNode}
use Rattle.modules_compilation.specs.declared.place.Place.{Place}
use Rattle.resolve_recipes.specs.Counts.{count_of}
use Rattle.resolve_recipes.specs.Disabled.{first_refusal}
use Rattle.resolve_recipes.specs.Nodes.{Kept, all_kept, recipe_at, view}
use Rattle.resolve_recipes.specs.Refusals.{Refusal}
use Rattle.resolve_recipes.specs.Resolving.{all_needs}
use Rattle.resolve_recipes.specs.Standing.{last_place}
use Rattle.resolve_recipes.specs.declared.recipe_node.RecipeNode.{RecipeNode}
use Rattle.resolve_recipes.specs.declared.recipe_resolver.RecipeResolver.{RecipeResolver}
use Rattle.meaning_rules.specs.Worlds.Given.{Overrides, World}
use Rattle.meaning_rules.specs.Rules.{circular_recipe}
use Rattle.laws_names.specs.Reading.Meant.{IsNumberedWorld}
use Rattle.laws_names.specs.Depending.Cycles.{name_at, names_at}
use Rattle.laws_names.specs.Depending.Dependencies.{AreOf, priors, subsequents}
use Rattle.laws_modules.specs.Names.Meant.{IsMeant}
use Rattle.laws_names.specs.Depending.Meant.{IsResolverFor}
use Rattle.just_resolve.specs.Cycles.{IsCircularRecipe, recipe_name, recipe_names}
use Rattle.just_resolve.specs.Faults.{naming_error}
use Rattle.just_resolve.specs.Rules.{IsNamed, texts_of}
use Rattle.just_resolve.specs.Table.{IsResolver, disabled_of, disabled_refusal, first_of, module_refusal, recipe_refusal, refusal_at}
use Rattle.just_resolve.specs.declared.error.Error.{Error}
use Rattle.just_resolve.proofs.Laws.{Laws}
use Rattle.just_resolve.proofs.Naming.{naming_named}
use Rattle.just_resolve.proofs.Refusing.{first_answered}

-- what a compilation is taken for by the laws on dependencies
pub meant_of : (w : World) (compilation : Compilation) → IsNumberedWorld w compilation → IsMeant w compilation
meant_of w compilation is = record { of = is.of; single = is.single; settings = is.settings; options = is.options; above = is.above }

-- a resolver of nodes that are all recipes that are kept is one of the compilation
pub resolver_of : (compilation : Compilation) (nodes : List RecipeNode) (resolver : RecipeResolver) → map view nodes ≡ all_kept compilation → IsResolver nodes resolver → IsResolverFor compilation resolver
resolver_of compilation nodes resolver kept is = record {
  counts = is.counts ∙ sym (map-map (λ (k : Kept). count_of k.2.parameters.items) view nodes) ∙ ap (map (λ (k : Kept). count_of k.2.parameters.items)) kept;
  places = λ item. is.places item
      ∙ ap (λ standing. last_place 0 standing item) (sym (map-map (λ (k : Kept). k.1) view nodes) ∙ ap (map (λ (k : Kept). k.1)) kept);
}

-- ---- a disabled recipe's dependencies

module _ (compilation : Compilation) (resolver : RecipeResolver) where
  -- a disabled recipe of a module has a dependency that is refused
  pub record IsDisabledRefused (refusal : Refusal) : Type 0 where
    pub home : ℕ
    pub node : ModuleNode
    pub here : slice_get compilation.modules.items home ≡ Some node
    pub item : Place
    pub listed : Contains node.disabled.items item
    pub recipe : Recipe UnresolvedDependency
    pub there : recipe_at compilation item ≡ Some recipe
    pub dependencies : List UnresolvedDependency
    pub of : AreOf recipe dependencies
    pub refused : first_refusal compilation resolver home recipe.name dependencies ≡ Some refusal

  module _ (refusal : Refusal) (home : ℕ) (node : ModuleNode) (here : slice_get compilation.modules.items home ≡ Some node) (item : Place) (listed : Contains node.disabled.items item) where
    of_recipe : (recipe : Recipe UnresolvedDependency) → recipe_at compilation item ≡ Some recipe → recipe_refusal compilation resolver home recipe ≡ Some refusal → IsDisabledRefused refusal
    of_recipe recipe there e = by_first (first_refusal compilation resolver home recipe.name recipe.priors.items) refl e
      where
        by_first : (first : Option Refusal) → first_refusal compilation resolver home recipe.name recipe.priors.items ≡ first
            → option_or first (first_refusal compilation resolver home recipe.name recipe.subsequents.items) ≡ Some refusal → IsDisabledRefused refusal
        by_first (Some other) is so = record { home = home; node = node; here = here; item = item; listed = listed; recipe = recipe; there = there; dependencies = recipe.priors.items; of = priors; refused = is ∙ so }
        by_first None is so = record { home = home; node = node; here = here; item = item; listed = listed; recipe = recipe; there = there; dependencies = recipe.subsequents.items; of = subsequents; refused = so }

    of_item : (found : Option (Recipe UnresolvedDependency)) → recipe_at compilation item ≡ found → option_and_then (recipe_refusal compilation resolver home) found ≡ Some refusal → IsDisabledRefused refusal
    of_item None is e = absurd (none-some refusal e)
    of_item (Some recipe) is e = of_recipe recipe is e

  of_module : (refusal : Refusal) (home : ℕ) (found : Option ModuleNode) → slice_get compilation.modules.items home ≡ found → first_of (refusal_at compilation resolver home) (disabled_of found) ≡ Some refusal → IsDisabledRefused refusal
  of_module refusal home None is e = absurd (none-some refusal e)
  of_module refusal home (Some node) is e =
      let comes = first_answered (refusal_at compilation resolver home) node.disabled.items refusal e in
      of_item refusal home node is comes.x comes.listed (recipe_at compilation comes.x) refl comes.is

  disabled_refused : (refusal : Refusal) → disabled_refusal compilation resolver ≡ Some refusal → IsDisabledRefused refusal
  disabled_refused refusal e =
      let comes = first_answered (module_refusal compilation resolver) (range_with_len 0 (length compilation.modules.items)) refusal e in
      of_module refusal comes.x (slice_get compilation.modules.items comes.x) refl comes.is

-- ---- names of recipes

module _ (compilation : Compilation) (nodes : List RecipeNode) (kept : map view nodes ≡ all_kept compilation) where
  -- a recipe that is kept has the name of its node
  named_alike : (place : ℕ) → name_at compilation place ≡ option_map (λ (name : Name). lexeme name.token) (recipe_name nodes place)
  named_alike place =
      ap (option_map (λ (k : Kept). lexeme k.2.name.token)) (ap (λ ks. slice_get ks place) (sym kept) ∙ slice_get-map view nodes place)
      ∙ by_node (slice_get nodes place)
    where
      by_node : (found : Option RecipeNode) → option_map (λ (k : Kept). lexeme k.2.name.token) (option_map view found) ≡ option_map (λ (name : Name). lexeme name.token) (option_map (λ (node : RecipeNode). node.recipe.now.name) found)
      by_node None = refl
      by_node (Some node) = refl

  names_alike : (places : List ℕ) → names_at compilation places ≡ texts_of (recipe_names nodes places)
  names_alike [] = refl
  names_alike (place ∷ places) =
      ap (λ o. cons_option o (names_at compilation places)) (named_alike place)
      ∙ by_name (recipe_name nodes place) (names_alike places)
    where
      by_name : (found : Option Name) → names_at compilation places ≡ texts_of (recipe_names nodes places)
          → cons_option (option_map (λ (name : Name). lexeme name.token) found) (names_at compilation places) ≡ texts_of (cons_option found (recipe_names nodes places))
      by_name None same = same
      by_name (Some name) same = ap (λ ts. lexeme name.token ∷ ts) same

-- ---- what is refused

module _ (laws : Laws) (w : World) (compilation : Compilation) (is : IsNumberedWorld w compilation) (o : Overrides)
    (nodes : List RecipeNode) (kept : map view nodes ≡ all_kept compilation) (resolver : RecipeResolver) (resolves : IsResolver nodes resolver) where
  abbrev meant : IsMeant w compilation
  meant = meant_of w compilation is

  abbrev for_all : IsResolverFor compilation resolver
  for_all = resolver_of compilation nodes resolver kept resolves

  -- a disabled recipe's dependency names no recipe that takes its values
  pub disabled_named : (refusal : Refusal) → disabled_refusal compilation resolver ≡ Some refusal → IsNamed w o (naming_error refusal)
  disabled_named refusal e =
      let r = disabled_refused compilation resolver refusal e in
      naming_named w o refusal
      (laws.disabled_dependencies w compilation resolver meant for_all o r.home r.recipe (record { node = r.node; here = r.here; item = r.item; listed = r.listed; there = r.there }) r.dependencies r.of refusal r.refused)

  -- a kept recipe's doesn't
  pub dependency_named : (refusal : Refusal) → all_needs compilation resolver (map view nodes) ≡ Err refusal → IsNamed w o (naming_error refusal)
  dependency_named refusal e = naming_named w o refusal (laws.kept_dependencies w compilation resolver meant for_all o refusal (ap (all_needs compilation resolver) (sym kept) ∙ e))

  -- recipes depend on each other
  pub circular_named : (needs : List (List ℕ)) → all_needs compilation resolver (map view nodes) ≡ Ok needs → (error : Error) → IsCircularRecipe nodes needs error → IsNamed w o error
  circular_named needs e error circular =
      subst (IsNamed w o) (sym circular.tells) (
        circular_recipe (names_at compilation circular.places),
        ap (λ names. Some (circular_recipe names)) (sym (names_alike compilation nodes kept circular.places)),
        laws.recipe_cycles w compilation resolver meant for_all needs (ap (all_needs compilation resolver) (sym kept) ∙ e) o circular.places circular.cycle,
      )
