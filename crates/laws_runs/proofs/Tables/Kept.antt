-- The recipes that modules keep, and their rows of needs.
use Rattle.std.proofs.Common.{◌≡◌, ◌<◌, ◌+◌, ℕ, suc, List, [], ◌∷◌, Option, Some, None, Result, Ok, Err, inl, inr, length, refl, sym, ap, ◌∙◌, arith}
use Rattle.std.specs.List.{Contains}
use Rattle.std.specs.Option.{option_map}
use Rattle.std.proofs.lemmas.List.Elements.{Contains-append_cases}
use Rattle.std.proofs.lemmas.Option.{none-some, same_Some, slice_get-get_or}
use Rattle.tree_items.specs.declared.recipe.Recipe.{Recipe}
use Rattle.tree_items.specs.declared.recipe.UnresolvedDependency.{UnresolvedDependency}
use Rattle.modules_compilation.specs.declared.compilation.Compilation.{Compilation}
use Rattle.modules_compilation.specs.declared.module_node.ModuleNode.{ModuleNode}
use Rattle.modules_compilation.specs.declared.place.Place.{Place}
use Rattle.resolve_recipes.specs.Nodes.{Kept, kept_at, kept_by, kept_from, recipe_at}
use Rattle.resolve_recipes.specs.Refusals.{Refusal}
use Rattle.resolve_recipes.specs.Resolving.{all_needs, recipe_needs, row_before}
use Rattle.resolve_recipes.specs.declared.recipe_resolver.RecipeResolver.{RecipeResolver}
use Rattle.laws_runs.proofs.Tables.Gathered.{is_given}

-- ---- modules

home_of : (place : ℕ) (item : Place) (found : Option (Recipe UnresolvedDependency)) (kept : Kept) → option_map (λ recipe. (place, item, recipe)) found ≡ Some kept → kept.0 ≡ place
home_of place item None kept e = absurd (none-some kept e)
home_of place item (Some recipe) kept e = ap (λ (k : Kept). k.0) (sym (same_Some (place, item, recipe) kept e))

kept_home : (compilation : Compilation) (place : ℕ) (node : ModuleNode) (kept : Kept) → Contains (kept_by compilation place node) kept → kept.0 ≡ place
kept_home compilation place node kept h =
    let given = is_given (kept_at compilation place) node.recipes.items h.0 kept (slice_get-get_or (kept_by compilation place node) h.0 kept h.1 ∙ ap (λ k. Some k) h.2) in
    home_of place given.x (recipe_at compilation given.x) kept given.given

-- the module of a kept recipe is one of those
pub home_within : (compilation : Compilation) (place : ℕ) (nodes : List ModuleNode) (kept : Kept) → Contains (kept_from compilation place nodes) kept → kept.0 < place + length nodes
home_within compilation place [] kept h = let lt = h.1 in absurd (omega (arith, lt))
home_within compilation place (node ∷ nodes) kept h = elim (Contains-append_cases (kept_by compilation place node) (kept_from compilation (suc place) nodes) kept h) [
  | inl p ↦ let is = kept_home compilation place node kept p in omega (arith, is)
  | inr p ↦ let less = home_within compilation (suc place) nodes kept p in omega (arith, less)
]

-- ---- rows

module _ (compilation : Compilation) (resolver : RecipeResolver) where
  row_case : (one : Result (List ℕ) Refusal) (rest : Result (List (List ℕ)) Refusal) (needs : List (List ℕ)) → row_before compilation resolver one rest ≡ Ok needs → (others : List (List ℕ)) × (rest ≡ Ok others) × (length needs ≡ suc (length others))
  row_case (Ok row) (Ok others) needs e =
      let same : row ∷ others ≡ needs = cc e in
      (others, refl, ap length (sym same))
  row_case (Ok row) (Err refusal) needs e = absurd (cc e)
  row_case (Err refusal) rest needs e = absurd (cc e)

  -- each recipe has a row
  pub as_many : (recipes : List Kept) (needs : List (List ℕ)) → all_needs compilation resolver recipes ≡ Ok needs → length needs ≡ length recipes
  as_many [] needs e =
      let same : [] ≡ needs = cc e in
      ap length (sym same)
  as_many (kept ∷ recipes) needs e =
      let r = row_case (recipe_needs compilation resolver kept) (all_needs compilation resolver recipes) needs e in
      r.2 ∙ ap suc (as_many recipes r.0 r.1)
