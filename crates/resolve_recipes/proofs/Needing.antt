-- What recipes need, one recipe after the other.
use Rattle.std.proofs.Common.{◌≡◌, ℕ, ◌+◌, ◌<◌, List, [], ◌∷◌, ◌++◌, drop, get_or, length, map, Result, Ok, Err, sym, ap, ◌∙◌}
use Rattle.just_text.specs.declared.name.Name.{Name}
use Rattle.tree_items.specs.declared.recipe.UnresolvedDependency.{UnresolvedDependency}
use Rattle.modules_compilation.specs.declared.compilation.Compilation.{Compilation}
use Rattle.resolve_recipes.specs.Nodes.{view}
use Rattle.resolve_recipes.specs.Refusals.{Refusal}
use Rattle.resolve_recipes.specs.Resolving.{all_needs, needs_of, places_before, recipe_needs, row_before}
use Rattle.resolve_recipes.specs.declared.recipe_node.RecipeNode.{RecipeNode}
use Rattle.resolve_recipes.specs.declared.recipe_resolver.RecipeResolver.{RecipeResolver}
use Rattle.resolve_recipes.proofs.Resolving.{all_before, both_needed, next_of, none_before}

module _ (compilation : Compilation) (resolver : RecipeResolver) where
  -- behind the places of the priors those of the subsequents
  pub recipe_resolved : (place : ℕ) (recipe : Name) (one two : List UnresolvedDependency) (start some : List ℕ) → start ≡ [] → places_before start (needs_of compilation resolver place recipe one) ≡ Ok some
      → needs_of compilation resolver place recipe (one ++ two) ≡ places_before some (needs_of compilation resolver place recipe two)
  recipe_resolved place recipe one two start some none is =
      sym (none_before (needs_of compilation resolver place recipe (one ++ two)))
      ∙ both_needed compilation resolver place recipe one two [] some (ap (λ s. places_before s (needs_of compilation resolver place recipe one)) (sym none) ∙ is)

  abbrev rows : List RecipeNode → Result (List (List ℕ)) Refusal
  rows nodes = all_needs compilation resolver (map view nodes)

  pub node_stops : (nodes : List RecipeNode) (i : ℕ) (node : RecipeNode) (refusal : Refusal) (some : List (List ℕ)) → i < length nodes → node ≡ get_or nodes i node → recipe_needs compilation resolver (view node) ≡ Err refusal
      → places_before some (rows (drop i nodes)) ≡ rows nodes → rows nodes ≡ Err refusal
  node_stops nodes i node refusal some lt is none so =
      sym so ∙ ap (λ ns. places_before some (rows ns)) (next_of nodes i node lt is) ∙ ap (λ r. places_before some (row_before compilation resolver r (rows (drop (i + 1) nodes)))) none

  pub node_goes : (nodes : List RecipeNode) (i : ℕ) (node : RecipeNode) (row : List ℕ) (some : List (List ℕ)) → i < length nodes → node ≡ get_or nodes i node → recipe_needs compilation resolver (view node) ≡ Ok row
      → places_before (some ++ row ∷ []) (rows (drop (i + 1) nodes)) ≡ places_before some (rows (drop i nodes))
  node_goes nodes i node row some lt is there =
      all_before some (row ∷ []) (rows (drop (i + 1) nodes))
      ∙ ap (λ r. places_before some (row_before compilation resolver r (rows (drop (i + 1) nodes)))) (sym there)
      ∙ ap (λ ns. places_before some (rows ns)) (sym (next_of nodes i node lt is))
