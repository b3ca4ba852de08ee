-- Compilations with what their recipes' options are, resolvers for them, and the rules that refusals name.
use Rattle.std.specs.Prelude.{◌≡◌, Option, Some, None, map}
use Rattle.just_text.specs.Tokens.{lexeme}
use Rattle.tree_items.specs.Paths.{path_names}
use Rattle.modules_compilation.specs.declared.compilation.Compilation.{Compilation}
use Rattle.modules_compilation.specs.declared.place.Place.{Place}
use Rattle.resolve_recipes.specs.Counts.{count_of}
use Rattle.resolve_recipes.specs.Nodes.{Kept, all_kept}
use Rattle.resolve_recipes.specs.Refusals.{Refusal, argument_count, module_as_recipe as module_refused, out_of_memory, unknown_alias_target as alias_refused, unknown_dependency as dependency_refused}
use Rattle.resolve_recipes.specs.Standing.{last_place, place_in}
use Rattle.resolve_recipes.specs.declared.recipe_resolver.RecipeResolver.{RecipeResolver}
use Rattle.meaning_rules.specs.Worlds.Given.{Overrides, World}
use Rattle.meaning_rules.specs.Rules.{Broken, Rule, dependency_argument_count, module_as_recipe, unknown_alias_target, unknown_dependency}

-- the resolver has the counts of the recipes that are kept, and their places
pub record IsResolverFor (compilation : Compilation) (resolver : RecipeResolver) : Type 0 where
  pub counts : resolver.counts.now ≡ map (λ (kept : Kept). count_of kept.2.parameters.items) (all_kept compilation)
  pub places : (item : Place) → place_in resolver.places.now item ≡ last_place 0 (map (λ (kept : Kept). kept.1) (all_kept compilation)) item

-- the rule that a refusal names, with its fields
abbrev pub rule_of : Refusal → Option Rule
rule_of out_of_memory = None
rule_of (argument_count recipe dependency found) = Some (dependency_argument_count (lexeme recipe.token) (path_names dependency) found)
rule_of (module_refused path) = Some (module_as_recipe (path_names path))
rule_of (alias_refused alias target) = Some (unknown_alias_target (lexeme alias.token) (path_names target))
rule_of (dependency_refused recipe dependency) = Some (unknown_dependency (lexeme recipe.token) (path_names dependency))

-- the refusal names a rule that is broken
abbrev pub IsTold : World → Overrides → Refusal → Type 0
IsTold w o refusal = (rule : Rule) × (rule_of refusal ≡ Some rule) × Broken w o rule
