-- Cycles of recipes.
use Rattle.std.specs.Prelude.{◌≡◌, ℕ, List, Option, Ok, slice_get}
use Rattle.std.specs.List.{filter_map}
use Rattle.std.specs.Option.{option_map}
use Rattle.just_text.specs.Tokens.{lexeme}
use Rattle.modules_compilation.specs.declared.compilation.Compilation.{Compilation}
use Rattle.resolve_order.specs.Needs.{IsCycle}
use Rattle.resolve_recipes.specs.Nodes.{Kept, all_kept}
use Rattle.resolve_recipes.specs.Resolving.{all_needs}
use Rattle.resolve_recipes.specs.declared.recipe_resolver.RecipeResolver.{RecipeResolver}
use Rattle.meaning_rules.specs.Worlds.Given.{Overrides, Text, World}
use Rattle.meaning_rules.specs.Rules.{Broken, circular_recipe}
use Rattle.laws_modules.specs.Names.Meant.{IsMeant}
use Rattle.laws_names.specs.Depending.Meant.{IsResolverFor}

-- the name of the recipe that is kept at a place
abbrev pub name_at : Compilation → ℕ → Option Text
name_at compilation place = option_map (λ (kept : Kept). lexeme kept.2.name.token) (slice_get (all_kept compilation) place)

-- the names of those at these places
abbrev pub names_at : Compilation → List ℕ → List Text
names_at compilation places = filter_map (name_at compilation) places

-- a cycle of needs is one of recipes
abbrev pub CyclesAreTold : Type 0
CyclesAreTold = (w : World) (compilation : Compilation) (resolver : RecipeResolver) → IsMeant w compilation → IsResolverFor compilation resolver
    → (needs : List (List ℕ)) → all_needs compilation resolver (all_kept compilation) ≡ Ok needs → (o : Overrides) (places : List ℕ) → IsCycle needs places → Broken w o (circular_recipe (names_at compilation places))

-- where needs have no cycle, recipes have none
abbrev pub CyclesAreClear : Type 0
CyclesAreClear = (w : World) (compilation : Compilation) (resolver : RecipeResolver) → IsMeant w compilation → IsResolverFor compilation resolver
    → (needs : List (List ℕ)) → all_needs compilation resolver (all_kept compilation) ≡ Ok needs → ((places : List ℕ) → IsCycle needs places → ⊥) → (o : Overrides) (names : List Text) → Broken w o (circular_recipe names) → ⊥
