-- The recipes that aliases stand for.
use Rattle.std.specs.Prelude.{ℕ, List, [], ◌∷◌, Option, Some, None, Result, Ok, Err, slice_get}
use Rattle.std.specs.List.{filter_map}
use Rattle.just_text.specs.declared.name.Name.{Name}
use Rattle.tree_items.specs.declared.ast.Item.{Item}
use Rattle.tree_items.specs.declared.ast.Item.TheVariants.{Alias as alias_item}
use Rattle.tree_items.specs.declared.item.Alias.{Alias}
use Rattle.modules_compilation.specs.Places.{item_at}
use Rattle.modules_compilation.specs.declared.compilation.Compilation.{Compilation}
use Rattle.modules_compilation.specs.declared.place.Place.{Place}
use Rattle.resolve_recipes.specs.Refusals.{Refusal, module_as_recipe, unknown_alias_target}
use Rattle.resolve_recipes.specs.Resolving.{named_in, places_before}
use Rattle.resolve_recipes.specs.declared.aliases.ResolvedAlias.{ResolvedAlias}
use Rattle.resolve_recipes.specs.declared.item_places.ItemPlaces.{ItemPlaces}
use Rattle.resolve_recipes.specs.declared.recipe_resolver.Named.{Named}
use Rattle.resolve_recipes.specs.declared.recipe_resolver.Named.TheVariants.{Recipe, Module, Nothing}

abbrev pub alias_of : Option Item → Option (Alias (List Name))
alias_of (Some (alias_item alias)) = Some alias
alias_of _ = None

-- the alias that stands at a place, if there is one
abbrev pub alias_at : Compilation → Place → Option (Alias (List Name))
alias_at compilation place = alias_of (item_at compilation place)

-- the rank of a recipe, if it has one
abbrev pub rank_or : Option ℕ → Alias (List Name) → Result ℕ Refusal
rank_or (Some rank) alias = Ok rank
rank_or None alias = Err (unknown_alias_target alias.name alias.target)

-- the rank of the recipe that an alias stands for, or why it stands for none
abbrev pub rank_of : List ℕ → Named → Alias (List Name) → Result ℕ Refusal
rank_of ranks (Recipe place) alias = rank_or (slice_get ranks place) alias
rank_of ranks Module alias = Err (module_as_recipe alias.target)
rank_of ranks Nothing alias = Err (unknown_alias_target alias.name alias.target)

abbrev pub alias_before : Result ℕ Refusal → Name → Result (List ResolvedAlias) Refusal → Result (List ResolvedAlias) Refusal
alias_before (Ok rank) name others = places_before (record { name = name; recipe = rank } ∷ []) others
alias_before (Err refusal) name others = Err refusal

module _ (compilation : Compilation) (places : ItemPlaces) (ranks : List ℕ) (place : ℕ) where
  -- each with the rank of its recipe, or the refusal of the first that stands for none
  abbrev pub resolved : List (Alias (List Name)) → Result (List ResolvedAlias) Refusal
  resolved [] = Ok []
  resolved (alias ∷ aliases) = alias_before (rank_of ranks (named_in compilation places place alias.target) alias) alias.name (resolved aliases)

  -- those that stand at these places
  abbrev pub resolved_at : List Place → Result (List ResolvedAlias) Refusal
  resolved_at items = resolved (filter_map (alias_at compilation) items)
