-- What words may name of a compilation, by places of modules and ranks of recipes.
use Rattle.std.specs.Prelude.{◌≡◌, ◌⊎◌, ℕ, Bool, false, not, ◌||◌, cond, List, [], length, map, reverse, nat_lt, Option, Some, None, find, is_some, slice_get}
use Rattle.std.specs.BTreeSet.{BTreeSet, contains_by}
use Rattle.std.specs.Borrow.{Bor}
use Rattle.std.specs.Char.{encode_utf8}
use Rattle.std.specs.Cmp.Lexicographic.{slice_cmp}
use Rattle.std.specs.List.{list_any}
use Rattle.std.specs.Option.{option_and_then, option_map, option_or}
use Rattle.std.specs.Ordering.{nat_cmp}
use Rattle.std.specs.Str.{bytes_eq}
use Rattle.std.specs.Global.{Vec}
use Rattle.just_text.specs.Tokens.{lexeme}
use Rattle.just_text.specs.declared.name.Name.{Name}
use Rattle.tree_items.specs.Recipes.{is_variadic}
use Rattle.tree_items.specs.declared.recipe.Parameter.{Parameter}
use Rattle.tree_items.specs.declared.recipe.Recipe.{Recipe as WrittenRecipe}
use Rattle.tree_items.specs.declared.recipe.UnresolvedDependency.{UnresolvedDependency}
use Rattle.evaluate_context.specs.declared.settings.Settings.{Settings}
use Rattle.meaning_evaluation.specs.Stages.Parameters.{is_star}
use Rattle.meaning_runs.specs.Words.{Slot}
use Rattle.modules_compilation.specs.Modulepaths.{pieces}
use Rattle.modules_compilation.specs.declared.compilation.Compilation.{Compilation}
use Rattle.modules_compilation.specs.declared.module_node.ModuleNode.{ModuleNode}
use Rattle.modules_compilation.specs.declared.place.Place.{Place}
use Rattle.resolve_recipes.specs.Defaults.{default_of}
use Rattle.resolve_recipes.specs.Named.{recipe_of}
use Rattle.resolve_recipes.specs.Nodes.{recipe_at}
use Rattle.resolve_recipes.specs.Standing.{place_in}
use Rattle.resolve_recipes.specs.declared.aliases.ResolvedAlias.{ResolvedAlias}
use Rattle.resolve_analysis.specs.declared.recipes.RecipeTable.{RecipeTable}
use Rattle.resolve_analysis.specs.declared.recipes.ResolvedRecipe.{ResolvedRecipe}
use Rattle.analyze_words.specs.Menus.{default_in, meaning_in}
use Rattle.analyze_words.specs.Worded.{slot_of}
use Rattle.analyze_words.specs.declared.menu.Callable.{Callable}
use Rattle.analyze_words.specs.declared.menu.Meaning.{Meaning}
use Rattle.analyze_words.specs.declared.menu.Meaning.TheVariants.{Recipe, Submodule}
use Rattle.analyze_words.specs.declared.menu.Menus.{Menus}

-- the parameter as words see it: a flag, or one with a value of its own, takes no value; one without a default has to be given, unless it is a star or a flag
abbrev pub slot_row : Parameter → Slot
slot_row p = record {
  long = p.long;
  short = option_map encode_utf8 p.short;
  takes_value = not (p.flag || is_some p.value);
  multiple = p.multiple;
  variadic = is_variadic p.kind;
  required = not ((is_some p.default || p.flag) || is_star p.kind);
}

abbrev pub slot_rows : Option (WrittenRecipe UnresolvedDependency) → List Slot
slot_rows None = []
slot_rows (Some recipe) = map slot_row recipe.parameters.items

-- the parameters of the recipe that stands at a place
abbrev pub slots_at : Compilation → Place → List Slot
slots_at compilation place = slot_rows (recipe_at compilation place)

-- the name is one of these
abbrev pub is_among : List (List ℕ) → List ℕ → Bool
is_among names name = list_any (λ other. bytes_eq other name) names

-- the name stands in the words, between two `::`, at an end or alone
abbrev pub is_wanted : List (List ℕ) → List ℕ → Bool
is_wanted words name = list_any (λ word. is_among (pieces word) name) words

-- the name is one of a set
abbrev pub has_name : BTreeSet (Bor (List ℕ)) → List ℕ → Bool
has_name names name = contains_by (λ key. slice_cmp nat_cmp name key.now) names

-- the rank of the recipe that stands at a place, if the table has one of this rank
abbrev pub rank_at : RecipeTable → Place → Option ℕ
rank_at table place = option_and_then (λ rank. cond (nat_lt rank (length table.recipes.items)) (Some rank) None) (place_in table.places place)

-- the recipe of this name that a module keeps
abbrev pub recipe_meant : Compilation → RecipeTable → ModuleNode → List ℕ → Option Meaning
recipe_meant compilation table node name = option_map Recipe (option_and_then (rank_at table) (recipe_of compilation (Some node) name))

-- the recipe of the last alias of this name
abbrev pub alias_meant : List ResolvedAlias → List ℕ → Option Meaning
alias_meant aliases name = option_map (λ alias. Recipe alias.recipe) (find (λ alias. bytes_eq (lexeme alias.name.token) name) (reverse aliases))

abbrev pub is_text : Option Name → List ℕ → Bool
is_text None name = false
is_text (Some own) name = bytes_eq (lexeme own.token) name

-- the module at a place has the name
abbrev pub is_called : List ModuleNode → List ℕ → ℕ → Bool
is_called modules name place = is_text (option_and_then (λ node. node.name) (slice_get modules place)) name

-- the last of these submodules that has the name
abbrev pub submodule_meant : List ModuleNode → List ℕ → List ℕ → Option Meaning
submodule_meant modules submodules name = option_map Submodule (find (is_called modules name) (reverse submodules))

abbrev pub rows_of : Option (Vec ResolvedAlias) → List ResolvedAlias
rows_of None = []
rows_of (Some aliases) = aliases.items

-- the aliases of the module at a place
abbrev pub aliases_at : RecipeTable → ℕ → List ResolvedAlias
aliases_at table place = rows_of (slice_get table.aliases.items place)

-- the alias of the name, or else the recipe
abbrev pub called_in : Compilation → RecipeTable → ℕ → ModuleNode → List ℕ → Option Meaning
called_in compilation table place node name = option_or (alias_meant (aliases_at table place) name) (recipe_meant compilation table node name)

-- what a name stands for in the module at a place: a submodule, or else what is called so, if the words want the name
abbrev pub meant_in : Compilation → RecipeTable → (List ℕ → Bool) → ℕ → ModuleNode → List ℕ → Option Meaning
meant_in compilation table wanted place node name =
    option_or (submodule_meant compilation.modules.items node.submodules.items name) (cond (wanted name) (called_in compilation table place node name) None)

abbrev pub meaning_at : Compilation → RecipeTable → List (List ℕ) → ℕ → List ℕ → Option Meaning
meaning_at compilation table words place name = option_and_then (λ node. meant_in compilation table (is_wanted words) place node name) (slice_get compilation.modules.items place)

-- the rank of the recipe that runs where none is named in the module at a place
abbrev pub default_at : Compilation → RecipeTable → ℕ → Option ℕ
default_at compilation table place = option_and_then (λ node. option_and_then (place_in table.places) (default_of compilation node)) (slice_get compilation.modules.items place)

-- a name in the words stands for the recipe of a rank in some module, or the recipe is the default of one
abbrev pub IsMeant : Compilation → RecipeTable → List (List ℕ) → ℕ → Type 0
IsMeant compilation table words rank = (place : ℕ) × ((default_at compilation table place ≡ Some rank) ⊎ ((name : List ℕ) × (meaning_at compilation table words place name ≡ Some (Recipe rank))))

-- the recipe by its name, and by its parameters if it is one that is meant
pub record IsCallableOf (compilation : Compilation) (resolved : ResolvedRecipe) (is_meant : Type 0) (callable : Callable) : Type 0 where
  pub name : callable.name.now ≡ lexeme resolved.name.token
  pub shown : is_meant → map slot_of callable.slots.items ≡ slots_at compilation resolved.place
  pub hidden : (is_meant → ⊥) → callable.slots.items ≡ []

abbrev pub lists_by : Option Settings → Bool
lists_by None = false
lists_by (Some settings) = settings.default_list

-- what the words may name: names and defaults of each module, and each recipe by its rank
pub record AreMenusOf (compilation : Compilation) (table : RecipeTable) (settings : List Settings) (words : List (List ℕ)) (menus : Menus) : Type 0 where
  pub many : length menus.modules.items ≡ length compilation.modules.items
  pub meanings : (place : ℕ) (name : List ℕ) → meaning_in menus place name ≡ meaning_at compilation table words place name
  pub defaults : (place : ℕ) → default_in menus place ≡ default_at compilation table place
  pub count : length menus.recipes.items ≡ length table.recipes.items
  pub recipes : (rank : ℕ) (resolved : ResolvedRecipe) (callable : Callable) → slice_get table.recipes.items rank ≡ Some resolved → slice_get menus.recipes.items rank ≡ Some callable → IsCallableOf compilation resolved (IsMeant compilation table words rank) callable
  pub lists : menus.default_list ≡ lists_by (slice_get settings 0)
