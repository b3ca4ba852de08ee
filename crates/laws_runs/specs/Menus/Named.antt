-- What words may name by places is what they may name by paths and names.
use Rattle.std.specs.Prelude.{◌≡◌, ◌≤◌, ◌<◌, ℕ, List, [], Option, Some, None, Contains, length, slice_get}
use Rattle.std.specs.List.{All}
use Rattle.tree_expressions.specs.Shape.{Shape}
use Rattle.tree_items.specs.declared.recipe.Parameter.{Parameter}
use Rattle.tree_items.specs.declared.recipe.Recipe.{Recipe}
use Rattle.tree_items.specs.declared.recipe.UnresolvedDependency.{UnresolvedDependency}
use Rattle.parse_attributed_items.specs.Held.{IsOwnItem}
use Rattle.just_text.specs.Tokens.{lexeme}
use Rattle.evaluate_context.specs.declared.settings.Settings.{Settings}
use Rattle.modules_compilation.specs.Modulepaths.{path_in}
use Rattle.modules_compilation.specs.declared.compilation.Compilation.{Compilation}
use Rattle.modules_compilation.specs.declared.module_node.File.{File}
use Rattle.modules_compilation.specs.declared.place.Place.{Place}
use Rattle.resolve_recipes.specs.Named.{AllByName}
use Rattle.resolve_recipes.specs.Nodes.{recipe_at}
use Rattle.resolve_analysis.specs.declared.module_reads.ModuleReads.{ModuleReads}
use Rattle.resolve_analysis.specs.declared.recipes.RecipeTable.{RecipeTable}
use Rattle.resolve_analysis.specs.declared.recipes.ResolvedRecipe.{ResolvedRecipe}
use Rattle.just_resolve.specs.Table.{IsTable}
use Rattle.analyze_words.specs.Worded.{words_of}
use Rattle.analyze_words.specs.declared.menu.Menus.{Menus}
use Rattle.justfile_analyzer.specs.MenusOf.{AreMenusOf, lists_by}
use Rattle.meaning_dialogues.specs.Evaluation.{Value}
use Rattle.meaning_rules.specs.Worlds.Given.{Overrides, Text, World}
use Rattle.laws_modules.specs.Names.Names.{AreSingle, IsOfWorld}
use Rattle.laws_runs.specs.Words.Renamed.{IsRenamed}
use Rattle.meaning_evaluation.specs.Named.{RecipeName}
use Rattle.just_meaning.specs.Menus.{menu_of}
use Rattle.laws_runs.specs.Resolved.Definitions.{definitions_of}

-- the recipe of a rank by the path of its module and its name
abbrev pub name_of : Compilation → Option ResolvedRecipe → RecipeName
name_of compilation None = record { path = []; recipe = [] }
name_of compilation (Some resolved) = record { path = path_in compilation.modules.items resolved.module; recipe = lexeme resolved.name.token }

abbrev pub name_at : Compilation → RecipeTable → ℕ → RecipeName
name_at compilation table rank = name_of compilation (slice_get table.recipes.items rank)

-- a justfile of a world whose recipes stand in a table: its items are what their attributes make of them
pub record IsTabled (w : World) (compilation : Compilation) (reads : List ModuleReads) (table : RecipeTable) : Type 0 where
  pub of : IsOfWorld w compilation
  pub single : AreSingle w compilation
  pub by_name : AllByName compilation
  pub options : (k : ℕ) (file : File) → slice_get compilation.files.items k ≡ Some file → All (IsOwnItem w.expansion) file.ast.items.items
  pub many : length compilation.modules.items ≤ length reads
  pub is_table : IsTable compilation reads table

-- where the root's settings ask for the list alike, menus by places are those by paths and names
abbrev pub MenusAreNamed : Type 0
MenusAreNamed = (w : World) (compilation : Compilation) (reads : List ModuleReads) (table : RecipeTable) → IsTabled w compilation reads table
    → (o : Overrides) (settle : ℕ → Shape → Value) (base working : Text) (settings : List Settings)
    → (menu_of (definitions_of compilation w.expansion o settle base working)).lists ≡ lists_by (slice_get settings 0)
    → (words : List (List ℕ)) (menus : Menus) → AreMenusOf compilation table settings words menus
    → IsRenamed (words_of menus) (menu_of (definitions_of compilation w.expansion o settle base working)) (path_in compilation.modules.items) (name_at compilation table) words
