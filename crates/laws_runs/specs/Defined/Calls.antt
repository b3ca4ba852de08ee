-- What words invoke is in the table.
use Rattle.std.specs.Prelude.{List}
use Rattle.evaluate_context.specs.declared.settings.Settings.{Settings}
use Rattle.modules_compilation.specs.declared.compilation.Compilation.{Compilation}
use Rattle.resolve_analysis.specs.declared.recipes.RecipeTable.{RecipeTable}
use Rattle.analyze_calls.specs.Calls.{CallRow}
use Rattle.laws_runs.specs.Menus.Calls.{CallsAreThere}
use Rattle.meaning_rules.specs.Worlds.Given.{Text}
use Rattle.run_tasks.specs.Requested.Words.{InvokesAt}

-- words invoke recipes of the table alone
abbrev pub WordsInvokeRecipes : Type 0
WordsInvokeRecipes = (compilation : Compilation) (table : RecipeTable) (settings : List Settings) (words : List Text) (calls : List CallRow) → InvokesAt compilation table settings words calls → CallsAreThere table calls
