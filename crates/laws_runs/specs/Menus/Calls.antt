-- Calls of a table's recipes.
use Rattle.std.specs.Prelude.{◌<◌, List, Contains, length}
use Rattle.resolve_analysis.specs.declared.recipes.RecipeTable.{RecipeTable}
use Rattle.analyze_calls.specs.Calls.{CallRow}

-- each call is of a recipe of the table
abbrev pub CallsAreThere : RecipeTable → List CallRow → Type 0
CallsAreThere table calls = (call : CallRow) → Contains calls call → call.recipe < length table.recipes.items
