-- The variables and functions that modules keep, by their names, are those of each world that the compilation stands for.
use Rattle.std.specs.Prelude.{◌≡◌, ◌↔◌, List, Some}
use Rattle.modules_compilation.specs.declared.compilation.Compilation.{Compilation}
use Rattle.meaning_rules.specs.Worlds.Given.{Overrides, Text, World}
use Rattle.meaning_rules.specs.Worlds.Modules.{IsModule}
use Rattle.laws_modules.specs.Names.Names.{AreSingle, IsOfWorld}
use Rattle.meaning_evaluation.specs.Named.{VariableName, VariableRow}
use Rattle.just_meaning.specs.Defining.{AreFunctions, AreNames, IsOverrideOf, IsVariableRow}
use Rattle.laws_runs.specs.Resolved.Definitions.{functions_at, names_at, override_of, variable_named}

-- the names of a module's variables are those of the world
abbrev pub NamesStand : Type 0
NamesStand = (w : World) (compilation : Compilation) → IsOfWorld w compilation → AreSingle w compilation
    → (o : Overrides) (path : List Text) (own : Text) → IsModule w path own → AreNames w o own (names_at compilation path)

-- a variable has just the row that it has in the world
abbrev pub VariablesStand : Type 0
VariablesStand = (w : World) (compilation : Compilation) → IsOfWorld w compilation → AreSingle w compilation
    → (o : Overrides) (x : VariableName) (row : VariableRow) → (variable_named compilation x ≡ Some row) ↔ IsVariableRow w o x row

-- the text given last for a variable is that of the last override that names it
abbrev pub OverridesStand : Type 0
OverridesStand = (w : World) (compilation : Compilation) → IsOfWorld w compilation → AreSingle w compilation
    → (o : Overrides) (x : VariableName) (text : Text) → (override_of compilation o x ≡ Some text) ↔ IsOverrideOf w o x text

-- the functions of a module are those of the world
abbrev pub FunctionsStand : Type 0
FunctionsStand = (w : World) (compilation : Compilation) → IsOfWorld w compilation → AreSingle w compilation
    → (o : Overrides) (path : List Text) (own : Text) → IsModule w path own → AreFunctions w o own (functions_at compilation path)
