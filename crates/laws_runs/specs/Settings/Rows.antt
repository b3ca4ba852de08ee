-- The rows of modules are those of each world that the compilation stands for.
use Rattle.std.specs.Prelude.{◌≡◌, ◌↔◌, ℕ, List, Some, length}
use Rattle.evaluate_context.specs.declared.settings.Settings.{Settings}
use Rattle.modules_compilation.specs.declared.compilation.Compilation.{Compilation}
use Rattle.meaning_rules.specs.Worlds.Given.{Overrides, Text, World}
use Rattle.laws_modules.specs.Names.Names.{AreSetOnce, AreSingle, IsOfWorld}
use Rattle.meaning_evaluation.specs.Named.{ModuleRow}
use Rattle.just_meaning.specs.Defining.{IsModuleRow}
use Rattle.laws_runs.specs.Resolved.Definitions.{row_at}
use Rattle.laws_runs.specs.Settings.Settled.{AllSettle}

-- where the expressions of all settings settle, a module has just the row that it has in the world
abbrev pub RowsStand : Type 0
RowsStand = (w : World) (compilation : Compilation) → IsOfWorld w compilation → AreSingle w compilation → AreSetOnce w compilation
    → (o : Overrides) (all : List Settings) → length all ≡ length compilation.modules.items → (settled : AllSettle w o compilation all)
    → (base working : Text) (path : List Text) (row : ModuleRow) → (row_at compilation settled.settle base working path ≡ Some row) ↔ IsModuleRow w o base working path row
