-- What is bound once the variables of a module are opened.
use Rattle.std.specs.Prelude.{ℕ, Bool, List, Ok, String}
use Rattle.std.specs.BTreeMap.{BTreeMap}
use Rattle.just_host.specs.declared.entry.Entry.{Entry}
use Rattle.just_value.specs.Frames.{Frames}
use Rattle.evaluate_context.specs.declared.context.ExecutionContext.{ExecutionContext}
use Rattle.evaluate_variables.specs.Opened.{OpensFrame}
use Rattle.modules_compilation.specs.declared.compilation.Compilation.{Compilation}
use Rattle.resolve_analysis.specs.declared.variables.ModuleVariables.{ModuleVariables}
use Rattle.just_resolve.specs.Variables.{AreVariables}
use Rattle.laws_names.specs.Constants.Sought.{AreOfLanguage}
use Rattle.laws_runs.specs.Views.Known.{IsSeenAt}
use Rattle.laws_runs.specs.Views.Recipes.{AreBoundIn, IsConstantOrRead}

-- in the frames that the variables of a module come to, the constants are bound, and the variables that are read
abbrev pub OpenedAreBound : {A : Type 0} → BTreeMap ℕ (String A) → Type 0
OpenedAreBound overrides = (compilation : Compilation) (variables : ModuleVariables) → AreVariables overrides compilation variables
    → (k : ℕ) (context : ExecutionContext) (seen : IsSeenAt variables k context) → AreOfLanguage context.scope.now
    → (is_read : ℕ → Bool) (old new : List Entry) (frames : Frames) → OpensFrame context is_read old new (Ok frames) → AreBoundIn (IsConstantOrRead seen.lists is_read) frames
