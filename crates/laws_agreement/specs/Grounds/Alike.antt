-- Modules that are open by numbers and by names, and what a run over them rests on.
use Rattle.std.specs.Prelude.{◌≡◌, ℕ, Bool, true, List, [], ◌∷◌, map, length, slice_get, Some, IfSome, Contains}
use Rattle.std.specs.Option.{option_map}
use Rattle.std.specs.Str.{bytes_eq}
use Rattle.just_text.specs.Tokens.{lexeme}
use Rattle.just_value.specs.Constants.{constant_rows}
use Rattle.just_value.specs.Frames.{BindsRows, BoundRow, bound_in}
use Rattle.modules_compilation.specs.Modulepaths.{path_in}
use Rattle.modules_compilation.specs.declared.compilation.Compilation.{Compilation}
use Rattle.evaluate_context.specs.Environment.{variable}
use Rattle.evaluate_context.specs.Surroundings.{by_name}
use Rattle.evaluate_context.specs.declared.context.AssignmentRef.{AssignmentRef}
use Rattle.evaluate_context.specs.declared.context.ExecutionContext.{ExecutionContext}
use Rattle.resolve_analysis.specs.Views.{seen, view_at}
use Rattle.resolve_analysis.specs.declared.analysis.Analysis.{Analysis}
use Rattle.resolve_analysis.specs.declared.module_lists.ModuleLists.{ModuleLists}
use Rattle.meaning_evaluation.specs.Stages.Assigned.{assigned_of, row_of}
use Rattle.meaning_runs.specs.Counts.{each_once}
use Rattle.just_meaning.specs.Opening.{Opened, held}

-- a binding is one of a variable that the module keeps
abbrev pub IsRowOf : Bool → List AssignmentRef → BoundRow → Type 0
IsRowOf export kept row = (lent : AssignmentRef) × Contains kept lent × (row ≡ row_of export (assigned_of lent) row.value)

module _ (compilation : Compilation) (analysis : Analysis) where
  -- The module at a place is open by numbers and by names: its recipes rest on what the analysis knows of it, on the same pairs, and on the same values of its variables inside the constants of the language.
  pub record IsOpenAlike (k : ℕ) (context : ExecutionContext) (o : Opened) : Type 0 where
    pub view : view_at compilation.modules.items analysis.variables analysis.values.value k ≡ Some (seen context.module.now)
    pub overrides : context.overrides.now ≡ analysis.values.value.overrides
    pub path : o.path ≡ path_in compilation.modules.items k
    pub pairs : map variable context.dotenv.now.entries ≡ by_name o.pairs
    pub constants : List BoundRow
    pub language : BindsRows constant_rows constants
    pub outer : context.scope.now.outer ≡ constants ∷ []
    pub lists : ModuleLists
    pub kept : slice_get analysis.variables.lists.items k ≡ Some lists
    pub values : (lent : AssignmentRef) → Contains lists.assignments.items lent → option_map (λ row. row.value) (bound_in context.scope.now.own lent.assignment.now.number) ≡ held (lexeme lent.assignment.now.name.token) o.values
    pub rows : (number : ℕ) → IfSome (bound_in context.scope.now.own number) (IsRowOf context.module.now.settings.now.export lists.assignments.items)
    pub once : each_once bytes_eq (map (λ h. h.name) o.values) ≡ true

  -- all modules are open by numbers and by names, and no path twice
  pub record AreOpenAlike (contexts : List ExecutionContext) (opened : List Opened) : Type 0 where
    pub many : length contexts ≡ length compilation.modules.items
    pub each : (k : ℕ) (context : ExecutionContext) → slice_get contexts k ≡ Some context → (o : Opened) × Contains opened o × IsOpenAlike k context o
    pub apart : (o o' : Opened) → Contains opened o → Contains opened o' → o.path ≡ o'.path → o ≡ o'
