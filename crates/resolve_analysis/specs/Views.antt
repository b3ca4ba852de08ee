-- What evaluation sees of modules.
use Rattle.std.specs.Prelude.{ℕ, Bool, List, Option, Some, None, slice_get, is_some}
use Rattle.std.specs.List.{filter_map, range_with_len}
use Rattle.std.specs.Global.{Vec}
use Rattle.just_text.specs.declared.name.Name.{Name}
use Rattle.evaluate_context.specs.declared.context.AssignmentRef.{AssignmentRef}
use Rattle.evaluate_context.specs.declared.context.FunctionRef.{FunctionRef}
use Rattle.evaluate_context.specs.declared.context.ModuleView.{ModuleView}
use Rattle.evaluate_context.specs.declared.settings.Settings.{Settings}
use Rattle.modules_compilation.specs.declared.module_node.ModuleNode.{ModuleNode}
use Rattle.resolve_analysis.specs.declared.known_values.KnownValues.{KnownValues}
use Rattle.resolve_analysis.specs.declared.module_lists.ModuleLists.{ModuleLists}
use Rattle.resolve_analysis.specs.declared.variables.ModuleVariables.{ModuleVariables}

-- what a view borrows, and what it has
pub record View : Type 0 where
  pub assignments : List AssignmentRef
  pub evaluation_order : List ℕ
  pub functions : List FunctionRef
  pub settings : Settings
  pub source : List ℕ
  pub modules : List ModuleNode
  pub place : ℕ
  pub working_directory : List ℕ
  pub unexports : List Name
  pub is_submodule : Bool

abbrev pub seen : ModuleView → View
seen view = record {
  assignments = view.assignments.now;
  evaluation_order = view.evaluation_order.now;
  functions = view.functions.now;
  settings = view.settings.now;
  source = view.source.now;
  modules = view.modules.now;
  place = view.place;
  working_directory = view.working_directory.now;
  unexports = view.unexports.now;
  is_submodule = view.is_submodule;
}

-- the view of a module at a place among these, of which the parts may be known
abbrev pub view_of : List ModuleNode → ℕ → Option ModuleNode → Option ModuleLists → Option (Vec ℕ) → Option Settings → Option (List ℕ) → Option View
view_of modules place (Some node) (Some lists) (Some order) (Some settings) (Some folder) = Some (record {
  assignments = lists.assignments.items;
  evaluation_order = order.items;
  functions = lists.functions.items;
  settings = settings;
  source = node.source.now;
  modules = modules;
  place = place;
  working_directory = folder;
  unexports = node.unexports.items;
  is_submodule = is_some node.parent;
})
view_of modules place _ _ _ _ _ = None

-- the view of the module at a place, if all of it is known
abbrev pub view_at : List ModuleNode → ModuleVariables → KnownValues → ℕ → Option View
view_at modules variables values place = view_of modules place (slice_get modules place) (slice_get variables.lists.items place) (slice_get variables.orders.items place) (slice_get values.settings.items place) (slice_get values.folders.items place)

-- those of so many modules
abbrev pub views_of : List ModuleNode → ModuleVariables → KnownValues → ℕ → List View
views_of modules variables values count = filter_map (view_at modules variables values) (range_with_len 0 count)
