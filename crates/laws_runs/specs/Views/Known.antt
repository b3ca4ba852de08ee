-- Variables of modules name what is known.
use Rattle.std.specs.Prelude.{◌≡◌, ℕ, Bool, true, List, Some, String, Contains, slice_get}
use Rattle.std.specs.BTreeMap.{BTreeMap}
use Rattle.std.specs.Global.{Vec}
use Rattle.evaluate_context.specs.declared.context.ExecutionContext.{ExecutionContext}
use Rattle.evaluate_variables.specs.Known.{VariablesKnown}
use Rattle.evaluate_variables.specs.Opened.{overridden}
use Rattle.modules_compilation.specs.declared.compilation.Compilation.{Compilation}
use Rattle.modules_compilation.specs.declared.module_node.ModuleNode.{ModuleNode}
use Rattle.resolve_analysis.specs.Views.{seen, views_of}
use Rattle.resolve_analysis.specs.declared.known_values.KnownValues.{KnownValues}
use Rattle.resolve_analysis.specs.declared.module_lists.ModuleLists.{ModuleLists}
use Rattle.resolve_analysis.specs.declared.variables.ModuleVariables.{ModuleVariables}
use Rattle.just_resolve.specs.Variables.{AreVariables}
use Rattle.meaning_rules.specs.Worlds.Given.{World}
use Rattle.laws_names.specs.Reading.Meant.{IsNumberedWorld}
use Rattle.laws_names.specs.Constants.Sought.{AreOfLanguage}
use Rattle.laws_runs.specs.Views.Read.{IsClosedAt}

-- the context has what the module at a place keeps, in the order of its variables
pub record IsSeenAt (variables : ModuleVariables) (k : ℕ) (context : ExecutionContext) : Type 0 where
  pub lists : ModuleLists
  pub lists_there : slice_get variables.lists.items k ≡ Some lists
  pub order : Vec ℕ
  pub order_there : slice_get variables.orders.items k ≡ Some order
  pub assignments : context.module.now.assignments.now ≡ lists.assignments.items
  pub functions : context.module.now.functions.now ≡ lists.functions.items
  pub evaluation_order : context.module.now.evaluation_order.now ≡ order.items

-- so has a context whose module is one of the views of an analysis
abbrev pub ViewsAreSeen : Type 0
ViewsAreSeen = (modules : List ModuleNode) (variables : ModuleVariables) (values : KnownValues) (count : ℕ) (context : ExecutionContext) → Contains (views_of modules variables values count) (seen context.module.now)
    → IsSeenAt variables context.module.now.place context

-- where what a variable reads is read with it, what the variables name is known in their order
abbrev pub VariablesAreKnown : {A : Type 0} → BTreeMap ℕ (String A) → Type 0
VariablesAreKnown overrides = (w : World) (compilation : Compilation) → IsNumberedWorld w compilation → (variables : ModuleVariables) → AreVariables overrides compilation variables
    → (k : ℕ) (context : ExecutionContext) → IsSeenAt variables k context → AreOfLanguage context.scope.now
    → (is_read : ℕ → Bool) → IsClosedAt variables k (overridden context.overrides.now) is_read → VariablesKnown context is_read

-- and so it is where all are read
abbrev pub AllVariablesAreKnown : {A : Type 0} → BTreeMap ℕ (String A) → Type 0
AllVariablesAreKnown overrides = (w : World) (compilation : Compilation) → IsNumberedWorld w compilation → (variables : ModuleVariables) → AreVariables overrides compilation variables
    → (k : ℕ) (context : ExecutionContext) → IsSeenAt variables k context → AreOfLanguage context.scope.now → VariablesKnown context (λ number. true)
