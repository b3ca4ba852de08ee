-- The variables and functions that modules keep.
use Rattle.std.specs.Prelude.{ℕ, List, Option, Some, None, map}
use Rattle.std.specs.List.{filter_map}
use Rattle.tree_expressions.specs.declared.expression.Expression.{Expression}
use Rattle.tree_items.specs.declared.ast.Item.{Item}
use Rattle.tree_items.specs.declared.ast.Item.TheVariants.{Assignment, Function}
use Rattle.tree_items.specs.declared.item.Binding.{Binding}
use Rattle.tree_items.specs.declared.item.FunctionDefinition.{FunctionDefinition}
use Rattle.evaluate_context.specs.declared.context.AssignmentRef.{AssignmentRef}
use Rattle.evaluate_context.specs.declared.context.FunctionRef.{FunctionRef}
use Rattle.modules_compilation.specs.Places.{item_at}
use Rattle.modules_compilation.specs.declared.compilation.Compilation.{Compilation}
use Rattle.modules_compilation.specs.declared.module_node.ModuleNode.{ModuleNode}
use Rattle.modules_compilation.specs.declared.place.Place.{Place}
use Rattle.resolve_analysis.specs.declared.module_lists.ModuleLists.{ModuleLists}

abbrev pub variable_of : Option Item → Option (Binding Expression)
variable_of (Some (Assignment variable)) = Some variable
variable_of _ = None

abbrev pub function_of : Option Item → Option FunctionDefinition
function_of (Some (Function function)) = Some function
function_of _ = None

-- the variable that stands at a place, if there is one
abbrev pub variable_at : Compilation → Place → Option (Binding Expression)
variable_at compilation place = variable_of (item_at compilation place)

abbrev pub function_at : Compilation → Place → Option FunctionDefinition
function_at compilation place = function_of (item_at compilation place)

-- what is borrowed
abbrev pub variables_in : List AssignmentRef → List (Binding Expression)
variables_in list = map (λ lent. lent.assignment.now) list

abbrev pub functions_in : List FunctionRef → List FunctionDefinition
functions_in list = map (λ lent. lent.definition.now) list

-- what stands at these places, without those at which no variable or no function stands
abbrev pub variables_at : Compilation → List Place → List (Binding Expression)
variables_at compilation places = filter_map (variable_at compilation) places

abbrev pub functions_at : Compilation → List Place → List FunctionDefinition
functions_at compilation places = filter_map (function_at compilation) places

-- the variables and functions that a module keeps
pub record Kept : Type 0 where
  pub variables : List (Binding Expression)
  pub functions : List FunctionDefinition

abbrev pub kept_in : ModuleLists → Kept
kept_in lists = record { variables = variables_in lists.assignments.items; functions = functions_in lists.functions.items }

abbrev pub kept_by : Compilation → ModuleNode → Kept
kept_by compilation node = record { variables = variables_at compilation node.assignments.items; functions = functions_at compilation node.functions.items }

-- the numbers of the variables
abbrev pub numbers_in : List AssignmentRef → List ℕ
numbers_in list = map (λ lent. lent.assignment.now.number) list
