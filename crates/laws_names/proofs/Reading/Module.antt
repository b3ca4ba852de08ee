-- The variables and functions that a module keeps, by their names.
use Rattle.std.proofs.Common.{◌≡◌, ap, List, Some, ℕ}
use Rattle.std.specs.Prelude.{slice_get}
use Rattle.just_text.specs.Tokens.{lexeme}
use Rattle.tree_expressions.specs.declared.expression.Expression.{Expression}
use Rattle.tree_items.specs.Files.{ItemShape, item_shape}
use Rattle.tree_items.specs.declared.ast.Item.{Item}
use Rattle.tree_items.specs.declared.ast.Item.TheVariants.{Assignment, Function}
use Rattle.tree_items.specs.declared.item.Binding.{Binding}
use Rattle.tree_items.specs.declared.item.FunctionDefinition.{FunctionDefinition}
use Rattle.modules_compilation.specs.Places.{item_at}
use Rattle.modules_compilation.specs.declared.compilation.Compilation.{Compilation}
use Rattle.modules_compilation.specs.declared.module_node.ModuleNode.{ModuleNode}
use Rattle.modules_compilation.specs.declared.place.Place.{Place}
use Rattle.resolve_analysis.specs.Lists.{function_at, function_of, functions_at, variable_at, variable_of, variables_at}
use Rattle.meaning_rules.specs.Worlds.Compiled.{IsNode}
use Rattle.meaning_rules.specs.Worlds.Given.{Text, World}
use Rattle.meaning_rules.specs.Worlds.Keeping.{IsDefined, Keeps, a_function, a_variable}
use Rattle.meaning_rules.specs.Worlds.Views.{node_view}
use Rattle.laws_modules.specs.Names.Names.{HasNode, nodes, views}
use Rattle.laws_modules.proofs.Names.Defined.{none_defined}
use Rattle.laws_modules.proofs.Names.Named.{node_is}
use Rattle.laws_names.specs.Reading.Meant.{IsNumberedWorld}
use Rattle.laws_names.proofs.Reading.Kept.{IsKept, IsThing, thing_kept, thing_known, thing_once, thing_there}

module _ (w : World) (compilation : Compilation) (n : IsNumberedWorld w compilation) (k : ℕ) (node : ModuleNode) (here : HasNode w compilation k node) where
  abbrev pub own : Text
  own = node.source.now

  pub is_node : IsNode w (views w compilation) (nodes w compilation) k (node_view node)
  is_node = node_is w compilation n.of k node here

  -- ---- variables

  abbrev pub variables : List (Binding Expression)
  variables = variables_at compilation node.assignments.items

  abbrev pub text_of_variable : Binding Expression → Text
  text_of_variable v = lexeme v.name.token

  abbrev pub IsKeptVariable : Place → Binding Expression → Type 0
  IsKeptVariable place v = IsKept w compilation node a_variable (text_of_variable v) place (Assignment v)

  variable_things : (name : Text) (item : Item) → IsThing a_variable name item → (v : Binding Expression) × (item ≡ Assignment v) × (text_of_variable v ≡ name)
  variable_things name item t = t

  variable_found : (place : Place) (v : Binding Expression) → item_at compilation place ≡ Some (Assignment v) → variable_at compilation place ≡ Some v
  variable_found place v e = ap variable_of e

  pub variable_kept : (i : ℕ) (v : Binding Expression) → slice_get variables i ≡ Some v
      → (place : Place) × (slice_get node.assignments.items i ≡ Some place) × (slice_get is_node.assignments.0 i ≡ Some (text_of_variable v)) × IsKeptVariable place v
  variable_kept = thing_kept w compilation node a_variable is_node.assignments.0 node.assignments.items is_node.assignments.1 (variable_at compilation) Assignment text_of_variable variable_things variable_found

  pub variable_known : (name : Text) (shape : ItemShape) → Keeps w own a_variable name shape
      → (i : ℕ) × (v : Binding Expression) × (slice_get variables i ≡ Some v) × (text_of_variable v ≡ name) × (item_shape (Assignment v) ≡ shape)
  variable_known = thing_known w compilation node a_variable is_node.assignments.0 node.assignments.items is_node.assignments.1 (variable_at compilation) Assignment text_of_variable variable_things variable_found

  pub variable_once : (i j : ℕ) (x y : Binding Expression) → slice_get variables i ≡ Some x → slice_get variables j ≡ Some y → text_of_variable x ≡ text_of_variable y → i ≡ j
  variable_once = thing_once w compilation node a_variable is_node.assignments.0 node.assignments.items is_node.assignments.1 (variable_at compilation) Assignment text_of_variable variable_things variable_found

  pub variable_there : (i : ℕ) (place : Place) → slice_get node.assignments.items i ≡ Some place → (v : Binding Expression) × (slice_get variables i ≡ Some v) × (item_at compilation place ≡ Some (Assignment v))
  variable_there = thing_there w compilation node a_variable is_node.assignments.0 node.assignments.items is_node.assignments.1 (variable_at compilation) Assignment text_of_variable variable_things variable_found

  -- a variable that is kept is kept in the world
  pub keeps_variable : (i : ℕ) (v : Binding Expression) → slice_get variables i ≡ Some v → Keeps w own a_variable (text_of_variable v) (item_shape (Assignment v))
  keeps_variable i v e = let r = variable_kept i v e in record { key = r.3.key; place = r.3.at; kept = r.3.keeps }

  pub defined_variable : (i : ℕ) (v : Binding Expression) → slice_get variables i ≡ Some v → IsDefined w own a_variable (text_of_variable v)
  defined_variable i v e = let r = variable_kept i v e in record { key = r.3.key; place = r.3.at; item = item_shape (Assignment v); defines = r.3.keeps.defines }

  -- where none has the name, none is defined
  pub no_variable : (name : Text) → ((i : ℕ) (v : Binding Expression) → slice_get variables i ≡ Some v → text_of_variable v ≡ name → ⊥) → IsDefined w own a_variable name → ⊥
  no_variable name none = none_defined w own a_variable name _ is_node.own_files.order (λ item h. let r = variable_known name item h in none r.0 r.1 r.2 r.3)

  -- ---- functions

  abbrev pub functions : List FunctionDefinition
  functions = functions_at compilation node.functions.items

  abbrev pub text_of_function : FunctionDefinition → Text
  text_of_function f = lexeme f.name.token

  abbrev pub IsKeptFunction : Place → FunctionDefinition → Type 0
  IsKeptFunction place f = IsKept w compilation node a_function (text_of_function f) place (Function f)

  function_things : (name : Text) (item : Item) → IsThing a_function name item → (f : FunctionDefinition) × (item ≡ Function f) × (text_of_function f ≡ name)
  function_things name item t = t

  function_found : (place : Place) (f : FunctionDefinition) → item_at compilation place ≡ Some (Function f) → function_at compilation place ≡ Some f
  function_found place f e = ap function_of e

  pub function_kept : (i : ℕ) (f : FunctionDefinition) → slice_get functions i ≡ Some f
      → (place : Place) × (slice_get node.functions.items i ≡ Some place) × (slice_get is_node.functions.0 i ≡ Some (text_of_function f)) × IsKeptFunction place f
  function_kept = thing_kept w compilation node a_function is_node.functions.0 node.functions.items is_node.functions.1 (function_at compilation) Function text_of_function function_things function_found

  pub function_known : (name : Text) (shape : ItemShape) → Keeps w own a_function name shape
      → (i : ℕ) × (f : FunctionDefinition) × (slice_get functions i ≡ Some f) × (text_of_function f ≡ name) × (item_shape (Function f) ≡ shape)
  function_known = thing_known w compilation node a_function is_node.functions.0 node.functions.items is_node.functions.1 (function_at compilation) Function text_of_function function_things function_found

  pub function_once : (i j : ℕ) (x y : FunctionDefinition) → slice_get functions i ≡ Some x → slice_get functions j ≡ Some y → text_of_function x ≡ text_of_function y → i ≡ j
  function_once = thing_once w compilation node a_function is_node.functions.0 node.functions.items is_node.functions.1 (function_at compilation) Function text_of_function function_things function_found

  pub function_there : (i : ℕ) (place : Place) → slice_get node.functions.items i ≡ Some place → (f : FunctionDefinition) × (slice_get functions i ≡ Some f) × (item_at compilation place ≡ Some (Function f))
  function_there = thing_there w compilation node a_function is_node.functions.0 node.functions.items is_node.functions.1 (function_at compilation) Function text_of_function function_things function_found

  pub keeps_function : (i : ℕ) (f : FunctionDefinition) → slice_get functions i ≡ Some f → Keeps w own a_function (text_of_function f) (item_shape (Function f))
  keeps_function i f e = let r = function_kept i f e in record { key = r.3.key; place = r.3.at; kept = r.3.keeps }

  pub defined_function : (i : ℕ) (f : FunctionDefinition) → slice_get functions i ≡ Some f → IsDefined w own a_function (text_of_function f)
  defined_function i f e = let r = function_kept i f e in record { key = r.3.key; place = r.3.at; item = item_shape (Function f); defines = r.3.keeps.defines }

  pub no_function : (name : Text) → ((i : ℕ) (f : FunctionDefinition) → slice_get functions i ≡ Some f → text_of_function f ≡ name → ⊥) → IsDefined w own a_function name → ⊥
  no_function name none = none_defined w own a_function name _ is_node.own_files.order (λ item h. let r = function_known name item h in none r.0 r.1 r.2 r.3)
