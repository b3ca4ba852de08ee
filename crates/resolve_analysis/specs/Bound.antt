-- The numbers that names have in the expressions of a module.
use Rattle.std.specs.Prelude.{◌≡◌, ℕ, suc, List, [], ◌∷◌, Option, Some, map, slice_get}
use Rattle.std.specs.List.{All}
use Rattle.std.specs.Option.{option_or}
use Rattle.just_text.specs.Tokens.{lexeme}
use Rattle.tree_expressions.specs.declared.expression.Expression.{Expression}
use Rattle.tree_items.specs.Contexts.{last_named, number_in}
use Rattle.tree_items.specs.declared.variables.context.ExpressionContext.{ExpressionContext}
use Rattle.tree_items.specs.declared.item.Binding.{Binding}
use Rattle.just_value.specs.Constants.{constant_rows}
use Rattle.modules_compilation.specs.declared.compilation.Compilation.{Compilation}
use Rattle.modules_compilation.specs.declared.module_node.File.{File}
use Rattle.modules_compilation.specs.declared.module_node.ModuleNode.{ModuleNode}
use Rattle.resolve_references.specs.Seen.{HaveNumbers}
use Rattle.resolve_analysis.specs.Lists.{variables_at}

-- names with the numbers from this one on
abbrev pub numbered_from : ℕ → List (List ℕ × List ℕ) → List (List ℕ × ℕ)
numbered_from number [] = []
numbered_from number (row ∷ rows) = (row.0, number) ∷ numbered_from (suc number) rows

-- the number of a constant, if it is one
abbrev pub constant_number : List ℕ → Option ℕ
constant_number name = last_named name (numbered_from 0 constant_rows)

abbrev pub binding_number : Binding Expression → List ℕ × ℕ
binding_number variable = (lexeme variable.name.token, variable.number)

module _ (compilation : Compilation) where
  -- the number of the variable of the name that the module keeps, else that of the constant
  abbrev pub bindings_of : ModuleNode → List ℕ → Option ℕ
  bindings_of node name = option_or (last_named name (map binding_number (variables_at compilation node.assignments.items))) (constant_number name)

  -- the context has the numbers of the names that the module's expressions see
  abbrev pub AreNamesOf : ModuleNode → ExpressionContext → Type 0
  AreNamesOf node context = (name : List ℕ) → number_in context name ≡ bindings_of node name

  -- each variable of all expressions has the number of what its name stands for
  abbrev pub AreBound : Type 0
  AreBound = (k : ℕ) (file : File) (node : ModuleNode) → slice_get compilation.files.items k ≡ Some file → slice_get compilation.modules.items file.module ≡ Some node → All (HaveNumbers (bindings_of node)) file.ast.items.items
