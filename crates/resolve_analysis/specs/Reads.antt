-- What the variables and functions of a module read and call.
use Rattle.std.specs.Prelude.{◌≡◌, ℕ, suc, ◌++◌, Bool, if◌then◌else◌, nat_eq, List, [], ◌∷◌, length, map, Option, Some, None, Result, Ok, Err, is_some}
use Rattle.std.specs.BTreeMap.{BTreeMap, get_by}
use Rattle.std.specs.Option.{option_or}
use Rattle.std.specs.Ordering.{nat_cmp}
use Rattle.std.specs.Str.{bytes_eq}
use Rattle.just_text.specs.Tokens.{lexeme}
use Rattle.tree_expressions.specs.declared.expression.Expression.{Expression}
use Rattle.tree_items.specs.declared.item.Binding.{Binding}
use Rattle.tree_items.specs.declared.item.FunctionDefinition.{FunctionDefinition}
use Rattle.resolve_references.specs.Functions.{function_in}
use Rattle.resolve_references.specs.Places.{places_of, variable_in}
use Rattle.resolve_references.specs.References.{references_of}
use Rattle.resolve_references.specs.declared.functions.DefinedFunction.{DefinedFunction}
use Rattle.resolve_references.specs.declared.read_fault.ReadFault.{ReadFault}
use Rattle.resolve_references.specs.declared.variable_resolver.VariableResolver.{VariableResolver}
use Rattle.resolve_analysis.specs.Lists.{Kept}

-- what is found last in a list, whose first element is at a place
abbrev pub last_found : {A B : Type 0} → (ℕ → A → Option B) → ℕ → List A → Option B
last_found find place [] = None
last_found find place (x ∷ xs) = option_or (last_found find (suc place) xs) (find place x)

-- the place of the variable, if it has the number
abbrev pub place_if_numbered : ℕ → ℕ → Binding Expression → Option ℕ
place_if_numbered number place variable = if nat_eq variable.number number then Some place else None

-- the function as it is called, if it has the name
abbrev pub defined_if_named : List ℕ → ℕ → FunctionDefinition → Option DefinedFunction
defined_if_named name place function = if bytes_eq (lexeme function.name.token) name then Some (record { place = place; parameters = length function.parameters.items }) else None

-- numbers and names stand for these variables and functions, the last where several have one
pub record IsResolverOf (kept : Kept) (resolver : VariableResolver) : Type 0 where
  pub many : resolver.variables ≡ length kept.variables
  pub places : (number : ℕ) → variable_in resolver number ≡ last_found (place_if_numbered number) 0 kept.variables
  pub functions : (name : List ℕ) → function_in resolver.functions name ≡ last_found (defined_if_named name) 0 kept.functions

-- rows before others, unless those are refused
abbrev pub rows_before : List (List ℕ) → Result (List (List ℕ)) ReadFault → Result (List (List ℕ)) ReadFault
rows_before rows (Ok others) = Ok (rows ++ others)
rows_before rows (Err fault) = Err fault

abbrev pub row_before : Result (List ℕ) ReadFault → Result (List (List ℕ)) ReadFault → Result (List (List ℕ)) ReadFault
row_before (Ok row) others = rows_before (row ∷ []) others
row_before (Err fault) others = Err fault

-- what each expression reads and calls, by places, or the fault of the first that is refused
abbrev pub rows_of : VariableResolver → List Expression → Result (List (List ℕ)) ReadFault
rows_of resolver [] = Ok []
rows_of resolver (e ∷ es) = row_before (places_of resolver (references_of e)) (rows_of resolver es)

-- the right sides of the variables, and after them the bodies of the functions
abbrev pub right_sides : List (Binding Expression) → List Expression
right_sides variables = map (λ variable. variable.value) variables

abbrev pub bodies : List FunctionDefinition → List Expression
bodies functions = map (λ function. function.body) functions

abbrev pub expressions_of : Kept → List Expression
expressions_of kept = right_sides kept.variables ++ bodies kept.functions

-- why the module's expressions are refused
pub record IsRefusal (kept : Kept) (fault : ReadFault) : Type 0 where
  pub resolver : VariableResolver
  pub of : IsResolverOf kept resolver
  pub refused : rows_of resolver (expressions_of kept) ≡ Err fault

-- which of the variables are overridden
abbrev pub overridden_by : {A : Type 0} → BTreeMap ℕ A → List (Binding Expression) → List Bool
overridden_by overrides variables = map (λ variable. is_some (get_by (nat_cmp variable.number) overrides)) variables
