-- The functions of a module by their names, and what a call calls.
use Rattle.std.specs.Prelude.{ℕ, nat_eq, nat_le, Bool, ◌&&◌, if◌then◌else◌, List, Option, Some, None, Result, Ok, Err}
use Rattle.std.specs.BTreeMap.{get_by}
use Rattle.std.specs.Cmp.Lexicographic.{slice_cmp}
use Rattle.std.specs.Ordering.{nat_cmp}
use Rattle.just_text.specs.Tokens.{lexeme}
use Rattle.just_text.specs.declared.name.Name.{Name}
use Rattle.evaluate_functions.specs.Arguments.{expected}
use Rattle.evaluate_functions.specs.Names.{function_of}
use Rattle.evaluate_functions.specs.declared.function.Function.{Function}
use Rattle.resolve_references.specs.declared.functions.CallFault.{CallFault}
use Rattle.resolve_references.specs.declared.functions.CallFault.TheVariants.{FunctionArgumentCount, UnknownFunction}
use Rattle.resolve_references.specs.declared.functions.Called.{Called}
use Rattle.resolve_references.specs.declared.functions.Called.TheVariants.{Builtin, Defined}
use Rattle.resolve_references.specs.declared.functions.DefinedFunction.{DefinedFunction}
use Rattle.resolve_references.specs.declared.functions.FunctionNames.{FunctionNames}

-- the function of a name, if the module defines it
unfoldable pub function_in : FunctionNames → List ℕ → Option DefinedFunction
function_in names name = get_by (λ k. slice_cmp nat_cmp name k.now) names.functions

-- what is called where the number of arguments is one that the function takes
abbrev pub if_taken : Bool → Called → Name → ℕ → Result Called CallFault
if_taken takes called name count = if takes then Ok called else Err (FunctionArgumentCount name count)

-- the call of a module's function, which takes as many arguments as it has parameters
abbrev pub defined_call : DefinedFunction → Name → ℕ → Result Called CallFault
defined_call function name count = if_taken (nat_eq function.parameters count) (Defined function.place) name count

-- the call of a built-in function, if there is one
abbrev pub builtin_call : Option Function → Name → ℕ → Result Called CallFault
builtin_call None name count = Err (UnknownFunction name)
builtin_call (Some function) name count = if_taken (nat_le (expected function).least count && nat_le count (expected function).most) (Builtin function) name count

-- the module's function of the name, else the built-in one
abbrev pub call_from : Option DefinedFunction → Name → ℕ → Result Called CallFault
call_from (Some function) name count = defined_call function name count
call_from None name count = builtin_call (function_of (lexeme name.token)) name count

-- what a call of the name with so many arguments calls, or why it calls nothing
abbrev pub call_of : (List ℕ → Option DefinedFunction) → Name → ℕ → Result Called CallFault
call_of functions name count = call_from (functions (lexeme name.token)) name count
