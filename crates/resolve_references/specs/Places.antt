-- The places of the variables and functions of a module that references read and call.
use Rattle.std.specs.Prelude.{ℕ, ◌+◌, ◌^◌, nat_lt, if◌then◌else◌, List, [], ◌∷◌, ◌++◌, Option, Some, None, Result, Ok, Err}
use Rattle.std.specs.BTreeMap.{get_by}
use Rattle.std.specs.Ordering.{nat_cmp}
use Rattle.just_text.specs.declared.name.Name.{Name}
use Rattle.resolve_references.specs.Faults.{fault_of_call}
use Rattle.resolve_references.specs.Functions.{call_of, function_in}
use Rattle.resolve_references.specs.declared.functions.CallFault.{CallFault}
use Rattle.resolve_references.specs.declared.functions.Called.{Called}
use Rattle.resolve_references.specs.declared.functions.Called.TheVariants.{Builtin, Defined}
use Rattle.resolve_references.specs.declared.read_fault.ReadFault.{ReadFault}
use Rattle.resolve_references.specs.declared.read_fault.ReadFault.TheVariants.{UndefinedVariable}
use Rattle.resolve_references.specs.declared.references.Reference.{Reference}
use Rattle.resolve_references.specs.declared.references.Reference.TheVariants.{Call, Variable}
use Rattle.resolve_references.specs.declared.variable_resolver.VariableResolver.{VariableResolver}

-- the place of a variable by its number, if it is one of the module's
unfoldable pub variable_in : VariableResolver → ℕ → Option ℕ
variable_in resolver number = get_by (nat_cmp number) resolver.numbers

-- the functions stand after the variables, and a built-in function has no place
abbrev pub place_of_called : ℕ → Called → Option ℕ
place_of_called variables (Builtin function) = None
place_of_called variables (Defined place) = if nat_lt (variables + place) (2 ^ 64) then Some (variables + place) else None

abbrev pub place_of_resolved : ℕ → Result Called CallFault → Result (Option ℕ) ReadFault
place_of_resolved variables (Ok called) = Ok (place_of_called variables called)
place_of_resolved variables (Err fault) = Err (fault_of_call fault)

-- a name with a number is a parameter or a constant where the module has no variable of the number
abbrev pub place_of_variable : VariableResolver → Name → Option ℕ → Result (Option ℕ) ReadFault
place_of_variable resolver name None = Err (UndefinedVariable name)
place_of_variable resolver name (Some number) = Ok (variable_in resolver number)

-- the place of what a reference reads or calls, if it has one, or why it stands for nothing
abbrev pub place_of : VariableResolver → Reference → Result (Option ℕ) ReadFault
place_of resolver (Call name count) = place_of_resolved resolver.variables (call_of (function_in resolver.functions) name count)
place_of resolver (Variable name number) = place_of_variable resolver name number

-- places before others, unless those are refused
abbrev pub places_before : List ℕ → Result (List ℕ) ReadFault → Result (List ℕ) ReadFault
places_before places (Ok others) = Ok (places ++ others)
places_before places (Err fault) = Err fault

abbrev pub place_before : Result (Option ℕ) ReadFault → Result (List ℕ) ReadFault → Result (List ℕ) ReadFault
place_before (Ok (Some place)) others = places_before (place ∷ []) others
place_before (Ok None) others = others
place_before (Err fault) others = Err fault

-- the places of all references in order, or the fault of the first that stands for nothing
abbrev pub places_of : VariableResolver → List Reference → Result (List ℕ) ReadFault
places_of resolver [] = Ok []
places_of resolver (reference ∷ others) = place_before (place_of resolver reference) (places_of resolver others)
