-- The faults of expressions whose calls call nothing.
use Rattle.resolve_references.specs.declared.functions.CallFault.{CallFault}
use Rattle.resolve_references.specs.declared.functions.CallFault.TheVariants.{FunctionArgumentCount as CallArgumentCount, UnknownFunction as CallUnknown}
use Rattle.resolve_references.specs.declared.read_fault.ReadFault.{ReadFault}
use Rattle.resolve_references.specs.declared.read_fault.ReadFault.TheVariants.{FunctionArgumentCount, UnknownFunction}

-- the fault of an expression whose call calls nothing
abbrev pub fault_of_call : CallFault → ReadFault
fault_of_call (CallUnknown name) = UnknownFunction name
fault_of_call (CallArgumentCount name found) = FunctionArgumentCount name found
