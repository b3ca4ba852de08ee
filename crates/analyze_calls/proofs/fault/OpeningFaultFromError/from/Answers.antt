-- Want of memory, or a variable without a value.
use Rattle.std.proofs.Common.{ap}
use Rattle.evaluate_context.specs.Refusals.{fault_of}
use Rattle.analyze_calls.specs.Opening.{no_value, out_of_memory}
use Rattle.analyze_calls.proofs.Memory.{is_memory}
use Rattle.analyze_calls.proofs.fault.OpeningFaultFromError.from.Goals as goal

pub returns-in-OutOfMemory : goal.returns-in-OutOfMemory
returns-in-OutOfMemory c = out_of_memory (ap fault_of c.in-OutOfMemory.is)

pub returns-in_default : goal.returns-in_default
returns-in_default c = no_value (λ e. c.in_default.not-OutOfMemory (is_memory c.args.error e))
