-- Frames of the stack, by what is to do.
use Rattle.std.specs.Prelude.{List, Option, option_map}
use Rattle.std.specs.Global.{Box}
use Rattle.analyze_calls.specs.Calls.{CallRow, row_of, rows}
use Rattle.analyze_calls.specs.Entered.{entered_of}
use Rattle.analyze_calls.specs.Runs.Todo.{Todo, Calls, Body, After}
use Rattle.analyze_calls.specs.declared.frame.Frame.{Frame}
use Rattle.analyze_calls.specs.declared.frame.Frame.TheVariants.{Calls as CallsFrame, Body as BodyFrame, After as AfterFrame}

-- the calls that were set aside, if any were
abbrev pub aside : Option (Box (List CallRow)) → Option (List CallRow)
aside = option_map (λ outer. outer.value)

-- a frame, by what is to do
abbrev pub todo : Frame → Todo
todo (CallsFrame pending dependencies) = Calls dependencies (rows pending)
todo (BodyFrame call entered) = Body (row_of call) entered.value.is_dependency (entered_of entered.value)
todo (AfterFrame call outer) = After (row_of call) (aside outer)
