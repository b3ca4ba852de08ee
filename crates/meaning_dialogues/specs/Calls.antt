-- What the bodies of functions read, and calls of functions in general; constants.
use Rattle.std.specs.Prelude.{◌≡◌, ℕ, ◌+◌, ◌==◌, ◌&&◌, not, length, cond, if◌then◌else◌, List, [], ◌∷◌, ◌++◌, Option, Some, None, Result, Ok, Err, Bool, codes}
use Rattle.std.specs.Option.{option_map}
use Rattle.std.specs.Str.{bytes_eq}
use Rattle.just_value.specs.Frames.{BoundRow, Frames, bound_in, look_up}
use Rattle.meaning_dialogues.specs.Faults.{Fault, not_constant, a_command, a_call, a_variable, argument_of, list_in_text_place, too_deep, internal}
use Rattle.meaning_dialogues.specs.Dialogue.{Dialogue, Ends, Asks, Reads, ◌>>=◌, around, in_module, Variable, Reading}
use Rattle.meaning_dialogues.specs.Terms.{Term}
use Rattle.meaning_dialogues.specs.Evaluation.{Value, Stage, row, ticked}

-- a function of the justfile: its name, the numbers of its parameters, and its body
pub record DefinedFunction : Type 0 where
  pub name : List ℕ
  pub parameters : List ℕ
  pub body : Term

-- the first function of a name
abbrev pub function_named : List ℕ → List DefinedFunction → Option DefinedFunction
function_named name [] = None
function_named name (f ∷ fs) = cond (bytes_eq f.name name) (Some f) (function_named name fs)

-- a frame: values by number
abbrev pub Frame : Type 0
Frame = ℕ → Option Value

abbrev pub empty : Frame
empty number = None

abbrev pub bound : Frame → ℕ → Value → Frame
bound frame number value n = cond (n == number) (Some value) (frame n)

-- a frame of parameters with their values, in order
abbrev pub with_parameters : Frame → List ℕ → List Value → Frame
with_parameters frame [] values = frame
with_parameters frame (number ∷ numbers) [] = frame
with_parameters frame (number ∷ numbers) (value ∷ values) = with_parameters (bound frame number value) numbers values

-- bindings have these values
pub record HasValues (own : List BoundRow) (frame : Frame) : Type 0 where
  pub at : (number : ℕ) → option_map (λ binding. binding.value) (bound_in own number) ≡ frame number

abbrev pub in_frame : Frame → Option ℕ → Option Value
in_frame frame None = None
in_frame frame (Some number) = frame number

abbrev pub or_read : {A : Type 0} → Option Value → (Value → Dialogue A) → Variable → Dialogue A
or_read (Some value) next variable = next value
or_read None next variable = Reads in_module variable next

-- the body of a function reads its parameters, and else the module's variables
abbrev pub inside : {A : Type 0} → Frame → Dialogue A → Dialogue A
inside frame (Ends end) = Ends end
inside frame (Asks question next) = Asks question (λ answer. inside frame (next answer))
inside frame (Reads around variable next) = or_read (in_frame frame variable.number) (λ value. inside frame (next value)) variable
inside frame (Reads in_module variable next) = Reads in_module variable (λ value. inside frame (next value))

-- what the body of a function gives by its arguments' values; none where no further call may lie in the calls
abbrev pub Calls : Type 0
Calls = Option (DefinedFunction → List Value → Dialogue Value)

-- a call of a function of the justfile: the depth is looked at before any argument is evaluated
abbrev pub call_defined : Calls → DefinedFunction → List (Dialogue Value) → Dialogue Value
call_defined None function given = Ends (Err (too_deep function.name))
call_defined (Some body) function given = row given >>= body function

-- an argument, which is one text where one has to stand
abbrev pub as_argument : Bool → List ℕ → Value → Result Value Fault
as_argument is_text name value = if is_text && not (length value == 1) then Err (list_in_text_place (argument_of name) value) else Ok value

-- the values of arguments from the left, each looked at before the next is evaluated
abbrev pub arguments : (ℕ → Bool) → List ℕ → ℕ → List (Dialogue Value) → Dialogue (List Value)
arguments takes_text name place [] = Ends (Ok [])
arguments takes_text name place (first ∷ others) = do
  value ← first
  argument ← Ends (as_argument (takes_text place) name value)
  values ← arguments takes_text name (place + 1) others
  Ends (Ok (argument ∷ values))

-- constants: no command and no call
abbrev pub const_stage : Bool → Stage
const_stage lists = record {
  lists = lists;
  command = λ contents written. Ends (Err (not_constant (a_command written)));
  call = λ name file given. Ends (Err (not_constant (a_call name)));
}

abbrev pub unreadable : List ℕ → List ℕ → Fault
unreadable how name = internal (codes "attempted to evaluate " ++ (how ++ (codes " variable " ++ ticked name)))

abbrev pub value_found : List ℕ → Option BoundRow → Result Value Fault
value_found name (Some binding) = Ok binding.value
value_found name None = Err (unreadable (codes "unevaluated") name)

-- what a variable gives in frames, of which some numbers are no constants
abbrev pub read_in : (ℕ → Bool) → Frames → List ℕ → Option ℕ → Result Value Fault
read_in excluded frames name None = Err (unreadable (codes "unresolved") name)
read_in excluded frames name (Some number) = if excluded number then Err (not_constant (a_variable name)) else value_found name (look_up frames number)

-- what variables give in the frames where an expression stands, and in those of the module
abbrev pub reading_in_frames : (ℕ → Bool) → Frames → Frames → Reading
reading_in_frames excluded here there around variable = read_in excluded here variable.name variable.number
reading_in_frames excluded here there in_module variable = read_in excluded there variable.name variable.number
