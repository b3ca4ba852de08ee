-- What is constant.
use Rattle.std.specs.Prelude.{Option, Some, None, Result, Ok, Err}
use Rattle.meaning_dialogues.specs.Faults.{Fault, not_constant}
use Rattle.meaning_dialogues.specs.Dialogue.{Dialogue, Ends, Asks, Reads, Reading}
use Rattle.meaning_dialogues.specs.Evaluation.{Value}

abbrev pub settled_read : {A : Type 0} → Result Value Fault → (Value → Option (Result A Fault)) → Option (Result A Fault)
settled_read (Ok value) next = next value
settled_read (Err fault) next = Some (Err fault)

-- what a dialogue ends with that asks nothing
abbrev pub settled : {A : Type 0} → Reading → Dialogue A → Option (Result A Fault)
settled reading (Ends end) = Some end
settled reading (Asks question next) = None
settled reading (Reads place variable next) = settled_read (reading place variable) (λ value. settled reading (next value))

-- a value, a fault, or none: not constant
abbrev pub constant : {A : Type 0} → Option (Result A Fault) → Option (Result A Fault)
constant None = None
constant (Some (Ok value)) = Some (Ok value)
constant (Some (Err (not_constant what))) = None
constant (Some (Err fault)) = Some (Err fault)
