-- What a dialogue may read, and how it may end.
use Rattle.std.specs.Prelude.{Bool, true, false}
use Rattle.meaning_dialogues.specs.Faults.{Fault, internal}

-- the fault of what a justfile doesn't meet whose names are known
abbrev pub is_internal : Fault → Bool
is_internal (internal text) = true
is_internal fault = false
