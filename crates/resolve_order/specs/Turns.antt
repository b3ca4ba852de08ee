-- What a search does with a need.
use Rattle.std.specs.Prelude.{Option, Some, None}
use Rattle.resolve_order.specs.declared.marks.Mark.{Mark}
use Rattle.resolve_order.specs.declared.marks.Mark.TheVariants.{New, Open, Done}
use Rattle.resolve_order.specs.declared.marks.Turn.{Turn}
use Rattle.resolve_order.specs.declared.marks.Turn.TheVariants.{Pass, Descend, Back}

-- a need that is not there, or is in the order, is passed; a new one comes first; one on the stack closes a cycle
abbrev pub turn_of : Option Mark → Turn
turn_of None = Pass
turn_of (Some New) = Descend
turn_of (Some (Open place)) = Back place
turn_of (Some (Done place)) = Pass
