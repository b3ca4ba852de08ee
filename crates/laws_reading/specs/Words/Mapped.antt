-- What reading gives, and why it stops, mapped from tokens of one type to tokens of another.
use Rattle.std.specs.Prelude.{◌≡◌, List, map, Option, Some, None, Result, Ok, Err}
use Rattle.std.specs.Option.{option_map}
use Rattle.parse_expressions.specs.Reading.{Stop, unexpected, refused}
use Rattle.parse_attributed_items.specs.Halting.{Halt, stopped, broken}

-- what is given is mapped by g, what is refused by s
abbrev pub map_result : {E F A B : Type 0} → (E → F) → (A → B) → Result A E → Result B F
map_result s g (Ok x) = Ok (g x)
map_result s g (Err e) = Err (s e)

-- the other result is the one that was read, mapped
pub record MapsTo {E F A B : Type 0} (s : E → F) (g : A → B) (read : Result A E) (other : Result B F) : Type 0 where
  pub is : map_result s g read ≡ other

-- the other option is the one, mapped
pub record MapsOptionTo {A B : Type 0} (g : A → B) (o : Option A) (other : Option B) : Type 0 where
  pub is : option_map g o ≡ other

module _ {T S : Type 0} (f : T → S) where
  -- why reading stops, with the token mapped
  abbrev pub map_stop : Stop T → Stop S
  map_stop (unexpected None) = unexpected None
  map_stop (unexpected (Some t)) = unexpected (Some (f t))
  map_stop (refused t kind) = refused (f t) kind

  -- why reading halts, with the token mapped
  abbrev pub map_halt : Halt T → Halt S
  map_halt (stopped stop) = stopped (map_stop stop)
  map_halt (broken kind) = broken kind

  -- what was taken, mapped, and the tokens that lie ahead, mapped
  abbrev pub step : {A B : Type 0} → (A → B) → A × List T → B × List S
  step g x = (g x.0, map f x.1)

  -- what was taken, and the tokens that lie ahead, mapped
  abbrev pub same : {A : Type 0} → A × List T → A × List S
  same x = (x.0, map f x.1)
