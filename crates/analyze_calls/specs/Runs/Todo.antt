-- What is still to do.
use Rattle.std.specs.Prelude.{Bool, List, [], ◌∷◌, Option}
use Rattle.analyze_calls.specs.Calls.{CallRow}
use Rattle.analyze_calls.specs.Entered.{EnteredRow}

-- calls in order, as dependencies or not; what follows a call's priors; and what follows its subsequents, with the calls that were done before
-- those, unless these shared them
pub data Todo : Type 0 where
  Calls : Bool → List CallRow → Todo
  Body : CallRow → Bool → EnteredRow → Todo
  After : CallRow → Option (List CallRow) → Todo

-- calls before what follows them, if there are any
abbrev pub before : Bool → List CallRow → List Todo → List Todo
before dependencies [] todos = todos
before dependencies (call ∷ calls) todos = Calls dependencies (call ∷ calls) ∷ todos
