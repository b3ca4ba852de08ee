use Rattle.std.specs.Prelude.{List, ℕ, [], ◌∷◌, ◌+◌, ◌*◌, ◌^◌, ◌<◌, length}
use Rattle.std.specs.List.{All}
use Rattle.analyze_calls.specs.Calls.{CallRow}
use Rattle.analyze_calls.specs.Runs.Todo.{Todo, Calls, Body, After}
use Rattle.analyze_calls.specs.declared.call.Call.{Call}

-- more calls than a list can hold
abbrev pub most : ℕ
most = 2 ^ 64

abbrev pub base : ℕ
base = 2 * most + 3

-- of calls by their recipes' places: one weighs more than all that it may bring
abbrev pub weight_of : List CallRow → ℕ
weight_of [] = 0
weight_of (c ∷ cs) = base ^ (c.recipe + 1) + weight_of cs

-- how much a stack has left to do, at most
abbrev pub weight : List Todo → ℕ
weight [] = 0
weight (Calls dependencies calls ∷ todos) = 1 + weight_of calls + weight todos
weight (Body call dependency entered ∷ todos) = 2 + most * base ^ call.recipe + weight todos
weight (After call outer ∷ todos) = 1 + weight todos

-- calls of recipes that come earlier, as many as a list can hold
pub record AreBelow (place : ℕ) (calls : List Call) : Type 0 where
  pub earlier : All (λ c. c.recipe < place) calls
  pub few : length calls < most
