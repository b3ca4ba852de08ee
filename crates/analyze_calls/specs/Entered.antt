-- What a recipe was entered with.
use Rattle.std.specs.Prelude.{◌∷◌, [], List, map, ℕ}
use Rattle.std.specs.String.{string_bytes}
use Rattle.just_host.specs.declared.job.Pair.{Pair}
use Rattle.just_value.specs.Frames.{Frames}
use Rattle.evaluate_variables.specs.declared.parameters.BoundParameters.{BoundParameters}
use Rattle.analyze_calls.specs.declared.enter.Entered.{Entered}

-- the frames in which its body is evaluated, what its `env` attributes give, and its values as words
pub record EnteredRow : Type 0 where
  pub frames : Frames
  pub env : List Pair
  pub positional : List (List ℕ)

abbrev pub entered_of : Entered → EnteredRow
entered_of entered = record { frames = entered.scope; env = entered.env.items; positional = map string_bytes entered.positional.items }

-- what was bound, in these frames
abbrev pub bound_row : Frames → BoundParameters → EnteredRow
bound_row frames given = record { frames = frames; env = given.env.items; positional = map string_bytes given.positional.items }

-- an empty frame inside these frames
abbrev pub inside : Frames → Frames
inside frames = record { own = []; outer = frames.own ∷ frames.outer }
