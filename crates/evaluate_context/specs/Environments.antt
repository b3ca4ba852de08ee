-- The environment of a module's commands.
use Rattle.std.specs.Prelude.{◌≡◌, ℕ, List, false, None}
use Rattle.just_host.specs.declared.job.Pair.{Pair}
use Rattle.just_value.specs.Frames.{Frames}
use Rattle.evaluate_context.specs.Surroundings.{surroundings_of, standing_in, given, by_name}
use Rattle.evaluate_context.specs.Surroundings as told
use Rattle.evaluate_context.specs.declared.context.ExecutionContext.{ExecutionContext}

-- what the files of variables gave for the module, the frames around the innermost one and further pairs; which recipe stands there makes no difference
pub record IsEnvironmentIn (context : ExecutionContext) (env : List Pair) (frames : Frames) (pairs : List Pair) (removed : List (List ℕ)) : Type 0 where
  pub pairs_are : pairs ≡ by_name (given (surroundings_of context) (standing_in context env frames false None))
  pub removed_are : removed ≡ told.removed (surroundings_of context) (standing_in context env frames false None)
