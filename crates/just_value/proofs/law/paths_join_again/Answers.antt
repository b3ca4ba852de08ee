-- A plain path is its parent joined with its file name.
use Rattle.just_value.proofs.PlainPaths.{joined_again}
use Rattle.just_value.proofs.law.paths_join_again.Goals as goal

pub returns : goal.returns
returns c = joined_again
