use Rattle.laws_runs.proofs.Tables.Before.{stands}
use Rattle.laws_runs.proofs.law.tables.kept_recipes_stand.Goals as goal

pub returns : goal.returns
returns c compilation reads table many is kept listed = stands compilation reads table many is kept listed
