use Rattle.laws_runs.proofs.Resolved.Trees.{trees_have_modules}
use Rattle.laws_runs.proofs.law.resolved.trees_have_modules.Goals as goal

pub returns : goal.returns
returns c = trees_have_modules
