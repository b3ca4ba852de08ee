use Rattle.laws_runs.proofs.Resolved.Trees.{trees_are_sorted}
use Rattle.laws_runs.proofs.law.resolved.trees_are_sorted.Goals as goal

pub returns : goal.returns
returns c = trees_are_sorted
