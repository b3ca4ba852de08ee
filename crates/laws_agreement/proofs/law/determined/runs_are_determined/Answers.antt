-- Runs of recipes.
use Rattle.laws_agreement.proofs.Determined.Runs.{runs_are_determined}
use Rattle.laws_agreement.proofs.law.determined.runs_are_determined.Goals as goal

pub returns : goal.returns
returns c start = runs_are_determined _
