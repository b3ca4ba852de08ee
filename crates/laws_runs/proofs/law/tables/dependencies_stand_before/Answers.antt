use Rattle.laws_runs.proofs.Tables.Before.{before}
use Rattle.laws_runs.proofs.law.tables.dependencies_stand_before.Goals as goal

pub returns : goal.returns
returns c compilation reads table many is place needed recipe here some = before compilation reads table many is place needed recipe here some
