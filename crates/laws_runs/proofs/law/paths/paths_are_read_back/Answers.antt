use Rattle.laws_runs.proofs.Paths.ReadBack.{distinct, read_back}
use Rattle.laws_runs.proofs.law.paths.paths_are_read_back.Goals as goal

pub returns-clause-read : goal.returns-clause-read
returns-clause-read c name names h = read_back name names h

pub returns-clause-distinct : goal.returns-clause-distinct
returns-clause-distinct c name other names others first second same = distinct name other names others first second same
