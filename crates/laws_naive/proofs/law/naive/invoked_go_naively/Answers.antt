-- By its lemma.
use Rattle.laws_naive.proofs.Naive.Ranks.{dependencies_fall}
use Rattle.laws_naive.proofs.Naive.Worlds.{invoked_go_naively}
use Rattle.laws_naive.proofs.law.naive.invoked_go_naively.Goals as goal

pub returns : goal.returns
returns c start = invoked_go_naively dependencies_fall _
