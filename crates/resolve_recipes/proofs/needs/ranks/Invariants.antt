-- The ranks before the place are noted.
use Rattle.resolve_recipes.proofs.Ranking.{AreNoted}
use Rattle.resolve_recipes.proofs.needs.ranks.Given as goal

abbrev pub invariant-loop-rank : goal.invariant-loop-rank
invariant-loop-rank l = AreNoted l.order l.rank l.ranks.items
