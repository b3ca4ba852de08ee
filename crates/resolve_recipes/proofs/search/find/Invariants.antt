-- What is sought is the first in what is left, or what was found last.
use Rattle.std.proofs.Common.{length}
use Rattle.std.proofs.lemmas.Cmp.{nat_list_cmp_total}
use Rattle.resolve_recipes.specs.Named.{AreByName, text_at}
use Rattle.resolve_recipes.proofs.Searching.{IsSearching}
use Rattle.resolve_recipes.proofs.search.find.Given as goal

abbrev pub invariant-loop-rest : goal.invariant-loop-rest
invariant-loop-rest l = AreByName (text_at l.compilation) l.places → IsSearching nat_list_cmp_total (text_at l.compilation) l.name l.places l.rest l.found

abbrev pub decreases-loop-rest : goal.decreases-loop-rest
decreases-loop-rest l = length l.rest
