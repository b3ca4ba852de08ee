-- What is sought is the first in what is left, or what was found last.
use Rattle.std.proofs.Common.{length}
use Rattle.std.proofs.lemmas.Cmp.{nat_list_cmp_total}
use Rattle.resolve_recipes.specs.Named.{AreByName, module_text}
use Rattle.resolve_recipes.proofs.Searching.{IsSearching}
use Rattle.resolve_recipes.proofs.search.submodule.Given as goal

abbrev pub invariant-loop-rest : goal.invariant-loop-rest
invariant-loop-rest l = AreByName (module_text l.modules) l.submodules → IsSearching nat_list_cmp_total (module_text l.modules) l.name l.submodules l.rest l.found

abbrev pub decreases-loop-rest : goal.decreases-loop-rest
decreases-loop-rest l = length l.rest
