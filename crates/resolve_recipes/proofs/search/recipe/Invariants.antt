-- What is sought is the first in what is left, or what was found last.
use Rattle.std.proofs.Common.{length}
use Rattle.modules_compilation.specs.Fronts.{front_of}
use Rattle.resolve_recipes.specs.Named.{AreByFront, row_key}
use Rattle.resolve_recipes.proofs.Named.{key_total}
use Rattle.resolve_recipes.proofs.Searching.{IsSearching}
use Rattle.resolve_recipes.proofs.search.recipe.Given as goal

abbrev pub invariant-loop-rest : goal.invariant-loop-rest
invariant-loop-rest l = AreByFront l.compilation l.recipes → IsSearching key_total (row_key l.compilation) (front_of l.name, l.name) l.recipes l.rest l.found

abbrev pub decreases-loop-rest : goal.decreases-loop-rest
decreases-loop-rest l = length l.rest
