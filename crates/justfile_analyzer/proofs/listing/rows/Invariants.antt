-- The recipes so far are in the list.
use Rattle.std.proofs.Common.{◌≡◌, map, take}
use Rattle.justfile_analyzer.specs.Listings.{listed, listed_recipe}
use Rattle.justfile_analyzer.specs.Offers.{lent}
use Rattle.justfile_analyzer.proofs.listing.rows.Given as goal

abbrev pub invariant-loop-recipe : goal.invariant-loop-recipe
invariant-loop-recipe l = map listed l.rows.items ≡ map (listed_recipe l.compilation) (map lent (take l.recipe-index l.recipes))
