-- A recipe that is not private is one more.
use Rattle.std.proofs.Common.{arith}
use Rattle.justfile_analyzer.specs.Offers.{lent, offered_at}
use Rattle.justfile_analyzer.proofs.Kept.{kept, passed}
use Rattle.justfile_analyzer.proofs.offered.recipes_at.Goals as goal
use Rattle.justfile_analyzer.proofs.offered.recipes_at.Goals.{in-Some+in_ok-push, in_default}

pub loop-place-preserved : goal.loop-place-preserved
loop-place-preserved c =
    let places = c.args.places.now in
    let i = c.loop-place.place-index in
    let offered = offered_at c.args.compilation.now in
    elim c.match-public_recipe.branch [
      | in-Some+in_ok-push w ↦ rw (w.recipes-is, w.in_ok-push.ensures.items) (kept offered lent places i (record { file = 0; item = 0 }) w.in-Some.recipe c.loop-place.recipes.items (omega arith) w.in-Some.ensures c.loop-place.invariant)
      | in_default w ↦ rw w.recipes-is (passed offered lent places i (record { file = 0; item = 0 }) c.loop-place.recipes.items (omega arith) w.in_default.ensures c.loop-place.invariant)
    ]
