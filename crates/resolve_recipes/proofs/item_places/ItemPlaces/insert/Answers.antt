-- The entry in the row of the item's file.
use Rattle.std.proofs.Common.{ap, arith, cond, refl, Some, ◌∙◌}
use Rattle.resolve_recipes.specs.Standing.{entry_in, is_place}
use Rattle.resolve_recipes.proofs.Standing.{item_put}
use Rattle.std.proofs.lemmas.Result.{on_ok_weaker}
use Rattle.resolve_recipes.proofs.item_places.ItemPlaces.insert.Goals as goal

pub returns : goal.returns
returns c = on_ok_weaker c.put.result (λ put other.
    item_put c.loop-self.self.files.items _ c.index_mut.result.now c.put.new.row c.args.item other c.args.place (omega (arith, c.loop-self-test.false, c.len.ensures)) c.index_mut.ensures.value refl put
    ∙ ap (λ row. cond (is_place c.args.item other) (Some c.args.place) (entry_in row other.item)) (c.loop-self.invariant other.file)) c.put.ensures
