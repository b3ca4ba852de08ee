-- The element stands in the block, and so among all.
use Rattle.std.proofs.Common.{◌≡◌, ◌<◌, length, get_or, set, sym, ap, subst, ◌∙◌, arith}
use Rattle.just_value.specs.Blocks.{IsPlaceIn}
use Rattle.std.specs.Vec.{with_item}
use Rattle.std.proofs.lemmas.List.{length-set}
use Rattle.just_value.proofs.InBlocks.{starts_kept, same_in_all, set_in_block}
use Rattle.just_value.proofs.blocks.Blocks.set.Goals as goal

pub invariant_of-self : goal.invariant_of-self
invariant_of-self g c =
    let blocks = c.self.inside.blocks.items in let at = subst (λ l. IsPlaceIn l c.args.place c.place_in-block.result) c.as_slice.ensures.value c.place_in-block.ensures in let k = c.place_in-block.result.0 in let o = c.place_in-block.result.1 in let d = c.index_mut.result.now in
    let b = with_item d o c.args.element in
    let long : length b.items ≡ length (get_or blocks k d).items = length-set d.items o c.args.element ∙ ap (λ v. length v.items) c.index_mut.ensures.value in (
      starts_kept blocks c.self.inside.starts.items k b d at.block long c.self.invariant.0,
      omega (arith, length-set blocks k b, c.self.invariant.1),
      c.self.invariant.2 ∙ same_in_all blocks k b d at.block long,
    )

pub returns : goal.returns
returns g c =
    let blocks = c.self.inside.blocks.items in let at = subst (λ l. IsPlaceIn l c.args.place c.place_in-block.result) c.as_slice.ensures.value c.place_in-block.ensures in let k = c.place_in-block.result.0 in let o = c.place_in-block.result.1 in let d = c.index_mut.result.now in
    set_in_block blocks k o c.args.place (with_item d o c.args.element) d c.args.element at.block
    (at.stands d (subst (λ l. c.args.place < length l) (sym c.self.view_is) c.requires)) at.position (ap (λ v. set v.items o c.args.element) c.index_mut.ensures.value)
    ∙ ap (λ l. set l c.args.place c.args.element) c.self.view_is
