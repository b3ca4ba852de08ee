-- What stands in the block stands among all.
use Rattle.std.proofs.Common.{◌<◌, length, get_or, sym, ap, subst, ◌∙◌}
use Rattle.just_value.specs.Blocks.{IsPlaceIn}
use Rattle.just_value.proofs.InBlocks.{read_in_block}
use Rattle.just_value.proofs.blocks.Blocks.get.Goals as goal

pub returns : goal.returns
returns g c =
    let at = subst (λ l. IsPlaceIn l c.args.place c.place_in-block.result) c.as_slice.ensures.value c.place_in-block.ensures in let k = c.place_in-block.result.0 in let o = c.place_in-block.result.1 in let block = c.index.result.now in let x = c.index-2.result.now in
    c.index-2.ensures ∙ ap (λ v. get_or v.items o x) c.index.ensures
    ∙ read_in_block c.self.inside.blocks.items k o c.args.place block x at.block (at.stands block (subst (λ l. c.args.place < length l) (sym c.self.view_is) c.requires)) at.position
    ∙ ap (λ l. get_or l c.args.place x) c.self.view_is
