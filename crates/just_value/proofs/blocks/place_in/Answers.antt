-- The place stands behind the start of its block, and before the next.
use Rattle.std.proofs.Common.{◌≡◌, get_or, sym, ◌∙◌}
use Rattle.just_value.proofs.InBlocks.{at_place, inside, inside_or_end}
use Rattle.just_value.proofs.blocks.place_in.Goals as goal

pub returns : goal.returns
returns g c =
    let blocks = c.args.blocks.now in let starts = c.args.starts.now in let k = c.block_of-block.result in let is = c.block_of-block.ensures in
    let start = get_or starts k 0 in
    let read : start ≡ get_or starts k start = c.requires.starts.start k 0 is.within ∙ sym (c.requires.starts.start k start is.within) in record {
      block = is.within;
      position = at_place blocks starts c.args.place k start c.requires.starts is read;
      inside = λ d. inside_or_end blocks starts c.args.place k start c.requires.starts is read d c.requires.within;
      stands = λ d lt. inside blocks starts c.args.place k start c.requires.starts is read d lt;
    }
