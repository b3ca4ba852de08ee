-- The two blocks hold what the one held.
use Rattle.std.proofs.Common.{◌≡◌, ◌+◌, take, drop, get_or, set, ap, ◌∙◌}
use Rattle.just_value.specs.Blocks.{elements}
use Rattle.just_value.proofs.InBlocks.{same_block, empty_block, read_before, in_two}
use Rattle.just_value.proofs.blocks.split_block.Goals as goal

pub returns-in_err-behind-clause-elements : goal.returns-in_err-behind-clause-elements
returns-in_err-behind-clause-elements g c =
    let split = c.insert.new.self.items in
    same_block split c.args.block c.split_off.new.self c.index_mut.result.now (ap (λ v. v.items) (c.in_err-behind.ensures.err ∙ c.index_mut.ensures.value))
    ∙ ap (λ l. elements l) c.in_ok-insert.ensures.items ∙ empty_block c.args.blocks.now.items (c.args.block + 1) c.new.result c.new.ensures.items

pub returns-clause-elements : goal.returns-clause-elements
returns-clause-elements g c =
    let blocks = c.args.blocks.now.items in
    let d = c.index_mut.result.now in
    let read : d.items ≡ (get_or blocks c.args.block d).items =
    ap (λ v. v.items) (c.index_mut.ensures.value ∙ ap (λ l. get_or l c.args.block d) c.in_ok-insert.ensures.items ∙ read_before blocks c.args.block c.new.result d c.requires.within) in
    ap (λ l. elements (set (set l c.args.block c.split_off.new.self) (c.args.block + 1) c.in_ok-behind.behind)) c.in_ok-insert.ensures.items
    ∙ in_two blocks c.args.block c.args.at c.new.result c.split_off.new.self c.in_ok-behind.behind d c.requires.within
    (c.in_ok-behind.ensures.items ∙ ap (λ l. take c.args.at l) read) (c.in_ok-behind.ensures.tail ∙ ap (λ l. drop c.args.at l) read)
