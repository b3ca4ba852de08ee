-- The element stands in the block, and so among all.
use Rattle.std.proofs.Common.{◌≡◌, if◌then◌else◌, is_ok, ap, subst}
use Rattle.std.specs.List.{insert}
use Rattle.just_value.proofs.InBlocks.{inserted_or_not, kept_or_not}
use Rattle.just_value.proofs.blocks.put_in.Goals as goal

pub returns-clause-elements : goal.returns-clause-elements
returns-clause-elements g c =
    let read = ap (λ v. v.items) c.index_mut.ensures.value in
    inserted_or_not c.args.blocks.now.items c.args.block c.args.place c.insert.new.self c.index_mut.result.now c.args.element c.insert.result c.requires.within (c.requires.inside c.index_mut.result.now)
    (subst (λ l. c.insert.new.self.items ≡ (if is_ok c.insert.result then insert l c.args.place c.args.element else l)) read c.insert.ensures.items)

pub returns-clause-starts : goal.returns-clause-starts
returns-clause-starts g c starts =
    let read = ap (λ v. v.items) c.index_mut.ensures.value in
    kept_or_not c.args.blocks.now.items c.args.block c.args.place c.insert.new.self c.index_mut.result.now c.args.element c.insert.result starts c.requires.within
    (subst (λ l. c.insert.new.self.items ≡ (if is_ok c.insert.result then insert l c.args.place c.args.element else l)) read c.insert.ensures.items)
