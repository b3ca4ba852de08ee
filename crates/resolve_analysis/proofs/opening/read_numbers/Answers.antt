-- The set was empty.
use Rattle.std.proofs.Common.{subst}
use Rattle.resolve_order.specs.Needs.{rows}
use Rattle.resolve_analysis.specs.Opening.{IsNumberOf}
use Rattle.resolve_analysis.specs.Unions.{Has, IsUnion}
use Rattle.resolve_analysis.proofs.Marking.{none_has}
use Rattle.resolve_analysis.proofs.Uniting.{union_of_none}
use Rattle.resolve_analysis.proofs.opening.read_numbers.Goals as goal

pub returns : goal.returns
returns c =
    let vs = c.args.variables.now in
    let of_lists = subst (λ ls. IsUnion (Has c.new-numbers.result) (IsNumberOf ls c.as_slice-reads.result.now c.args.settings.now (rows c.args.rows.now)) (Has c.add_modules.new.numbers)) c.as_slice-lists.ensures.value c.in_ok-add_modules.ensures in
    let of_both = subst (λ rs. IsUnion (Has c.new-numbers.result) (IsNumberOf vs.lists.items rs c.args.settings.now (rows c.args.rows.now)) (Has c.add_modules.new.numbers)) c.as_slice-reads.ensures.value of_lists in
    union_of_none (λ n h. none_has c.new-numbers.result n c.new-numbers.ensures.empty h) of_both
