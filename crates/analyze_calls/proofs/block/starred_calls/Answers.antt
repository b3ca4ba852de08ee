use Rattle.std.proofs.Common.{rules, ◌≡◌, suc, ◌++◌, ◌∷◌, [], add-one, drop, get_or, map, take}
use Rattle.std.specs.String.{string_bytes}
use Rattle.analyze_calls.specs.Blocks.{call_with}
use Rattle.analyze_calls.proofs.Blocks.{each_row}
use Rattle.analyze_calls.proofs.block.starred_calls.Goals as goal

pub returns : goal.returns
returns c = λ lt.
    let is : get_or c.args.values.now c.args.star [] ≡ map string_bytes c.elements.result.now = search rules in
    let behind : c.split_at-2.result.1.now ≡ drop (suc c.args.star) c.args.values.now = rw add-one at c.split_at-2.ensures.back in
    let none : c.new-calls.result.items ≡ [] = search rules in
    rw
    (each_row (call_with c.args.callee.place c.args.callee.parameters.now) (λ element. take c.args.star c.args.values.now ++ (element ∷ []) ∷ drop (suc c.args.star) c.args.values.now) (get_or c.args.values.now c.args.star []), is, ← c.split_at.ensures.front, ← behind)
    (rw none at c.in_ok-push_each.ensures)
