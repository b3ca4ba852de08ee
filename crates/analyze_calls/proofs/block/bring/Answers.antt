use Rattle.std.proofs.Common.{rules, ◌≡◌, ◌∷◌, [], ap, sym}
use Rattle.analyze_calls.proofs.Blocks.{rows_plain, rows_starred}
use Rattle.analyze_calls.proofs.block.bring.Goals as goal

pub returns-in_default : goal.returns-in_default
returns-in_default c = λ e.
    rw (rows_plain c.args.arguments.now c.args.values.items e (sym c.in_default.ensures)) (ap (λ row. row ∷ []) c.in_ok-call.ensures)

pub returns : goal.returns
returns c = λ e.
    let same : c.as_slice.result.now ≡ c.args.values.items = search rules in
    let h = rows_starred c.args.arguments.now c.args.values.items c.in-Some.star e (sym c.in-Some.ensures) in
    rw (h.1) (rw same at c.in_ok-calls.ensures h.0)
