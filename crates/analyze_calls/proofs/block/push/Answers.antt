use Rattle.std.proofs.Common.{rules, ◌≡◌, ◌++◌, ap, ◌∙◌}
use Rattle.analyze_calls.specs.Calls.{rows}
use Rattle.analyze_calls.proofs.Blocks.{rows_append}
use Rattle.analyze_calls.proofs.block.push.Goals as goal

pub returns-in_ok-append-in-Each : goal.returns-in_ok-append-in-Each
returns-in_ok-append-in-Each c =
    let whole : c.append.new.self.items ≡ c.args.calls.now.items ++ c.in-Each.others.items = search rules in
    rw c.in-Each.is (ap rows whole ∙ rows_append c.args.calls.now.items c.in-Each.others.items)
