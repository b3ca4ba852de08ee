use Rattle.std.proofs.Common.{rules, ◌≡◌, [], Ok, ap, true}
use Rattle.meaning_dialogues.proofs.Dialogues.{ends}
use Rattle.analyze_calls.specs.Calls.{rows}
use Rattle.analyze_calls.proofs.enter.block_unless.Goals as goal

pub returns-then-config-clause-evaluates : goal.returns-then-config-clause-evaluates
returns-then-config-clause-evaluates g c =
    let left_out : c.args.config.now.no_dependencies ≡ true = search rules in
    let none : rows c.new.result.items ≡ [] = search rules in
    rw left_out (ends (Ok []) (λ n. ap Ok none))
