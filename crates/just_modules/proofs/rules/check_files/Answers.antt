-- The file of the item that is refused is one of them.
use Rattle.std.proofs.Common.{sym, arith}
use Rattle.just_modules.proofs.Items.{more_files_clear, all_files_clear}
use Rattle.just_modules.proofs.rules.check_files.Goals as goal

pub returns-in-Err-clause-broken : goal.returns-in-Err-clause-broken
returns-in-Err-clause-broken c w is =
    let t = c.in-Err.ensures.broken w is in
    (t.0, t.1, (c.file-item.result, (c.loop-file.file-index, omega arith, sym c.file-item.is), t.2))

pub loop-file-preserved : goal.loop-file-preserved
loop-file-preserved c = more_files_clear c.args.truths.now c.args.os c.args.files.now c.loop-file.file-index c.file-item.result (omega arith) c.file-item.is c.loop-file.invariant c.in-Ok.ensures.clear

pub returns-clause-clear : goal.returns-clause-clear
returns-clause-clear c = all_files_clear c.args.truths.now c.args.os c.args.files.now c.loop-file.file-index (omega arith) c.loop-file.invariant
