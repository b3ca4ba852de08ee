-- The range ends with the files, and begins no later than it ends.
use Rattle.std.proofs.Common.{arith}
use Rattle.just_modules.proofs.Keeping.{range_taken}
use Rattle.just_modules.proofs.compiler.files_of.Goals as goal

pub returns : goal.returns
returns c =
    range_taken c.args.files.now c.args.range.first c.args.range.end c.min.result c.min-end.result (omega arith) (omega arith) (λ h. omega arith) (λ h. omega arith) (λ h. omega arith) (λ h. omega arith)
