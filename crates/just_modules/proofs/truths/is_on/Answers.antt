-- It is on in this file, or further on.
use Rattle.std.proofs.Common.{arith, sym, ◌∙◌}
use Rattle.just_modules.specs.Settings.{is_on_among}
use Rattle.just_modules.proofs.Enabled.{any_found, any_goes_on}
use Rattle.just_modules.proofs.truths.is_on.Goals as goal

pub returns-then-is_on_in : goal.returns-then-is_on_in
returns-then-is_on_in c = any_found (λ file. is_on_among c.args.os c.args.name.now file.ast.items.items) c.args.files.now c.loop-file.file-index c.file-item.result c.loop-file.invariant (omega arith) c.file-item.is (sym c.is_on_in.ensures ∙ c.if-is_on_in.true)

pub loop-file-preserved : goal.loop-file-preserved
loop-file-preserved c = any_goes_on (λ file. is_on_among c.args.os c.args.name.now file.ast.items.items) c.args.files.now c.loop-file.file-index c.file-item.result c.loop-file.invariant (omega arith) c.file-item.is (sym c.is_on_in.ensures ∙ c.if-is_on_in.false)
