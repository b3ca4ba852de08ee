-- The lists of the module gain what it keeps, or the module is refused.
use Rattle.std.proofs.Common.{rules, inl}
use Rattle.just_modules.proofs.Keeping.{filled_at}
use Rattle.just_modules.proofs.compiler.keep.Goals as goal

pub returns-in_err-fill-in-Ok-clause-refused : goal.returns-in_err-fill-in-Ok-clause-refused
returns-in_err-fill-in-Ok-clause-refused c = search (rules, inl)

pub returns-in_ok-fill-in-Ok-clause-filled : goal.returns-in_ok-fill-in-Ok-clause-filled
returns-in_ok-fill-in-Ok-clause-filled c =
    let before = c.args.compilation.now in
    let keeps = rw (c.as_slice-files.ensures.value, c.as_slice.ensures.value) at c.in-Ok.ensures.kept in
    let changed = rw c.as_slice-in-Ok.ensures.value at c.in_ok-fill-in-Ok.ensures in
    filled_at c.args.config.now.os c.args.config.now.unstable before.files.items before.modules.items c.fill.new.modules.items c.args.place c.in-Ok.kept.items keeps changed

pub returns-in-Err-clause-refused : goal.returns-in-Err-clause-refused
returns-in-Err-clause-refused c = rw (c.as_slice-files.ensures.value, c.as_slice.ensures.value) at c.in-Err.ensures.refused
