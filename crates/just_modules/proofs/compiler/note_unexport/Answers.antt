-- The name is put with the others, or is none of these.
use Rattle.std.proofs.Common.{sym, ◌∙◌}
use Rattle.just_modules.proofs.Exports.{not_put, put_if, put_text}
use Rattle.just_modules.proofs.compiler.note_unexport.Goals as goal

pub returns-then-not-is_unexport : goal.returns-then-not-is_unexport
returns-then-not-is_unexport c = not_put c.args.names.now c.args.definition.now (sym c.is_unexport.ensures ∙ c.if-not-is_unexport.true)

pub returns : goal.returns
returns c =
    let d = c.args.definition.now in
    put_if c.args.names.now c.insert.new.self d (sym c.is_unexport.ensures ∙ c.if-not-is_unexport.false) (put_text c.args.names.now c.insert.new.self d.text.now c.in_ok-insert.ensures.updates)
