use Rattle.std.proofs.Common.{refl}
use Rattle.std.proofs.lemmas.Result.{err_from_is_err_and}
use Rattle.std.specs.String.{string_bytes}
use Rattle.tree_items.specs.Lines.{pieces_of}
use Rattle.evaluate_expressions.proofs.WantOfMemory.{unless_memory}
use Rattle.justfile_evaluator.proofs.Lines.{was_read}
use Rattle.justfile_evaluator.proofs.body.read_line.Goals as goal

pub returns-in_err-text-clause-reads : goal.returns-in_err-text-clause-reads
returns-in_err-text-clause-reads g c = λ b same means sound.
    let e = err_from_is_err_and c.from_residual.result c.from_residual.ensures.1 in
    rw (e.1, e.2) (means.by_name c.args.command.now.is_open _ _ _ c.in_err-text.ensures.evaluates)

pub returns-in_err-put-clause-reads : goal.returns-in_err-put-clause-reads
returns-in_err-put-clause-reads g c = λ b same means sound.
    let e = err_from_is_err_and c.from_residual-in_err-put.result c.from_residual-in_err-put.ensures.1 in
    rw (e.1, e.2) (means.by_name c.args.command.now.is_open _ _ _ (unless_memory c.in_ok-text.ensures.evaluates (λ n. absurd (n refl))))

pub returns-clause-reads : goal.returns-clause-reads
returns-clause-reads g c = λ b same means sound.
    was_read b c.args.guards c.args.command.now c.put.new.self (pieces_of c.args.line.now) (string_bytes c.in_ok-text.text) _ _ same (means.by_name c.args.command.now.is_open _ _ _ c.in_ok-text.ensures.evaluates) sound c.in_ok-put.ensures
