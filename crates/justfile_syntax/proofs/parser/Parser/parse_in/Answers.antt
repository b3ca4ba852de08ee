-- What the tokens derive, from what reading them gives.
use Rattle.std.proofs.Common.{◌∙◌, sym}
use Rattle.tree_items.specs.Files.{item_shapes}
use Rattle.parse_expressions.specs.Reading.{shown}
use Rattle.parse_expressions.proofs.Taken.{ok_is}
use Rattle.justfile_syntax.proofs.Answered.{derived, holds, read, reason, starved}
use Rattle.justfile_syntax.proofs.Frugal.{few_left}
use Rattle.justfile_syntax.proofs.parser.Parser.parse_in.Goals as goal

pub returns-in-Ok-clause-found : goal.returns-in-Ok-clause-found
returns-in-Ok-clause-found g c =
    let x = g.E.Expander.expansion c.args.context.now.expander.now in
    derived x c.args.version.now (c.file_law.ensures.files x c.args.version.now) c.args.tokens.now (item_shapes c.in-Ok.ast.items.items) (rw c.new-cursor.ensures at c.in-Ok.ensures.gives)

pub returns-in-Ok-clause-only : goal.returns-in-Ok-clause-only
returns-in-Ok-clause-only g c items d =
    let x = g.E.Expander.expansion c.args.context.now.expander.now in
    ok_is (item_shapes c.in-Ok.ast.items.items) items (sym (rw c.new-cursor.ensures at c.in-Ok.ensures.gives) ∙ read x c.args.version.now (c.file_law.ensures.files x c.args.version.now) c.args.tokens.now items d)

pub returns-in-Err-clause-only : goal.returns-in-Err-clause-only
returns-in-Err-clause-only g c items d =
    let x = g.E.Expander.expansion c.args.context.now.expander.now in
    starved x c.args.version.now (c.file_law.ensures.files x c.args.version.now) c.args.tokens.now _ c.refusal.result c.in-Err.fault (rw c.new-cursor.ensures at c.in-Err.ensures.gives) c.refusal.ensures items d

pub returns-in-Err-clause-fault : goal.returns-in-Err-clause-fault
returns-in-Err-clause-fault g c =
    let x = g.E.Expander.expansion c.args.context.now.expander.now in
    holds x c.args.version.now (c.file_law.ensures.files x c.args.version.now) c.args.tokens.now _ c.refusal.result c.in-Err.fault (rw c.new-cursor.ensures at c.in-Err.ensures.gives) c.refusal.ensures

pub returns-in-Err-clause-reason : goal.returns-in-Err-clause-reason
returns-in-Err-clause-reason g c =
    let x = g.E.Expander.expansion c.args.context.now.expander.now in
    reason x c.args.version.now (c.file_law.ensures.files x c.args.version.now) c.args.tokens.now _ c.refusal.result c.in-Err.fault (rw c.new-cursor.ensures at c.in-Err.ensures.gives) c.refusal.ensures

pub returns-in-Ok-clause-frugal : goal.returns-in-Ok-clause-frugal
returns-in-Ok-clause-frugal g c = rw c.new-cursor.ensures at c.in-Ok.ensures.frugal

pub returns-in-Err-clause-frugal : goal.returns-in-Err-clause-frugal
returns-in-Err-clause-frugal g c = rw c.new-cursor.ensures at c.in-Err.ensures.frugal

pub returns-in-Err-clause-used : goal.returns-in-Err-clause-used
returns-in-Err-clause-used g c =
    let x = g.E.Expander.expansion c.args.context.now.expander.now in
    few_left x c.args.version.now _ (shown c.args.tokens.now) c.args.numerator.now c.tree.new.numerator (rw c.new-cursor.ensures at c.in-Err.ensures.frugal) c.refusal.result.kind
    (holds x c.args.version.now (c.file_law.ensures.files x c.args.version.now) c.args.tokens.now _ c.refusal.result c.in-Err.fault (rw c.new-cursor.ensures at c.in-Err.ensures.gives) c.refusal.ensures)
