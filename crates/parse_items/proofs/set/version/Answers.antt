-- A string is taken unless its text is at fault.
use Rattle.std.proofs.Common.{◌≡◌, None, Some, sym, ap, ◌∙◌}
use Rattle.std.proofs.lemmas.Result.{err_from_is_err_and}
use Rattle.parse_expressions.specs.Reading.{ahead}
use Rattle.parse_items.specs.SettingReading.{version_fault}
use Rattle.parse_items.proofs.Strings.{no_string, passes, at_fault}
use Rattle.parse_items.proofs.set.version.Goals as goal

pub returns-in_err-literal-clause-gives : goal.returns-in_err-literal-clause-gives
returns-in_err-literal-clause-gives g c =
    let p = err_from_is_err_and c.from_residual.result c.from_residual.ensures.1 in
    rw (p.1, p.2) (no_string (g.E.Expander.expansion c.args.context.now.expander.now) (ahead c.args.cursor.now) (version_fault c.args.current.now c.args.name.now) c.in_err-literal.field-0.0 c.in_err-literal.ensures.gives)

pub returns-in-None-clause-gives : goal.returns-in-None-clause-gives
returns-in-None-clause-gives g c =
    let s = c.in_ok-literal.literal in
    let fault = version_fault c.args.current.now c.args.name.now in
    let none : None ≡ fault s.cooked = sym c.in-None.is ∙ c.in_ok-version_fault.ensures ∙ ap fault c.as_str.ensures in
    passes (g.E.Expander.expansion c.args.context.now.expander.now) (ahead c.args.cursor.now) fault s.token s.cooked (ahead c.string.new.cursor) c.in_ok-literal.ensures.gives none

pub returns-clause-gives : goal.returns-clause-gives
returns-clause-gives g c =
    let s = c.in_ok-literal.literal in
    let fault = version_fault c.args.current.now c.args.name.now in
    let some : Some c.in-Some.fault ≡ fault s.cooked = sym c.in-Some.is ∙ c.in_ok-version_fault.ensures ∙ ap fault c.as_str.ensures in
    at_fault (g.E.Expander.expansion c.args.context.now.expander.now) (ahead c.args.cursor.now) fault s.token s.cooked (ahead c.string.new.cursor) c.in-Some.fault c.in_ok-literal.ensures.gives some
