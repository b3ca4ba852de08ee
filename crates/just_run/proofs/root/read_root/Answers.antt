-- The root file is read, or it is told why it can't be.
use Rattle.std.proofs.Common.{◌≡◌, ◌≤◌, sym, subst, arith, length}
use Rattle.std.proofs.lemmas.Result.{err_from_is_err_and}
use Rattle.just_text.specs.Numbers.{Numbers}
use Rattle.just_value.specs.Constants.{constant_rows}
use Rattle.just_run.specs.Root.{Inputs, given, reader_of}
use Rattle.just_run.proofs.Roots.{missing_told, rootless_told, syntax_told}
use Rattle.just_run.proofs.root.read_root.Goals as goal

pub returns-in_err-path-clause-err : goal.returns-in_err-path-clause-err
returns-in_err-path-clause-err g c =
    let i : Inputs = given (reader_of (g.E.Expander.expansion c.args.expander.now) c.args.version.now) c.args.sources.now c.args.roots.now c.args.words.now in
    let p = err_from_is_err_and c.from_residual.result c.from_residual.ensures.1 in
    rw (p.1, p.2) (rootless_told i c.in_err-path.field-0.0 c.in_err-path.ensures.err)

pub returns-in_err-text-clause-err : goal.returns-in_err-text-clause-err
returns-in_err-text-clause-err g c =
    let i : Inputs = given (reader_of (g.E.Expander.expansion c.args.expander.now) c.args.version.now) c.args.sources.now c.args.roots.now c.args.words.now in
    let p = err_from_is_err_and c.from_residual-in_err-text.result c.from_residual-in_err-text.ensures.1 in
    rw (p.1, p.2) (missing_told i c.in_ok-path.path.now c.in_err-text.field-0.0 c.in_ok-path.ensures.ok c.in_err-text.ensures.err)

pub returns-in_err-ast-clause-err : goal.returns-in_err-ast-clause-err
returns-in_err-ast-clause-err g c =
    let i : Inputs = given (reader_of (g.E.Expander.expansion c.args.expander.now) c.args.version.now) c.args.sources.now c.args.roots.now c.args.words.now in
    let p = err_from_is_err_and c.from_residual-in_err-ast.result c.from_residual-in_err-ast.ensures.1 in
    rw (p.1, p.2) (syntax_told c.parse_source.new.numerator i c.in_ok-path.path.now c.in_ok-text.text.now c.in_err-ast.field-0.0 c.in_ok-path.ensures.ok c.in_ok-text.ensures.ok c.in_err-ast.ensures.refused)

pub returns-clause-read : goal.returns-clause-read
returns-clause-read g c = record {
  rooted = c.in_ok-path.ensures.ok;
  text = c.in_ok-text.text.now;
  there = c.in_ok-text.ensures.ok;
  says = c.in_ok-ast.ensures.found;
  whole = c.in_ok-ast.ensures.whole;
  start = c.new-numerator.result;
  above = subst (λ (n : Numbers). length constant_rows ≤ n.bindings) (sym c.new-numerator.ensures) (omega arith);
  numbered = c.in_ok-ast.ensures.numbers;
}
