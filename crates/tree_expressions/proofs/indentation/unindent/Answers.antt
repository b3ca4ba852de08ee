-- Each turn keeps what stays of one line.
use Rattle.std.proofs.Common.{◌≡◌, length, sym, ◌∙◌, arith, rules}
use Rattle.std.specs.Prelude.{string_bytes}
use Rattle.std.proofs.lemmas.Bool.Decides.{nat_tests}
use Rattle.tree_expressions.proofs.Lines.{kept_on, kept_end}
use Rattle.tree_expressions.proofs.indentation.unindent.Goals as goal

pub loop-run-preserved : goal.loop-run-preserved
loop-run-preserved c = (search rules, rw (c.in_ok-push_str.ensures.bytes, c.kept.ensures, c.is_outer.ensures) (sym (kept_on c.unwrap_or-run.result.now (string_bytes c.loop-run.kept_lines) c.loop-run.rest.now c.split_line.result.1.now c.split_line.result.0.now c.loop-run.first c.split_line.ensures.lines) ∙ c.loop-run.invariant.1))

pub returns : goal.returns
returns c =
    let none : length c.loop-run.rest.now ≡ 0 = grind (arith, nat_tests) in
    c.from_string.ensures ∙ sym (kept_end c.unwrap_or-run.result.now (string_bytes c.loop-run.kept_lines) c.loop-run.rest.now c.loop-run.first none) ∙ c.loop-run.invariant.1
