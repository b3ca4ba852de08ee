-- Spaces and tabs are whole characters.
use Rattle.std.proofs.Common.{sym, ap, ◌∙◌}
use Rattle.tree_expressions.specs.Indentation.{is_indent}
use Rattle.std.specs.List.{prefix_len}
use Rattle.tree_expressions.proofs.Lines.{leading_boundary, leading_ascii, front_range}
use Rattle.tree_expressions.proofs.indentation.leading.Goals as goal

pub range-requires-clause-end_boundary : goal.range-requires-clause-end_boundary
range-requires-clause-end_boundary c =
    leading_boundary c.args.line.now c.leading_len.result c.utf8.line (sym (c.leading_len.ensures ∙ ap (prefix_len is_indent) c.as_bytes.ensures.value))

pub returns-clause-value : goal.returns-clause-value
returns-clause-value c = rw (c.range.ensures.value, c.leading_len.ensures, c.as_bytes.ensures.value) (front_range c.args.line.now (prefix_len is_indent c.args.line.now))

pub returns-clause-ascii : goal.returns-clause-ascii
returns-clause-ascii c =
    rw (c.range.ensures.value, c.leading_len.ensures, c.as_bytes.ensures.value, front_range c.args.line.now (prefix_len is_indent c.args.line.now)) (leading_ascii c.args.line.now)
