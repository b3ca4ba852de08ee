-- What is shared is the front of both.
use Rattle.std.proofs.Common.{◌==◌, ◌∙◌}
use Rattle.std.proofs.lemmas.Str.{IsCharBoundary-from_ascii}
use Rattle.std.proofs.lemmas.List.Sums.{common_prefix_len-le}
use Rattle.tree_expressions.specs.Indentation.{leading}
use Rattle.tree_expressions.proofs.Lines.{shared_of, front_range}
use Rattle.tree_expressions.proofs.indentation.shared.Goals as goal

pub range-requires-clause-end_boundary : goal.range-requires-clause-end_boundary
range-requires-clause-end_boundary c =
    let le = common_prefix_len-le (λ a b. a == b) c.as_bytes.result.now c.as_bytes-2.result.now in
    IsCharBoundary-from_ascii c.leading-leading.result.now c.shared_len-length.result c.leading-leading.ensures.ascii
    (rw (c.shared_len-length.ensures, ← c.as_bytes-2.ensures.value) le.1)

pub returns : goal.returns
returns c =
    rw (c.range.ensures.value, c.shared_len-length.ensures, c.as_bytes.ensures.value, c.as_bytes-2.ensures.value, c.leading-leading.ensures.value)
    (front_range _ _ ∙ shared_of c.args.run.now (leading c.args.line.now))
