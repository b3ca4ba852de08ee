-- One constant more.
use Rattle.std.proofs.Common.{Some, arith, ap, get_or, ◌∙◌}
use Rattle.std.specs.Prelude.{if◌then◌else◌}
use Rattle.std.specs.Str.{bytes_eq}
use Rattle.tree_items.specs.Contexts.{number_in}
use Rattle.just_value.specs.Constants.{row_of}
use Rattle.just_value.proofs.ConstantsInFrame.{no_row}
use Rattle.resolve_analysis.proofs.Named.{constants_more}
use Rattle.resolve_analysis.proofs.numbers.constant_names.Goals as goal

pub loop-index-preserved : goal.loop-index-preserved
loop-index-preserved c = constants_more c.constants.result.now c.loop-index.index no_row c.loop-index.names c.set.new.self c.constants.ensures.rows (omega (arith, c.constants.ensures.count)) c.loop-index.invariant (λ other. c.in_ok-set.ensures other ∙ ap (λ n. if bytes_eq (row_of (get_or c.constants.result.now c.loop-index.index no_row)).0 other then Some n else number_in c.loop-index.names other) c.constant.ensures)
