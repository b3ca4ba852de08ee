-- A parameter more.
use Rattle.std.proofs.Common.{map, ap, ◌∙◌}
use Rattle.analyze_words.specs.Worded.{slot_of}
use Rattle.justfile_analyzer.specs.MenusOf.{slot_row}
use Rattle.justfile_analyzer.proofs.MenuRows.{row_more}
use Rattle.justfile_analyzer.proofs.names.slots.Goals as goal

pub loop-parameter-preserved : goal.loop-parameter-preserved
loop-parameter-preserved c =
    ap (map slot_of) c.in_ok-push.ensures.items ∙ row_more slot_of slot_row c.loop-parameter.slots.items c.args.parameters.now c.loop-parameter.parameter-index c.parameter-item.result c.slot.result c.loop-parameter-test.true c.parameter-item.is c.loop-parameter.invariant c.slot.ensures
