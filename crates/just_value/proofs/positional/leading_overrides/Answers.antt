use Rattle.std.proofs.Common.{arith, ap, sym, ◌∙◌}
use Rattle.std.specs.String.{string_bytes}
use Rattle.just_value.proofs.Cuts.{overrides_go_on}
use Rattle.just_value.proofs.positional.leading_overrides.Goals as goal

pub loop-word-preserved : goal.loop-word-preserved
loop-word-preserved c =
    overrides_go_on string_bytes c.args.values.now c.loop-word.word-index c.word-item.result c.as_str.result.now c.loop-word.overrides.items c.push.new.self.items _ c.in-Some.found
    (omega arith)
    (c.as_str.ensures.value ∙ ap string_bytes c.word-item.is)
    (sym c.in-Some.is ∙ c.in_ok-found.ensures)
    c.in_ok-push-in-Some.ensures.items
    c.loop-word.invariant
