-- Nothing is taken at first.
use Rattle.std.proofs.Common.{◌∙◌, ap, refl, arith}
use Rattle.std.specs.List.{position}
use Rattle.analyze_words.specs.Menus.{has_long, has_short}
use Rattle.analyze_words.specs.Takings.{ArePlaces}
use Rattle.analyze_words.proofs.Taken.{next_first, nothing_taken}
use Rattle.analyze_words.proofs.taking.Taking.new.Goals as goal

pub returns : goal.returns
returns c = λ words.
    let slots = c.args.callable.now.slots in
    let first = c.positional_from.ensures in
    let places : ArePlaces slots.items c.in_ok-of.field-0 = record {
      long = λ name. c.in_ok-of.ensures.long name ∙ ap (position (has_long name.now)) c.as_slice.ensures.value;
      short = λ name. c.in_ok-of.ensures.short name ∙ ap (position (has_short name)) c.as_slice.ensures.value;
    } in
    nothing_taken slots.items _ _ words c.has_options.ensures (omega (arith, slots.ok.0)) c.in_ok-empty_groups.ensures (next_first slots.items c.positional_from.result first.within first.before first.found) refl places
