-- The number's row is at the place that the search finds, or nowhere.
use Rattle.std.proofs.Common.{subst, sym, ◌∙◌}
use Rattle.just_value.specs.Frames.{ByNumber}
use Rattle.just_value.proofs.Numbered.{found, missing, row_read}
use Rattle.just_value.proofs.frame.Frame.binding.Goals as goal

pub returns-in-Ok : goal.returns-in-Ok
returns-in-Ok c =
    row_read c.self.inside.bindings c.args.self.now c.self.view_is c.in-Ok.place c.args.number c.get.result.now c.in-Ok.ensures.place c.get.ensures
    ∙ sym (found c.args.self.now c.args.number c.in-Ok.place (subst ByNumber c.self.view_is c.self.invariant) c.in-Ok.ensures.place)

pub returns-in-Err : goal.returns-in-Err
returns-in-Err c = sym (missing c.args.self.now c.args.number c.in-Err.field-0 c.in-Err.ensures.place.1)
