-- From the defaults.
use Rattle.std.proofs.Common.{subst}
use Rattle.evaluate_context.specs.Refusals.{fault_of}
use Rattle.evaluate_variables.specs.Settled.{reading_in}
use Rattle.just_resolve.specs.Settling.{AreNotSet, AreSet, sets_at}
use Rattle.just_resolve.proofs.settled.settings_at.Goals as goal

pub returns-in-Ok-clause-set : goal.returns-in-Ok-clause-set
returns-in-Ok-clause-set c =
    let known = c.args.known.now in
    subst (λ s. AreSet (reading_in known) known.lists (sets_at c.args.compilation.now c.args.sets.now) s c.set_all.new.settings) c.new-settings.ensures c.in-Ok.ensures.set

pub returns-in-Err-clause-refused : goal.returns-in-Err-clause-refused
returns-in-Err-clause-refused c some =
    let known = c.args.known.now in
    subst (λ s. AreNotSet (reading_in known) known.lists (sets_at c.args.compilation.now c.args.sets.now) s (fault_of c.in-Err.error)) c.new-settings.ensures (c.in-Err.ensures.refused some)
