-- By the constants that are known.
use Rattle.std.proofs.Common.{◌≢◌, Ok, subst}
use Rattle.std.specs.BTreeSet.{contains}
use Rattle.std.specs.Ordering.{nat_cmp}
use Rattle.std.proofs.lemmas.Result.{IfErr-weaker, IfOk-weaker}
use Rattle.evaluate_context.specs.Defaults.{defaults}
use Rattle.evaluate_context.specs.Refusals.{fault_of}
use Rattle.evaluate_variables.specs.Opened.{ordered}
use Rattle.evaluate_variables.specs.Settled.{FindsConstants, reading_in}
use Rattle.meaning_dialogues.specs.Faults.{memory}
use Rattle.just_resolve.specs.Settling.{AreNotSet, AreSet, AreSettledBy, AreUnsettledBy, set_lists, setting, sets_at}
use Rattle.just_resolve.proofs.settled.known_settings.Goals as goal

pub returns-clause-settled : goal.returns-clause-settled
returns-clause-settled c =
    let known = c.in_ok-known.known in
    let sets = sets_at c.args.compilation.now c.args.sets.now in
    let found : FindsConstants (set_lists c.args.compilation.now c.args.sets.now) c.args.constants.now c.args.overrides.now (contains nat_cmp c.args.numbers.now) (ordered c.args.assignments.now c.args.order.now) (Ok known) =
    subst (λ b. FindsConstants b c.args.constants.now c.args.overrides.now (contains nat_cmp c.args.numbers.now) (ordered c.args.assignments.now c.args.order.now) (Ok known)) c.sets_lists-lists.ensures c.in_ok-known.ensures.finds in
    IfOk-weaker c.settings_at.result (λ settings. AreSet (reading_in known) known.lists sets defaults settings)
    (λ settings. AreSettledBy c.args.constants.now c.args.overrides.now c.args.compilation.now c.args.sets.now c.args.assignments.now c.args.order.now c.args.numbers.now settings)
    (λ settings set. record { known = known; found = found; set = set })
    c.settings_at.ensures.set

pub returns-clause-refused : goal.returns-clause-refused
returns-clause-refused c =
    let known = c.in_ok-known.known in
    let sets = sets_at c.args.compilation.now c.args.sets.now in
    let found : FindsConstants (set_lists c.args.compilation.now c.args.sets.now) c.args.constants.now c.args.overrides.now (contains nat_cmp c.args.numbers.now) (ordered c.args.assignments.now c.args.order.now) (Ok known) =
    subst (λ b. FindsConstants b c.args.constants.now c.args.overrides.now (contains nat_cmp c.args.numbers.now) (ordered c.args.assignments.now c.args.order.now) (Ok known)) c.sets_lists-lists.ensures c.in_ok-known.ensures.finds in
    IfErr-weaker c.settings_at.result (λ error. fault_of error ≢ memory → AreNotSet (reading_in known) known.lists sets defaults (fault_of error))
    (λ error. fault_of error ≢ memory → AreUnsettledBy c.args.constants.now c.args.overrides.now c.args.compilation.now c.args.sets.now c.args.assignments.now c.args.order.now c.args.numbers.now (fault_of error))
    (λ error refused some. setting known found (refused some))
    c.settings_at.ensures.refused
