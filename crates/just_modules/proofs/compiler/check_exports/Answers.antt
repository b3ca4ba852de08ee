-- This one is refused, or none of them.
use Rattle.std.proofs.Common.{refl, rules, inl, inr}
use Rattle.just_modules.specs.Exports.{is_refused}
use Rattle.just_modules.proofs.Exports.{found, goes_on, none_found, refused_is}
use Rattle.just_modules.proofs.compiler.check_exports.Goals as goal

pub returns-in_err-unexported-clause-broken : goal.returns-in_err-unexported-clause-broken
returns-in_err-unexported-clause-broken c = search (rules, inl)

pub returns-then-is_refused-clause-broken : goal.returns-then-is_refused-clause-broken
returns-then-is_refused-clause-broken c =
    let files = c.args.files.now in
    let ds = c.args.definitions.now in
    let d = c.definition-item.result in
    inr (d, found (is_refused files ds) ds c.loop-definition.definition-index d c.loop-definition.invariant c.loop-definition-test.true c.definition-item.is (refused_is files ds c.in_ok-unexported.unexported d _ _ c.in_ok-unexported.ensures c.is_refused.ensures c.if-is_refused.true), refl)

pub loop-definition-preserved : goal.loop-definition-preserved
loop-definition-preserved c =
    let files = c.args.files.now in
    let ds = c.args.definitions.now in
    let d = c.definition-item.result in
    goes_on (is_refused files ds) ds c.loop-definition.definition-index d c.loop-definition.invariant c.loop-definition-test.true c.definition-item.is (refused_is files ds c.in_ok-unexported.unexported d _ _ c.in_ok-unexported.ensures c.is_refused.ensures c.if-is_refused.false)

pub returns-clause-clear : goal.returns-clause-clear
returns-clause-clear c = none_found (is_refused c.args.files.now c.args.definitions.now) c.args.definitions.now c.loop-definition.definition-index c.loop-definition.invariant c.loop-definition-test.false
