-- Its variables are evaluated, or one has no value.
use Rattle.std.proofs.Common.{rules, ◌≡◌, None}
use Rattle.std.specs.Prelude.{if◌then◌else◌}
use Rattle.analyze_calls.proofs.Beginnings.{fills_begin}
use Rattle.analyze_calls.proofs.Openings.{fills, fills_not}
use Rattle.analyze_calls.proofs.opening.fill.Goals as goal

pub returns-in-Ok-clause-fills : goal.returns-in-Ok-clause-fills
returns-in-Ok-clause-fills g c = λ pairs is own_is outer_is.
    let wanted_is : c.if-module.wanted ≡ (if c.args.module.now.settings.now.lazy then c.args.opening.now.wanted else None) = search rules in
    fills c.args.opening.now c.args.module.now pairs c.context-context.result (c.context-context.ensures.context pairs is) c.if-module.wanted wanted_is c.args.scope.now own_is outer_is
    c.args.host.now.entries c.open_assignments.new.host.entries c.open_assignments.new.scope.own (c.in-Ok.ensures.opens (λ e. cc))

pub returns-in-Err-clause-fills : goal.returns-in-Err-clause-fills
returns-in-Err-clause-fills g c = λ pairs is own_is outer_is.
    let wanted_is : c.if-module.wanted ≡ (if c.args.module.now.settings.now.lazy then c.args.opening.now.wanted else None) = search rules in
    fills_not c.args.opening.now c.args.module.now pairs c.context-context.result (c.context-context.ensures.context pairs is) c.if-module.wanted wanted_is c.args.scope.now own_is outer_is
    c.args.host.now.entries c.open_assignments.new.host.entries c.open_assignments.new.scope.own c.in-Err.error c.from.result c.from.ensures (λ n. c.in-Err.ensures.opens (λ e. n (cc)))

pub returns-in-Ok-clause-begun : goal.returns-in-Ok-clause-begun
returns-in-Ok-clause-begun g c = λ pairs is own_is outer_is.
    let wanted_is : c.if-module.wanted ≡ (if c.args.module.now.settings.now.lazy then c.args.opening.now.wanted else None) = search rules in
    fills_begin c.args.opening.now c.args.module.now pairs c.context-context.result (c.context-context.ensures.context pairs is) c.if-module.wanted wanted_is c.args.scope.now own_is outer_is
    c.args.host.now.entries c.open_assignments.new.host.entries c.in-Ok.ensures.begun

pub returns-in-Err-clause-begun : goal.returns-in-Err-clause-begun
returns-in-Err-clause-begun g c = λ pairs is own_is outer_is.
    let wanted_is : c.if-module.wanted ≡ (if c.args.module.now.settings.now.lazy then c.args.opening.now.wanted else None) = search rules in
    fills_begin c.args.opening.now c.args.module.now pairs c.context-context.result (c.context-context.ensures.context pairs is) c.if-module.wanted wanted_is c.args.scope.now own_is outer_is
    c.args.host.now.entries c.open_assignments.new.host.entries c.in-Err.ensures.begun
