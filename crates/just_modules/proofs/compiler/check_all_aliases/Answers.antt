-- A module more.
use Rattle.std.proofs.Common.{◌<◌, ◌≤◌, length, get_or, ap, subst, ◌∙◌, arith}
use Rattle.std.proofs.lemmas.Option.{slice_get-get_or}
use Rattle.resolve_recipes.specs.Named.{AllByName}
use Rattle.just_modules.specs.Aliases.{AllLead, IsUnknownAmong}
use Rattle.just_modules.specs.Keeping.{OrMemory}
use Rattle.just_modules.proofs.Aliases.{alias_unknown, hold_all, hold_further}
use Rattle.just_modules.proofs.compiler.check_all_aliases.Goals as goal

pub loop-module-init : goal.loop-module-init
loop-module-init c = λ all k other lt. absurd (omega (arith, lt))

pub loop-module-preserved : goal.loop-module-preserved
loop-module-preserved c = λ ok.
    let compilation = c.args.compilation.now in
    let place = c.loop-module.module in
    let node = c.index-modules-module.result in
    let all = c.as_slice-modules.ensures.value in
    let clear = subst (AllLead compilation place) (c.as_slice.ensures.value ∙ ap (λ ms. (get_or ms place node).aliases.items) all) (c.in-Ok.ensures.clear ok) in
    hold_further (λ k other. AllLead compilation k other.aliases.items) compilation.modules.items place node (subst (λ ms. place < length ms) all c.loop-module-test.true) (c.loop-module.invariant ok) clear

pub returns-in-Err-clause-refused : goal.returns-in-Err-clause-refused
returns-in-Err-clause-refused c =
    let compilation = c.args.compilation.now in
    let place = c.loop-module.module in
    let node = c.index-modules-module.result in
    let all = c.as_slice-modules.ensures.value in
    let refused = subst (λ items. OrMemory (λ e. AllByName compilation → IsUnknownAmong compilation place items e) c.in-Err.refusal) (c.as_slice.ensures.value ∙ ap (λ ms. (get_or ms place node).aliases.items) all) c.in-Err.ensures.refused in
    alias_unknown compilation place (get_or compilation.modules.items place node) c.in-Err.refusal (slice_get-get_or compilation.modules.items place node (subst (λ ms. place < length ms) all c.loop-module-test.true)) c.loop-module.invariant refused

pub returns-clause-clear : goal.returns-clause-clear
returns-clause-clear c = λ ok.
    let compilation = c.args.compilation.now in
    hold_all (λ k other. AllLead compilation k other.aliases.items) compilation.modules.items c.loop-module.module (subst (λ ms. length ms ≤ c.loop-module.module) c.as_slice-modules.ensures.value c.loop-module-test.false) (c.loop-module.invariant ok)
