-- There is no module, it doesn't open, or it opens after the others.
use Rattle.std.proofs.Common.{rules, ◌≡◌, ◌<◌, ◌≤◌, ◌++◌, ◌∷◌, [], length, refl}
use Rattle.std.proofs.lemmas.Result.{err_from_is_err_and}
use Rattle.analyze_calls.specs.Opening.{opened_rows}
use Rattle.analyze_calls.proofs.Beginnings.{begins_here, begins_nowhere}
use Rattle.analyze_calls.proofs.Openings.{opens_nowhere, opens_here, ended_here}
use Rattle.analyze_calls.proofs.opening.push_opened.Goals as goal

pub returns-then-place-modules-clause-opens : goal.returns-then-place-modules-clause-opens
returns-then-place-modules-clause-opens g c =
    let past : length c.args.modules.now ≤ c.args.place = c.if-place-modules.true in
    opens_nowhere c.args.opening.now c.args.modules.now c.args.place (opened_rows c.args.opened.now.items) c.args.host.now.entries c.args.host.now.entries past

pub returns-in_err-open_module-clause-opens : goal.returns-in_err-open_module-clause-opens
returns-in_err-open_module-clause-opens g c =
    let past : c.args.place < length c.args.modules.now = c.if-place-modules.false in
    let p = err_from_is_err_and c.from_residual.result c.from_residual.ensures.1 in
    rw (p.1, p.2) (ended_here c.args.opening.now c.args.modules.now c.args.place (opened_rows c.args.opened.now.items) c.args.host.now.entries c.open_module.new.host.entries
    c.index-modules-place.result past c.index-modules-place.is c.in_err-open_module.field-0.0 c.in_err-open_module.ensures.opens)

pub returns-clause-opens : goal.returns-clause-opens
returns-clause-opens g c =
    let past : c.args.place < length c.args.modules.now = c.if-place-modules.false in
    let is : c.push.new.self.items ≡ c.args.opened.now.items ++ c.in_ok-open_module.field-0 ∷ [] = search rules in
    opens_here c.args.opening.now c.args.modules.now c.args.place (opened_rows c.args.opened.now.items) c.args.host.now.entries c.open_module.new.host.entries
    c.index-modules-place.result past c.index-modules-place.is c.args.opened.now.items c.push.new.self.items c.in_ok-open_module.field-0 is refl c.in_ok-open_module.ensures.opens

pub returns-then-place-modules-clause-begun : goal.returns-then-place-modules-clause-begun
returns-then-place-modules-clause-begun g c =
    let past : length c.args.modules.now ≤ c.args.place = c.if-place-modules.true in
    begins_nowhere c.args.opening.now c.args.modules.now c.args.place c.args.host.now.entries past

pub returns-in_err-open_module-clause-begun : goal.returns-in_err-open_module-clause-begun
returns-in_err-open_module-clause-begun g c =
    let past : c.args.place < length c.args.modules.now = c.if-place-modules.false in
    begins_here c.args.opening.now c.args.modules.now c.args.place c.index-modules-place.result past c.index-modules-place.is c.args.host.now.entries c.open_module.new.host.entries c.in_err-open_module.ensures.begun

pub returns-in_err-push-clause-begun : goal.returns-in_err-push-clause-begun
returns-in_err-push-clause-begun g c =
    let past : c.args.place < length c.args.modules.now = c.if-place-modules.false in
    begins_here c.args.opening.now c.args.modules.now c.args.place c.index-modules-place.result past c.index-modules-place.is c.args.host.now.entries c.open_module.new.host.entries c.in_ok-open_module.ensures.begun

pub returns-clause-begun : goal.returns-clause-begun
returns-clause-begun g c =
    let past : c.args.place < length c.args.modules.now = c.if-place-modules.false in
    begins_here c.args.opening.now c.args.modules.now c.args.place c.index-modules-place.result past c.index-modules-place.is c.args.host.now.entries c.open_module.new.host.entries c.in_ok-open_module.ensures.begun
