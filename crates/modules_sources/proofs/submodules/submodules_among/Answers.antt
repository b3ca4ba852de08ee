-- One item more, or its refusal.
use Rattle.std.proofs.Common.{map, subst, take_all}
use Rattle.std.proofs.lemmas.Result.{err_from_is_err_and}
use Rattle.modules_sources.specs.Submodules.{AreFound, found_none, found_view}
use Rattle.modules_sources.proofs.Gathering.{found_further, refused_further}
use Rattle.modules_sources.proofs.submodules.submodules_among.Goals as goal

pub loop-place-init : goal.loop-place-init
loop-place-init c = rw c.new-found.ensures.items found_none

pub loop-place-preserved : goal.loop-place-preserved
loop-place-preserved c =
    found_further c.args.files.now c.args.os c.args.key.now c.args.items.now c.loop-place.place c.index-items-place.result (map found_view c.loop-place.found.items) (map found_view c.add_submodule.new.found.items) c.loop-place-test.true
    c.index-items-place.is c.loop-place.invariant c.in_ok-add_submodule.ensures.found

pub returns-in_err-add_submodule-clause-refused : goal.returns-in_err-add_submodule-clause-refused
returns-in_err-add_submodule-clause-refused c =
    let p = err_from_is_err_and c.from_residual.result c.from_residual.ensures.1 in
    rw (p.1, p.2) (λ n. refused_further c.args.files.now c.args.os c.args.key.now c.args.items.now c.loop-place.place c.index-items-place.result (map found_view c.loop-place.found.items) c.in_err-add_submodule.field-0.0 c.loop-place-test.true
    c.index-items-place.is c.loop-place.invariant (c.in_err-add_submodule.ensures.refused n))

pub returns-clause-found : goal.returns-clause-found
returns-clause-found c =
    subst (λ items. AreFound c.args.files.now c.args.os c.args.key.now items (map found_view c.loop-place.found.items)) (take_all c.loop-place.place c.args.items.now c.loop-place-test.false) c.loop-place.invariant
