-- What is wrong with the line at the place, or that nothing is.
use Rattle.just_modules.proofs.Outcomes.{ok_gives, err_gives, turned}
use Rattle.just_modules.proofs.BodyLines.{place_is_clear, place_breaks}
use Rattle.just_modules.proofs.rules.check_place.Goals as goal

pub returns-clause-clear : goal.returns-clause-clear
returns-clause-clear c = ok_gives c.check_line.result c.check_line.ensures.clear (place_is_clear c.args.guards c.args.body.now c.args.place c.index-body-place.result c.requires c.index-body-place.is)

pub returns-clause-broken : goal.returns-clause-broken
returns-clause-broken c =
    let own = turned _ _ c.is_own_line.ensures c.if-not-is_own_line.false in
    err_gives c.check_line.result c.check_line.ensures.broken (λ e (kind, names, b). (kind, names, place_breaks c.args.guards c.args.body.now c.args.place c.index-body-place.result c.requires c.index-body-place.is own kind b))
