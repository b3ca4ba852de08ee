use Rattle.just_host.specs.Steps.{then}
use Rattle.unit_tests.proofs.records.ask_all.Goals as goal

pub returns-clause-followed : goal.returns-clause-followed
returns-clause-followed g c =
    let join = then _ g.met.H.Host.joins in
    join _ _ _ _ _ (join _ _ _ _ _ (join _ _ _ _ _ (join _ _ _ _ _ (join _ _ _ _ _ c.ask-asked.ensures.followed c.line-line.ensures.followed) c.script-script.ensures.followed) c.confirm-confirm.ensures.followed) c.show.ensures.followed) c.dotenv-dotenv.ensures.followed
