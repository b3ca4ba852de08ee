use Rattle.laws_runs.proofs.law.settings.settings_stand.Goals as goal
use Rattle.laws_runs.proofs.Settings.Stand.{settings_stand}

pub returns : goal.returns
returns c = settings_stand c.args.overrides.now
