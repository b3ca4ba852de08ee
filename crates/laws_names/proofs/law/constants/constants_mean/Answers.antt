use Rattle.laws_names.proofs.Constants.Variables.{constants_mean}
use Rattle.laws_names.proofs.law.constants.constants_mean.Goals as goal

pub returns : goal.returns
returns c = constants_mean c.args.overrides.now
