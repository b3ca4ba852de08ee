use Rattle.laws_names.proofs.Constants.Broken.{constants_are_told}
use Rattle.laws_names.proofs.law.constants.constants_are_told.Goals as goal

pub returns : goal.returns
returns c = constants_are_told c.args.overrides.now
