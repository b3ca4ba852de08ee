use Rattle.laws_names.proofs.Constants.Settings.{refused_ones_lack}
use Rattle.laws_names.proofs.law.constants.refused_ones_lack.Goals as goal

pub returns : goal.returns
returns c = refused_ones_lack
