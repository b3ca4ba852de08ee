use Rattle.laws_names.proofs.Constants.Settings.{set_ones_answer}
use Rattle.laws_names.proofs.law.constants.set_ones_answer.Goals as goal

pub returns : goal.returns
returns c = set_ones_answer
