use Rattle.laws_names.proofs.Constants.Broken.{settings_answer}
use Rattle.laws_names.proofs.law.constants.settings_answer.Goals as goal

pub returns : goal.returns
returns c = settings_answer c.args.overrides.now
