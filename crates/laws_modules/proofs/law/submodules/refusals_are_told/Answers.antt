use Rattle.laws_modules.proofs.Submodules.Refusing.{refusals_are_told}
use Rattle.laws_modules.proofs.law.submodules.refusals_are_told.Goals as goal

pub returns : goal.returns
returns c = refusals_are_told c.args.sources.now
