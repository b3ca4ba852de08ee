use Rattle.laws_modules.proofs.Submodules.Files.{found_are_submodules}
use Rattle.laws_modules.proofs.law.submodules.found_are_submodules.Goals as goal

pub returns : goal.returns
returns c = found_are_submodules c.args.sources.now
