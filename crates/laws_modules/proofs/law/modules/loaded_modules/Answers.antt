use Rattle.laws_modules.proofs.Files.Loaded.{loaded_are_files}
use Rattle.laws_modules.proofs.Submodules.Files.{found_are_submodules}
use Rattle.laws_modules.proofs.Modules.Loaded.{all_said, loaded_are_modules}
use Rattle.laws_modules.proofs.law.modules.loaded_modules.Goals as goal

pub returns-clause-modules : goal.returns-clause-modules
returns-clause-modules c w compilation h = loaded_are_modules c.args.sources.now (loaded_are_files c.args.sources.now) (found_are_submodules c.args.sources.now) w compilation h

pub returns-clause-said : goal.returns-clause-said
returns-clause-said c w compilation h = all_said c.args.sources.now (loaded_are_files c.args.sources.now) (found_are_submodules c.args.sources.now) w compilation h
