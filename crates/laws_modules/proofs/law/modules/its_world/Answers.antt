use Rattle.laws_modules.proofs.Files.Loaded.{loaded_are_files}
use Rattle.laws_modules.proofs.Submodules.Files.{found_are_submodules}
use Rattle.meaning_rules.proofs.Worlds.There.{worlds_are_there}
use Rattle.laws_modules.proofs.Modules.There.{world_is_there}
use Rattle.laws_modules.proofs.law.modules.its_world.Goals as goal

pub returns : goal.returns
returns c = world_is_there c.args.sources.now (loaded_are_files c.args.sources.now) (found_are_submodules c.args.sources.now) worlds_are_there
