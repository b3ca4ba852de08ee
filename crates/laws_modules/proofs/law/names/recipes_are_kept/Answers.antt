use Rattle.laws_modules.proofs.Names.Named.{recipes_are_kept}
use Rattle.laws_modules.proofs.law.names.recipes_are_kept.Goals as goal

pub returns : goal.returns
returns c = recipes_are_kept
