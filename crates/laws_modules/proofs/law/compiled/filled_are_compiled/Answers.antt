use Rattle.laws_modules.proofs.Definitions.Inner.{submodules_are_meant}
use Rattle.laws_modules.proofs.Definitions.Listed.{lists_are_meant}
use Rattle.laws_modules.proofs.Compiled.Compiled.{filled_are_compiled}
use Rattle.laws_modules.proofs.law.compiled.filled_are_compiled.Goals as goal

pub returns : goal.returns
returns c = filled_are_compiled lists_are_meant submodules_are_meant
