use Rattle.laws_modules.proofs.Definitions.Listed.{lists_are_meant}
use Rattle.laws_modules.proofs.law.definitions.lists_are_meant.Goals as goal

pub returns : goal.returns
returns c w os files modules nodes k before after ds kept settled empty gains = lists_are_meant w os files modules nodes k before after ds kept settled empty gains
