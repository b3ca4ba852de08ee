-- Worlds that break no rule.
use Rattle.meaning_rules.specs.Worlds.Given.{Overrides, Text, World}
use Rattle.meaning_evaluation.specs.Named.{Definitions}
use Rattle.just_meaning.specs.Defining.{AreDefined}
use Rattle.just_meaning.specs.Known.{AreInOrder, BreaksNoRule, HaveRows, IsRead}

-- a world that is read and breaks no rule, with what it defines
pub record IsClear (w : World) (o : Overrides) (base working : Text) (defined : Definitions) : Type 0 where
  pub none : BreaksNoRule w o
  pub read : IsRead w
  pub order : AreInOrder w
  pub are : AreDefined w o base working defined
  pub rows : HaveRows defined
