-- What is defined by name in a world is one.
use Rattle.std.specs.Prelude.{◌≡◌}
use Rattle.meaning_rules.specs.Worlds.Given.{Text, World, Overrides}
use Rattle.meaning_evaluation.specs.Named.{Definitions}
use Rattle.just_meaning.specs.Defining.{AreDefined}

-- definitions that are what is defined by name in one world, with the same overrides and folders, are the same
abbrev pub DefinitionsAreOne : Type 0
DefinitionsAreOne = (w : World) (o : Overrides) (base working : Text) (defined other : Definitions) → AreDefined w o base working defined → AreDefined w o base working other → defined ≡ other
