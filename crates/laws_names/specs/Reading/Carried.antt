-- What a compilation stands for stays where its variables get their numbers.
use Rattle.modules_compilation.specs.declared.compilation.Compilation.{Compilation}
use Rattle.resolve_analysis.specs.Bound.{AreBound}
use Rattle.resolve_analysis.specs.Numbered.{IsNumbered}
use Rattle.meaning_rules.specs.Worlds.Given.{World}
use Rattle.laws_modules.specs.Names.Meant.{IsMeantWhole}
use Rattle.laws_names.specs.Reading.Meant.{IsNumberedWorld}

-- a compilation that stands for the modules of a world before its variables get their numbers does so after, with the numbers of its names
abbrev pub NumberedAreMeant : Type 0
NumberedAreMeant = (w : World) (before after : Compilation) → IsMeantWhole w before → IsNumbered before after → AreBound after → IsNumberedWorld w after
