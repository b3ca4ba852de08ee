-- The texts that words give for variables of a compilation, and the overrides of a world that the compilation stands for.
use Rattle.std.specs.Prelude.{List, map}
use Rattle.just_value.specs.declared.positional.Override.{Override}
use Rattle.meaning_rules.specs.Worlds.Given.{Overrides}

-- overrides as they are written, and their texts
abbrev pub overrides_of : List Override → Overrides
overrides_of words = map (λ given. (given.name, given.value)) words
