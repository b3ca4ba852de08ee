-- A text that is given for no variable.
use Rattle.std.proofs.Common.{List, map, refl, subst, sym}
use Rattle.std.specs.Prelude.{Contains}
use Rattle.just_value.specs.declared.positional.Override.{Override}
use Rattle.modules_compilation.specs.declared.compilation.Compilation.{Compilation}
use Rattle.meaning_rules.specs.Worlds.Given.{World}
use Rattle.meaning_rules.proofs.Worlds.Places.{contains_at, place_of}
use Rattle.laws_modules.proofs.Names.Found.{mapped}
use Rattle.meaning_rules.specs.Rules.{unknown_override}
use Rattle.meaning_rules.specs.Overrides.{overrides_of}
use Rattle.laws_names.specs.Reading.Meant.{IsNumberedWorld}
use Rattle.just_resolve.specs.Overrides.{IsGivenForNone}
use Rattle.just_resolve.specs.Rules.{IsNamed}
use Rattle.just_resolve.specs.declared.error.Error.{Error}
use Rattle.just_resolve.proofs.Laws.{Laws}

-- the name of a word is one of those that are overridden
written : (words : List Override) (given : Override) → Contains words given → Contains (map (λ p. p.0) (overrides_of words)) given.name
written words given h =
    let at = place_of words given h in
    let pairs = overrides_of words in
    contains_at (map (λ p. p.0) pairs) at.0 given.name (mapped (λ p. p.0) pairs at.0 (given.name, given.value) (mapped (λ (g : Override). (g.name, g.value)) words at.0 given at.1))

-- the rule on unknown overrides is broken
pub override_named : Laws → (w : World) (compilation : Compilation) → IsNumberedWorld w compilation → (words : List Override) (error : Error) → IsGivenForNone compilation words error → IsNamed w (overrides_of words) error
override_named laws w compilation is words error refused =
    subst (IsNamed w (overrides_of words)) (sym refused.tells)
    (unknown_override refused.one.name, refl, laws.unnamed_overrides w compilation is.of is.single (overrides_of words) refused.one.name (written words refused.one refused.listed) refused.unknown)
