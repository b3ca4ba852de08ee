-- The laws on names by which resolving is judged.
use Rattle.std.specs.Prelude.{ℕ, String}
use Rattle.std.specs.BTreeMap.{BTreeMap}
use Rattle.laws_names.specs.Overriding.Texts.{NamedOverridesAreKnown, UnnamedOverridesAreUnknown}
use Rattle.laws_names.specs.Reading.Clear.{ReadsAreClear}
use Rattle.laws_names.specs.Reading.Cycles.{CyclesAreBroken, OrdersHaveNoCycle}
use Rattle.laws_names.specs.Reading.Parts.{RecipeReferencesAreSeen, SettingReferencesAreSeen}
use Rattle.laws_names.specs.Reading.Told.{ReadsAreTold, RefusalsAreTold}
use Rattle.laws_names.specs.Depending.Cycles.{CyclesAreClear, CyclesAreTold}
use Rattle.laws_names.specs.Depending.Dependencies.{AliasesAreTold, DependenciesAreClear, DisabledDependenciesAreTold, KeptDependenciesAreTold}
use Rattle.laws_names.specs.Constants.Broken.{FoundConstantsAreTold}
use Rattle.laws_names.specs.Constants.Lists.{ListsAreSaid}

-- a broken rule is named where words, variables, settings, recipes or aliases are refused, and none is broken where they are not
pub record Laws : Type 1 where
  pub unnamed_overrides : UnnamedOverridesAreUnknown
  pub named_overrides : NamedOverridesAreKnown
  pub refusals : RefusalsAreTold
  pub reads : ReadsAreTold
  pub clear_reads : ReadsAreClear
  pub variable_cycles : CyclesAreBroken
  pub variable_orders : OrdersHaveNoCycle
  pub setting_references : SettingReferencesAreSeen
  pub recipe_references : RecipeReferencesAreSeen
  pub disabled_dependencies : DisabledDependenciesAreTold
  pub kept_dependencies : KeptDependenciesAreTold
  pub clear_dependencies : DependenciesAreClear
  pub recipe_cycles : CyclesAreTold
  pub clear_recipe_cycles : CyclesAreClear
  pub aliases : AliasesAreTold
  pub lists : ListsAreSaid
  pub constants : {A : Type 0} (overrides : BTreeMap ℕ (String A)) → FoundConstantsAreTold overrides
