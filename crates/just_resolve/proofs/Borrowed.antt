-- Settings of a module, by what is borrowed of it.
use Rattle.std.proofs.Common.{◌≡◌, ℕ, List, String, subst}
use Rattle.std.specs.BTreeMap.{BTreeMap}
use Rattle.evaluate_context.specs.declared.settings.Settings.{Settings}
use Rattle.just_value.specs.Frames.{Frames}
use Rattle.modules_compilation.specs.declared.compilation.Compilation.{Compilation}
use Rattle.modules_compilation.specs.declared.place.Place.{Place}
use Rattle.resolve_analysis.specs.declared.module_lists.ModuleLists.{ModuleLists}
use Rattle.resolve_analysis.specs.declared.module_reads.ModuleReads.{ModuleReads}
use Rattle.just_resolve.specs.Settling.{AreSettled, AreUnsettled}
use Rattle.just_resolve.specs.declared.error.Error.{Error}

module _ {A : Type 0} (compilation : Compilation) (overrides : BTreeMap ℕ (String A)) (constants : Frames) (lists : ModuleLists) (reads : ModuleReads) (sets : List Place) (order : List ℕ) (sets_lent : List Place) (order_lent : List ℕ) (one : sets_lent ≡ sets) (two : order_lent ≡ order) where
  pub at_module : {settings : Settings} → AreSettled constants overrides compilation sets_lent lists reads order_lent settings → AreSettled constants overrides compilation sets lists reads order settings
  at_module {settings} so = subst (λ o. AreSettled constants overrides compilation sets lists reads o settings) two (subst (λ s. AreSettled constants overrides compilation s lists reads order_lent settings) one so)

  pub not_at_module : {error : Error} → AreUnsettled constants overrides compilation sets_lent lists reads order_lent error → AreUnsettled constants overrides compilation sets lists reads order error
  not_at_module {error} so = subst (λ o. AreUnsettled constants overrides compilation sets lists reads o error) two (subst (λ s. AreUnsettled constants overrides compilation s lists reads order_lent error) one so)
