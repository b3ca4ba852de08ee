-- What is known of a justfile with all its modules, and why one can't be resolved.
use Rattle.std.specs.Prelude.{◌≡◌, ℕ, List, String}
use Rattle.std.specs.BTreeMap.{BTreeMap}
use Rattle.std.specs.Global.{Global}
use Rattle.just_value.specs.declared.positional.Override.{Override}
use Rattle.modules_compilation.specs.declared.compilation.Compilation.{Compilation}
use Rattle.resolve_analysis.specs.declared.analysis.Analysis.{Analysis}
use Rattle.resolve_analysis.specs.declared.known_values.KnownValues.{KnownValues}
use Rattle.resolve_analysis.specs.declared.variables.ModuleVariables.{ModuleVariables}
use Rattle.just_resolve.specs.Overrides.{AreGiven, IsGivenForNone}
use Rattle.just_resolve.specs.Settling.{AreKnown, AreUnknown}
use Rattle.just_resolve.specs.Table.{IsTable, IsTableRefused}
use Rattle.just_resolve.specs.Variables.{AreVariables, AreVariablesRefused}
use Rattle.just_resolve.specs.declared.error.Error.{Error}

module _ (compilation : Compilation) where
  -- what is known of variables and settings, where these texts are given for variables
  pub record IsKnown {A : Type 0} (overrides : BTreeMap ℕ (String A)) (base : List ℕ) (variables : ModuleVariables) (known : KnownValues) : Type 0 where
    pub variables_are : AreVariables overrides compilation variables
    pub values_are : AreKnown compilation variables.lists.items variables.reads.items variables.orders.items overrides base known

  -- of the modules, their variables, their settings and their recipes, where words give these texts
  pub record IsAnalysis (base : List ℕ) (given : List Override) (analysis : Analysis) : Type 0 where
    pub modules_are : analysis.modules.now ≡ compilation.modules.items
    pub texts_are : AreGiven compilation given analysis.values.value.overrides
    pub is_known : IsKnown analysis.values.value.overrides base analysis.variables analysis.values.value
    pub recipes_are : IsTable compilation analysis.variables.reads.items analysis.table.value

  module _ {A : Type 0} (overrides : BTreeMap ℕ (String A)) where
    -- variables, settings or recipes are refused, where these texts are given for variables
    pub data IsRefusedWith (error : Error) : Type 0 where
      variable : AreVariablesRefused overrides compilation error → IsRefusedWith error
      setting : (variables : ModuleVariables) → AreVariables overrides compilation variables → AreUnknown compilation variables.lists.items variables.reads.items variables.orders.items overrides error → IsRefusedWith error
      recipe : (variables : ModuleVariables) → AreVariables overrides compilation variables → IsTableRefused compilation variables.reads.items error → IsRefusedWith error

  -- a word gives a text for no variable, or the justfile is refused with the texts that are given
  pub data IsRefused (given : List Override) (error : Error) : Type 0 where
    override : IsGivenForNone compilation given error → IsRefused given error
    others : (overrides : BTreeMap ℕ (String Global)) → AreGiven compilation given overrides → IsRefusedWith overrides error → IsRefused given error
