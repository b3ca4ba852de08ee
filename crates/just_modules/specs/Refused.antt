-- Why justfiles are refused as they are compiled.
use Rattle.std.specs.Prelude.{◌⊎◌, ℕ, Bool, List}
use Rattle.std.specs.BTreeMap.{BTreeMap}
use Rattle.std.specs.declared.string.String.{String}
use Rattle.just_text.specs.Numbers.{Numbers}
use Rattle.just_text.specs.declared.os.Os.{Os}
use Rattle.parse_expressions.specs.Literals.{Expansion}
use Rattle.semver.specs.declared.Version.{Version}
use Rattle.modules_compilation.specs.declared.compilation.Compilation.{Compilation}
use Rattle.modules_compilation.specs.declared.error.Error.{Error}
use Rattle.modules_sources.specs.Loaded.{AreLoaded, IsRefused as IsLoadingRefused}
use Rattle.resolve_recipes.specs.Named.{AllByName}
use Rattle.just_modules.specs.Aliases.{IsAliasUnknown}
use Rattle.just_modules.specs.Keeping.{AreFilled, IsFirstRefused}

module _ (os : Os) (unstable : Bool) where
  -- a module that was loaded breaks a rule, or none does, and an alias that is kept stands for nothing
  abbrev pub IsUnsettled : Compilation → Error → Type 0
  IsUnsettled loaded error = IsFirstRefused os unstable loaded error ⊎ ((filled : Compilation) × AreFilled os unstable loaded filled × (AllByName filled → IsAliasUnknown filled error))

  -- the justfile is refused as it is loaded, or it is loaded and refused by what its modules define
  pub data IsRefused {Y Z : Type 0} (sources : BTreeMap (String Y) (String Z)) (expansion : Expansion) (version : Version) (start : Numbers) (is_read : Bool) (root : List ℕ) (error : Error) : Type 0 where
    loading_refused : IsLoadingRefused sources expansion version os start is_read root error → IsRefused sources expansion version start is_read root error
    module_refused : (loaded : Compilation) → AreLoaded sources expansion version os start is_read root loaded → IsFirstRefused os unstable loaded error → IsRefused sources expansion version start is_read root error
    alias_refused : (loaded filled : Compilation) → AreLoaded sources expansion version os start is_read root loaded → AreFilled os unstable loaded filled → IsAliasUnknown filled error → IsRefused sources expansion version start is_read root error
