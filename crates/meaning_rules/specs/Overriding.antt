-- Which variables overrides name, and which of them counts.
use Rattle.std.specs.Prelude.{◌≡◌, ℕ, ◌≤◌, List, [], ◌∷◌, ◌++◌, Some, slice_get}
use Rattle.modules_compilation.specs.Modulepaths.{pieces}
use Rattle.meaning_rules.specs.Worlds.Given.{Text, World, Overrides}
use Rattle.meaning_rules.specs.Worlds.Keeping.{a_variable, IsDefined}
use Rattle.meaning_rules.specs.Worlds.Modules.{IsModule}

module _ (w : World) where
  -- An override names a variable of the module at a path, by its name after the module's. (Two modules of one file have variables of their own.)
  pub record IsOverridden (written : Text) (path : List Text) (own name : Text) : Type 0 where
    pub cut : pieces written ≡ path ++ name ∷ []
    pub is : IsModule w path own
    pub there : IsDefined w own a_variable name

  -- the last override that names the variable gives it this text
  pub record IsOverriddenBy (overrides : Overrides) (path : List Text) (own name text : Text) : Type 0 where
    pub at : ℕ
    pub written : Text
    pub found : slice_get overrides at ≡ Some (written, text)
    pub names : IsOverridden written path own name
    pub last : (at' : ℕ) (other : Text × Text) → slice_get overrides at' ≡ Some other → IsOverridden other.0 path own name → at' ≤ at
