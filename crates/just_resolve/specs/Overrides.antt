-- The texts that words give for variables, as they are answered.
use Rattle.std.specs.Prelude.{◌≡◌, ℕ, true, List, None, Contains, String}
use Rattle.std.specs.BTreeMap.{BTreeMap}
use Rattle.std.specs.List.{list_all}
use Rattle.just_value.specs.declared.positional.Override.{Override}
use Rattle.evaluate_variables.specs.Opened.{overridden}
use Rattle.modules_compilation.specs.declared.compilation.Compilation.{Compilation}
use Rattle.resolve_analysis.specs.Overriding.{is_named, number_of, text_given}
use Rattle.just_resolve.specs.declared.error.Error.{Error}
use Rattle.just_resolve.specs.declared.error.Error.TheVariants.{UnknownOverride}

module _ (compilation : Compilation) where
  -- each text is given for a variable, and each number has the text given last for its variable
  pub record AreGiven {A : Type 0} (given : List Override) (overrides : BTreeMap ℕ (String A)) : Type 0 where
    pub named : list_all (is_named compilation) given ≡ true
    pub texts : (number : ℕ) → overridden overrides number ≡ text_given compilation given number

  -- one of these texts is given for no variable
  pub record IsGivenForNone (given : List Override) (error : Error) : Type 0 where
    pub one : Override
    pub listed : Contains given one
    pub unknown : number_of compilation one.name ≡ None
    pub tells : error ≡ UnknownOverride one.name
