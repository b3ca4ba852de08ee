-- The tests of kinds, each telling one kind of the meaning.
use Rattle.std.proofs.Common.{◌≡◌, ◌↔◌, Bool, true, false, Some, is_some, refl}
use Rattle.modules_definitions.specs.Keeping.{may_repeat}
use Rattle.modules_definitions.specs.Lists.{is_same_kind, submodule_of}
use Rattle.modules_definitions.specs.declared.definition.Kind.{Kind as FoundKind}
use Rattle.modules_definitions.specs.declared.definition.Kind.TheVariants.{Alias, Disabled, Function, Module, Recipe, Set, Unexport, Variable}
use Rattle.modules_definitions.specs.declared.keep.Allowed.{Allowed}
use Rattle.meaning_rules.specs.Worlds.Keeping.{Kind, an_alias, a_function, a_recipe, a_setting, a_submodule, a_variable, an_unexport}
use Rattle.laws_modules.specs.Definitions.Kinds.{kind_of}

-- the test passes just what is of this kind
abbrev pub Tells : (FoundKind → Bool) → Kind → Type 0
Tells test kind = (found : FoundKind) → (test found ≡ true) ↔ (kind_of found ≡ Some kind)

pub alias_told : Tells (is_same_kind Alias) an_alias
alias_told Alias = (λ e. refl, λ e. refl)
alias_told Disabled = (λ e. absurd (cc e), λ e. absurd (cc e))
alias_told Function = (λ e. absurd (cc e), λ e. absurd (cc e))
alias_told (Module inner) = (λ e. absurd (cc e), λ e. absurd (cc e))
alias_told Recipe = (λ e. absurd (cc e), λ e. absurd (cc e))
alias_told Set = (λ e. absurd (cc e), λ e. absurd (cc e))
alias_told Unexport = (λ e. absurd (cc e), λ e. absurd (cc e))
alias_told Variable = (λ e. absurd (cc e), λ e. absurd (cc e))

pub function_told : Tells (is_same_kind Function) a_function
function_told Alias = (λ e. absurd (cc e), λ e. absurd (cc e))
function_told Disabled = (λ e. absurd (cc e), λ e. absurd (cc e))
function_told Function = (λ e. refl, λ e. refl)
function_told (Module inner) = (λ e. absurd (cc e), λ e. absurd (cc e))
function_told Recipe = (λ e. absurd (cc e), λ e. absurd (cc e))
function_told Set = (λ e. absurd (cc e), λ e. absurd (cc e))
function_told Unexport = (λ e. absurd (cc e), λ e. absurd (cc e))
function_told Variable = (λ e. absurd (cc e), λ e. absurd (cc e))

pub recipe_told : Tells (is_same_kind Recipe) a_recipe
recipe_told Alias = (λ e. absurd (cc e), λ e. absurd (cc e))
recipe_told Disabled = (λ e. absurd (cc e), λ e. absurd (cc e))
recipe_told Function = (λ e. absurd (cc e), λ e. absurd (cc e))
recipe_told (Module inner) = (λ e. absurd (cc e), λ e. absurd (cc e))
recipe_told Recipe = (λ e. refl, λ e. refl)
recipe_told Set = (λ e. absurd (cc e), λ e. absurd (cc e))
recipe_told Unexport = (λ e. absurd (cc e), λ e. absurd (cc e))
recipe_told Variable = (λ e. absurd (cc e), λ e. absurd (cc e))

pub set_told : Tells (is_same_kind Set) a_setting
set_told Alias = (λ e. absurd (cc e), λ e. absurd (cc e))
set_told Disabled = (λ e. absurd (cc e), λ e. absurd (cc e))
set_told Function = (λ e. absurd (cc e), λ e. absurd (cc e))
set_told (Module inner) = (λ e. absurd (cc e), λ e. absurd (cc e))
set_told Recipe = (λ e. absurd (cc e), λ e. absurd (cc e))
set_told Set = (λ e. refl, λ e. refl)
set_told Unexport = (λ e. absurd (cc e), λ e. absurd (cc e))
set_told Variable = (λ e. absurd (cc e), λ e. absurd (cc e))

pub unexport_told : Tells (is_same_kind Unexport) an_unexport
unexport_told Alias = (λ e. absurd (cc e), λ e. absurd (cc e))
unexport_told Disabled = (λ e. absurd (cc e), λ e. absurd (cc e))
unexport_told Function = (λ e. absurd (cc e), λ e. absurd (cc e))
unexport_told (Module inner) = (λ e. absurd (cc e), λ e. absurd (cc e))
unexport_told Recipe = (λ e. absurd (cc e), λ e. absurd (cc e))
unexport_told Set = (λ e. absurd (cc e), λ e. absurd (cc e))
unexport_told Unexport = (λ e. refl, λ e. refl)
unexport_told Variable = (λ e. absurd (cc e), λ e. absurd (cc e))

pub variable_told : Tells (is_same_kind Variable) a_variable
variable_told Alias = (λ e. absurd (cc e), λ e. absurd (cc e))
variable_told Disabled = (λ e. absurd (cc e), λ e. absurd (cc e))
variable_told Function = (λ e. absurd (cc e), λ e. absurd (cc e))
variable_told (Module inner) = (λ e. absurd (cc e), λ e. absurd (cc e))
variable_told Recipe = (λ e. absurd (cc e), λ e. absurd (cc e))
variable_told Set = (λ e. absurd (cc e), λ e. absurd (cc e))
variable_told Unexport = (λ e. absurd (cc e), λ e. absurd (cc e))
variable_told Variable = (λ e. refl, λ e. refl)

-- that of submodules
abbrev pub is_submodule : FoundKind → Bool
is_submodule found = is_some (submodule_of found)

pub submodule_told : Tells is_submodule a_submodule
submodule_told Alias = (λ e. absurd (cc e), λ e. absurd (cc e))
submodule_told Disabled = (λ e. absurd (cc e), λ e. absurd (cc e))
submodule_told Function = (λ e. absurd (cc e), λ e. absurd (cc e))
submodule_told (Module inner) = (λ e. refl, λ e. refl)
submodule_told Recipe = (λ e. absurd (cc e), λ e. absurd (cc e))
submodule_told Set = (λ e. absurd (cc e), λ e. absurd (cc e))
submodule_told Unexport = (λ e. absurd (cc e), λ e. absurd (cc e))
submodule_told Variable = (λ e. absurd (cc e), λ e. absurd (cc e))

-- and that of disabled recipes
pub disabled_told : (found : FoundKind) → (is_same_kind Disabled found ≡ true) ↔ (found ≡ Disabled)
disabled_told Alias = (λ e. absurd (cc e), λ e. absurd (cc e))
disabled_told Disabled = (λ e. refl, λ e. refl)
disabled_told Function = (λ e. absurd (cc e), λ e. absurd (cc e))
disabled_told (Module inner) = (λ e. absurd (cc e), λ e. absurd (cc e))
disabled_told Recipe = (λ e. absurd (cc e), λ e. absurd (cc e))
disabled_told Set = (λ e. absurd (cc e), λ e. absurd (cc e))
disabled_told Unexport = (λ e. absurd (cc e), λ e. absurd (cc e))
disabled_told Variable = (λ e. absurd (cc e), λ e. absurd (cc e))

-- what isn't a recipe or a variable has one definition of its name
pub module_alone : (allowed : Allowed) (found : FoundKind) → kind_of found ≡ Some a_submodule → may_repeat allowed found ≡ false
module_alone allowed Alias e = absurd (cc e)
module_alone allowed Disabled e = absurd (cc e)
module_alone allowed Function e = absurd (cc e)
module_alone allowed (Module inner) e = refl
module_alone allowed Recipe e = absurd (cc e)
module_alone allowed Set e = absurd (cc e)
module_alone allowed Unexport e = absurd (cc e)
module_alone allowed Variable e = absurd (cc e)

pub unexport_alone : (allowed : Allowed) (found : FoundKind) → kind_of found ≡ Some an_unexport → may_repeat allowed found ≡ false
unexport_alone allowed Alias e = absurd (cc e)
unexport_alone allowed Disabled e = absurd (cc e)
unexport_alone allowed Function e = absurd (cc e)
unexport_alone allowed (Module inner) e = absurd (cc e)
unexport_alone allowed Recipe e = absurd (cc e)
unexport_alone allowed Set e = absurd (cc e)
unexport_alone allowed Unexport e = refl
unexport_alone allowed Variable e = absurd (cc e)
