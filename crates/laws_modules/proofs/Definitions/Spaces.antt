-- Kinds and spaces of definitions that are found, and those of the meaning.
use Rattle.std.proofs.Common.{◌≡◌, ◌≢◌, ◌⊎◌, inl, inr, sym, ◌∙◌, ap, true, Some, refl}
use Rattle.std.proofs.lemmas.Option.{none-some, same_Some}
use Rattle.modules_definitions.specs.Defining.{space_of as found_space}
use Rattle.modules_definitions.specs.Keeping.{may_repeat}
use Rattle.modules_definitions.specs.declared.definition.Kind.{Kind as FoundKind}
use Rattle.modules_definitions.specs.declared.definition.Kind.TheVariants.{Alias, Disabled, Function, Module, Recipe, Set, Unexport, Variable}
use Rattle.modules_definitions.specs.declared.definition.Space.{Space as FoundSpace}
use Rattle.modules_definitions.specs.declared.definition.Space.TheVariants.{Common, Disabled as DisabledSpace, Function as FunctionSpace, Set as SetSpace, Unexport as UnexportSpace, Variable as VariableSpace}
use Rattle.modules_definitions.specs.declared.keep.Allowed.{Allowed}
use Rattle.meaning_rules.specs.Worlds.Keeping.{Kind, an_alias, a_function, a_recipe, a_setting, a_submodule, a_variable, an_unexport, Space, functions, recipes, settings, unexports, variables, space_of}
use Rattle.laws_modules.specs.Definitions.Kinds.{kind_of}

abbrev pub space_in : Space → FoundSpace
space_in functions = FunctionSpace
space_in recipes = Common
space_in settings = SetSpace
space_in unexports = UnexportSpace
space_in variables = VariableSpace

abbrev back : FoundSpace → Space
back Common = recipes
back DisabledSpace = variables
back FunctionSpace = functions
back SetSpace = settings
back UnexportSpace = unexports
back VariableSpace = variables

back_in : (s : Space) → back (space_in s) ≡ s
back_in functions = refl
back_in recipes = refl
back_in settings = refl
back_in unexports = refl
back_in variables = refl

pub no_disabled_space : (s : Space) → space_in s ≢ DisabledSpace
no_disabled_space functions e = cc e
no_disabled_space recipes e = cc e
no_disabled_space settings e = cc e
no_disabled_space unexports e = cc e
no_disabled_space variables e = cc e

-- the space of a kind is that of the meaning's kind
space_is : (found : FoundKind) (kind : Kind) → kind_of found ≡ Some kind → found_space found ≡ space_in (space_of kind)
space_is Alias kind e = ap (λ k. space_in (space_of k)) (same_Some an_alias kind e)
space_is Disabled kind e = absurd (none-some kind e)
space_is Function kind e = ap (λ k. space_in (space_of k)) (same_Some a_function kind e)
space_is (Module inner) kind e = ap (λ k. space_in (space_of k)) (same_Some a_submodule kind e)
space_is Recipe kind e = ap (λ k. space_in (space_of k)) (same_Some a_recipe kind e)
space_is Set kind e = ap (λ k. space_in (space_of k)) (same_Some a_setting kind e)
space_is Unexport kind e = ap (λ k. space_in (space_of k)) (same_Some an_unexport kind e)
space_is Variable kind e = ap (λ k. space_in (space_of k)) (same_Some a_variable kind e)

pub spaces_agree : (one two : FoundKind) (kind other : Kind) → kind_of one ≡ Some kind → kind_of two ≡ Some other → space_of kind ≡ space_of other → found_space one ≡ found_space two
spaces_agree one two kind other e f same = space_is one kind e ∙ ap space_in same ∙ sym (space_is two other f)

pub spaces_back : (one two : FoundKind) (kind other : Kind) → kind_of one ≡ Some kind → kind_of two ≡ Some other → found_space one ≡ found_space two → space_of kind ≡ space_of other
spaces_back one two kind other e f same = sym (back_in (space_of kind)) ∙ ap back (sym (space_is one kind e) ∙ same ∙ space_is two other f) ∙ back_in (space_of other)

pub told_apart : (found : FoundKind) (kind : Kind) → kind_of found ≡ Some kind → found_space found ≢ DisabledSpace
told_apart found kind e disabled = no_disabled_space (space_of kind) (sym (space_is found kind e) ∙ disabled)

-- each kind but that of disabled recipes is one of the meaning
pub has_kind : (found : FoundKind) → found_space found ≢ DisabledSpace → (kind : Kind) × (kind_of found ≡ Some kind)
has_kind Alias apart = (an_alias, refl)
has_kind Disabled apart = absurd (apart refl)
has_kind Function apart = (a_function, refl)
has_kind (Module inner) apart = (a_submodule, refl)
has_kind Recipe apart = (a_recipe, refl)
has_kind Set apart = (a_setting, refl)
has_kind Unexport apart = (an_unexport, refl)
has_kind Variable apart = (a_variable, refl)

-- a kind is one of the meaning, or that of disabled recipes
pub kind_or_disabled : (found : FoundKind) → ((kind : Kind) × (kind_of found ≡ Some kind)) ⊎ (found ≡ Disabled)
kind_or_disabled Alias = inl (an_alias, refl)
kind_or_disabled Disabled = inr refl
kind_or_disabled Function = inl (a_function, refl)
kind_or_disabled (Module inner) = inl (a_submodule, refl)
kind_or_disabled Recipe = inl (a_recipe, refl)
kind_or_disabled Set = inl (a_setting, refl)
kind_or_disabled Unexport = inl (an_unexport, refl)
kind_or_disabled Variable = inl (a_variable, refl)

-- ---- what may stand beside others of its name

pub repeats : (allowed : Allowed) (found : FoundKind) → may_repeat allowed found ≡ true → ((kind_of found ≡ Some a_recipe) × (allowed.duplicate_recipes ≡ true)) ⊎ ((kind_of found ≡ Some a_variable) × (allowed.duplicate_variables ≡ true))
repeats allowed Alias e = absurd (cc e)
repeats allowed Disabled e = absurd (cc e)
repeats allowed Function e = absurd (cc e)
repeats allowed (Module inner) e = absurd (cc e)
repeats allowed Recipe e = inl (refl, e)
repeats allowed Set e = absurd (cc e)
repeats allowed Unexport e = absurd (cc e)
repeats allowed Variable e = inr (refl, e)

pub recipe_repeats : (allowed : Allowed) (found : FoundKind) → kind_of found ≡ Some a_recipe → allowed.duplicate_recipes ≡ true → may_repeat allowed found ≡ true
recipe_repeats allowed Alias e on = absurd (cc e)
recipe_repeats allowed Disabled e on = absurd (cc e)
recipe_repeats allowed Function e on = absurd (cc e)
recipe_repeats allowed (Module inner) e on = absurd (cc e)
recipe_repeats allowed Recipe e on = on
recipe_repeats allowed Set e on = absurd (cc e)
recipe_repeats allowed Unexport e on = absurd (cc e)
recipe_repeats allowed Variable e on = absurd (cc e)

pub variable_repeats : (allowed : Allowed) (found : FoundKind) → kind_of found ≡ Some a_variable → allowed.duplicate_variables ≡ true → may_repeat allowed found ≡ true
variable_repeats allowed Alias e on = absurd (cc e)
variable_repeats allowed Disabled e on = absurd (cc e)
variable_repeats allowed Function e on = absurd (cc e)
variable_repeats allowed (Module inner) e on = absurd (cc e)
variable_repeats allowed Recipe e on = absurd (cc e)
variable_repeats allowed Set e on = absurd (cc e)
variable_repeats allowed Unexport e on = absurd (cc e)
variable_repeats allowed Variable e on = on
