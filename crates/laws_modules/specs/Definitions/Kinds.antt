-- The kinds of definitions that are found, as those of the meaning.
use Rattle.std.specs.Prelude.{Option, Some, None}
use Rattle.modules_definitions.specs.declared.definition.Kind.{Kind as FoundKind}
use Rattle.modules_definitions.specs.declared.definition.Kind.TheVariants.{Alias, Disabled, Function, Module, Recipe, Set, Unexport, Variable}
use Rattle.meaning_rules.specs.Worlds.Keeping.{Kind, an_alias, a_function, a_recipe, a_setting, a_submodule, a_variable, an_unexport}

-- a recipe that another system disables is no definition of the meaning
abbrev pub kind_of : FoundKind → Option Kind
kind_of Alias = Some an_alias
kind_of Disabled = None
kind_of Function = Some a_function
kind_of (Module inner) = Some a_submodule
kind_of Recipe = Some a_recipe
kind_of Set = Some a_setting
kind_of Unexport = Some an_unexport
kind_of Variable = Some a_variable
