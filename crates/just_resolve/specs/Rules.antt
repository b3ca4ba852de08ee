-- Which rules of names a refusal names, and which are broken in each world that a compilation stands for.
use Rattle.std.specs.Prelude.{◌≡◌, ℕ, false, List, Option, Some, None, map}
use Rattle.just_text.specs.Tokens.{lexeme}
use Rattle.just_text.specs.declared.name.Name.{Name}
use Rattle.tree_items.specs.Paths.{path_names}
use Rattle.just_value.specs.declared.positional.Override.{Override}
use Rattle.modules_compilation.specs.declared.compilation.Compilation.{Compilation}
use Rattle.resolve_recipes.specs.Named.{AllByName}
use Rattle.meaning_rules.specs.Worlds.Given.{Overrides, World}
use Rattle.meaning_rules.specs.Rules.{Broken, Rule, circular_recipe, circular_variable, const_error, dependency_argument_count, function_argument_count, is_of_sources, module_as_recipe, undefined_variable, unknown_dependency, unknown_function, unknown_override}
use Rattle.meaning_rules.specs.Told as told
use Rattle.meaning_rules.specs.Overrides.{overrides_of}
use Rattle.laws_names.specs.Reading.Meant.{IsNumberedWorld}
use Rattle.just_resolve.specs.declared.error.Error.{Error}
use Rattle.just_resolve.specs.declared.error.Error.TheVariants.{OutOfMemory, CircularRecipe, CircularVariable, Compile, ConstEval, DependencyArgumentCount, FunctionArgumentCount, ModuleAsRecipe, UndefinedVariable, UnknownDependency, UnknownFunction, UnknownOverride}

-- a compilation stands for the modules of the world, its names have their numbers, and its lists stand in the order in which names are looked up
pub record IsResolvable (w : World) (compilation : Compilation) : Type 0 where
  pub numbered : IsNumberedWorld w compilation
  pub by_name : AllByName compilation

abbrev pub texts_of : List Name → List (List ℕ)
texts_of names = map (λ name. lexeme name.token) names

-- the rule that a refusal names, with its fields
abbrev pub rule_of : Error → Option Rule
rule_of OutOfMemory = None
rule_of (Compile refusal) = told.rule_of refusal
rule_of (CircularVariable names) = Some (circular_variable (texts_of names))
rule_of (CircularRecipe names) = Some (circular_recipe (texts_of names))
rule_of (ConstEval refusal) = Some const_error
rule_of (DependencyArgumentCount recipe dependency found) = Some (dependency_argument_count (lexeme recipe.token) (path_names dependency) found)
rule_of (FunctionArgumentCount name found) = Some (function_argument_count (lexeme name.token) found)
rule_of (ModuleAsRecipe path) = Some (module_as_recipe (path_names path))
rule_of (UndefinedVariable name) = Some (undefined_variable (lexeme name.token))
rule_of (UnknownDependency recipe dependency) = Some (unknown_dependency (lexeme recipe.token) (path_names dependency))
rule_of (UnknownFunction name) = Some (unknown_function (lexeme name.token))
rule_of (UnknownOverride name) = Some (unknown_override name)

-- a refusal names a rule that the world breaks, unless memory ran out, of which nothing is said
abbrev pub IsNamed : World → Overrides → Error → Type 0
IsNamed w o OutOfMemory = Unit {0}
IsNamed w o refusal = (rule : Rule) × (rule_of refusal ≡ Some rule) × Broken w o rule

-- the world breaks no rule on names
abbrev pub BreaksNone : World → Overrides → Type 0
BreaksNone w o = (rule : Rule) → is_of_sources rule ≡ false → Broken w o rule → ⊥

-- this is so in each world that the compilation stands for, with the overrides that words write
abbrev pub InEachWorld : Compilation → List Override → (World → Overrides → Type 0) → Type 0
InEachWorld compilation words IsSo = (w : World) → IsResolvable w compilation → IsSo w (overrides_of words)
