-- What the expressions of a recipe hold.
use Rattle.std.specs.Prelude.{List}
use Rattle.std.specs.List.{All}
use Rattle.std.specs.Option.{IfSome}
use Rattle.tree_items.specs.declared.line.Fragment.{Fragment}
use Rattle.tree_items.specs.declared.line.Fragment.TheVariants.{Interpolation, Text}
use Rattle.tree_items.specs.declared.line.Line.{Line}
use Rattle.tree_items.specs.declared.recipe.DependencyArgument.{DependencyArgument}
use Rattle.tree_items.specs.declared.recipe.Parameter.{Parameter}
use Rattle.tree_items.specs.declared.recipe.Recipe.{Recipe}
use Rattle.tree_items.specs.declared.recipe.UnresolvedDependency.{UnresolvedDependency}
use Rattle.parse_expressions.specs.Literals.{Origin, IsCooked}

-- an interpolation holds what its strings, parts and commands stand for
abbrev pub IsFragmentCooked : Origin → Fragment → Type 0
IsFragmentCooked origin (Interpolation e) = IsCooked origin e
IsFragmentCooked origin (Text token) = Unit {0}

abbrev pub AreFragmentsCooked : Origin → List Fragment → Type 0
AreFragmentsCooked origin fragments = All (IsFragmentCooked origin) fragments

-- each interpolation of a line does
abbrev pub IsLineCooked : Origin → Line → Type 0
IsLineCooked origin line = AreFragmentsCooked origin line.fragments.items

-- each line of a body does
abbrev pub IsBodyCooked : Origin → List Line → Type 0
IsBodyCooked origin lines = All (IsLineCooked origin) lines

-- a parameter's default does, if there is one
abbrev pub IsParameterCooked : Origin → Parameter → Type 0
IsParameterCooked origin p = IfSome p.default (IsCooked origin)

abbrev pub AreParametersCooked : Origin → List Parameter → Type 0
AreParametersCooked origin ps = All (IsParameterCooked origin) ps

-- an argument does
abbrev pub IsArgumentCooked : Origin → DependencyArgument → Type 0
IsArgumentCooked origin a = IsCooked origin a.expression

abbrev pub AreArgumentsCooked : Origin → List DependencyArgument → Type 0
AreArgumentsCooked origin as' = All (IsArgumentCooked origin) as'

-- each argument of a dependency does
abbrev pub IsDependencyCooked : Origin → UnresolvedDependency → Type 0
IsDependencyCooked origin d = AreArgumentsCooked origin d.arguments.items

abbrev pub AreDependenciesCooked : Origin → List UnresolvedDependency → Type 0
AreDependenciesCooked origin ds = All (IsDependencyCooked origin) ds

-- each expression of a recipe does
pub record IsRecipeCooked (origin : Origin) (r : Recipe UnresolvedDependency) : Type 0 where
  pub parameters : AreParametersCooked origin r.parameters.items
  pub priors : AreDependenciesCooked origin r.priors.items
  pub subsequents : AreDependenciesCooked origin r.subsequents.items
  pub body : IsBodyCooked origin r.body.items
