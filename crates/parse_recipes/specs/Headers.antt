-- The grammar of recipes: parameters, dependencies, first lines.
use Rattle.std.specs.Prelude.{ℕ, ◌≡◌, ◌≢◌, ◌≤◌, ◌+◌, ◌⊎◌, Bool, true, false, List, [], ◌∷◌, Option, Some, None, if◌then◌else◌, map}
use Rattle.std.specs.List.{IsAmong}
use Rattle.just_text.specs.Tokens.{Word}
use Rattle.just_text.specs.declared.token_kind.TokenKind.TheVariants.{AmpersandAmpersand, Asterisk, At, Colon, ColonColon, Dollar, Equals, Identifier, ParenL, ParenR, Plus as PlusMark}
use Rattle.tree_items.specs.declared.recipe.ParameterKind.{ParameterKind}
use Rattle.tree_items.specs.declared.recipe.ParameterKind.TheVariants.{Plus, Singular, Star}
use Rattle.tree_items.specs.Recipes.{ParameterShape, ArgumentShape, DependencyShape, RecipeShape}
use Rattle.tree_expressions.specs.Shape.{Shape}
use Rattle.parse_expressions.specs.Words.{Begins, Mark, Lacks}
use Rattle.parse_expressions.specs.Literals.{Expansion}
use Rattle.parse_expressions.specs.LineEnds.{IsEol}
use Rattle.parse_recipes.specs.Bodies.{IsPrimary, IsBody}
use Rattle.parse_expressions.specs.Strings.{IsExpression}

-- ---- paths

-- up to rest one name or more stand, `::` between two; the last has none after it
abbrev pub IsPath : List (List ℕ) → List Word → List Word → Type 0
IsPath [] words rest = ⊥
IsPath (name ∷ []) words rest = Begins Identifier name words rest × Lacks ColonColon rest
IsPath (name ∷ next ∷ names) words rest = (a b : List Word) × Begins Identifier name words a × Mark ColonColon a b × IsPath (next ∷ names) b rest

-- ---- parameters

-- the mark before a parameter of that kind
abbrev pub IsKind : ParameterKind → List Word → List Word → Type 0
IsKind Plus words rest = Mark PlusMark words rest
IsKind Singular words rest = words ≡ rest
IsKind Star words rest = Mark Asterisk words rest

-- `$` before the name of a parameter that is exported
abbrev pub IsExported : Bool → List Word → List Word → Type 0
IsExported true words rest = Mark Dollar words rest
IsExported false words rest = words ≡ rest

-- up to rest all names differ
abbrev pub AreDistinct : List (List ℕ) → Type 0
AreDistinct [] = Unit {0}
AreDistinct (name ∷ names) = (IsAmong names name → ⊥) × AreDistinct names

abbrev pub parameter_name : ParameterShape → List ℕ
parameter_name p = p.name

-- `*` before an argument
abbrev pub IsStarred : Bool → List Word → List Word → Type 0
IsStarred true words rest = Mark Asterisk words rest
IsStarred false words rest = words ≡ rest

-- how many arguments have a star
abbrev pub stars : List ArgumentShape → ℕ
stars [] = 0
stars (a ∷ as') = (if a.starred then 1 else 0) + stars as'

-- `@` before the name of a quiet recipe
abbrev pub IsQuiet : Bool → List Word → List Word → Type 0
IsQuiet true words rest = Mark At words rest
IsQuiet false words rest = words ≡ rest

module _ (expansion : Expansion) where
  -- a default after `=`
  abbrev pub IsDefault : Option Shape → List Word → List Word → Type 0
  IsDefault None words rest = (words ≡ rest) × Lacks Equals words
  IsDefault (Some e) words rest = (a : List Word) × Mark Equals words a × IsPrimary expansion e a rest

  -- up to rest there is the parameter
  pub record IsParameter (p : ParameterShape) (words rest : List Word) : Type 0 where
    pub behind_mark : List Word
    pub behind_dollar : List Word
    pub behind_name : List Word
    pub kind : IsKind p.kind words behind_mark
    pub export : IsExported p.export behind_mark behind_dollar
    pub name : Begins Identifier p.name behind_dollar behind_name
    pub default : IsDefault p.default behind_name rest

  -- up to rest these parameters stand, of which only the last may take all values that remain
  abbrev pub AreParameters : List ParameterShape → List Word → List Word → Type 0
  AreParameters [] words rest = words ≡ rest
  AreParameters (p ∷ ps) words rest = (a : List Word) × IsParameter p words a × AreParameters ps a rest × ((p.kind ≢ Singular) → ps ≡ [])

  -- up to rest there is the argument of a dependency
  abbrev pub IsArgument : ArgumentShape → List Word → List Word → Type 0
  IsArgument x words rest = (a : List Word) × IsStarred x.starred words a × IsExpression expansion x.expression a rest

  -- up to rest these arguments stand, and the parenthesis after them
  abbrev pub AreArguments : List ArgumentShape → List Word → List Word → Type 0
  AreArguments [] words rest = Mark ParenR words rest
  AreArguments (x ∷ xs) words rest = (a : List Word) × IsArgument x words a × AreArguments xs a rest

  -- Up to rest there is the dependency: a path, or a path and arguments in parentheses, of which at most one has a star.
  abbrev pub IsDependency : DependencyShape → List Word → List Word → Type 0
  IsDependency d words rest =
      (IsPath d.path words rest × (d.arguments ≡ []))
      ⊎ ((a b : List Word) × Mark ParenL words a × IsPath d.path a b × AreArguments d.arguments b rest × (stars d.arguments ≤ 1))

  -- up to rest these dependencies stand
  abbrev pub AreDependencies : List DependencyShape → List Word → List Word → Type 0
  AreDependencies [] words rest = words ≡ rest
  AreDependencies (d ∷ ds) words rest = (a : List Word) × IsDependency d words a × AreDependencies ds a rest

  -- up to rest there are those that run after the body, after `&&` if there are any
  abbrev pub AreSubsequents : List DependencyShape → List Word → List Word → Type 0
  AreSubsequents [] words rest = words ≡ rest
  AreSubsequents (d ∷ ds) words rest = (a : List Word) × Mark AmpersandAmpersand words a × AreDependencies (d ∷ ds) a rest

  -- Up to rest there is the recipe; so many blank lines after its body belong to the file.
  pub record IsRecipe (r : RecipeShape) (blanks : ℕ) (words rest : List Word) : Type 0 where
    pub behind_at : List Word
    pub behind_name : List Word
    pub behind_parameters : List Word
    pub behind_colon : List Word
    pub behind_priors : List Word
    pub behind_subsequents : List Word
    pub behind_header : List Word
    pub at : IsQuiet r.quiet words behind_at
    pub name : Begins Identifier r.name behind_at behind_name
    pub parameters : AreParameters r.parameters behind_name behind_parameters
    pub distinct : AreDistinct (map parameter_name r.parameters)
    pub colon : Mark Colon behind_parameters behind_colon
    pub priors : AreDependencies r.priors behind_colon behind_priors
    pub subsequents : AreSubsequents r.subsequents behind_priors behind_subsequents
    pub eol : IsEol behind_subsequents behind_header
    pub body : IsBody expansion r.body blanks behind_header rest
