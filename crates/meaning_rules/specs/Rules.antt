-- The rules of sources and names, each with what breaks it.
use Rattle.std.specs.Prelude.{◌≡◌, ◌≢◌, ◌⊎◌, ◌<◌, ◌≤◌, ◌+◌, ◌-◌, ◌↔◌, ℕ, Bool, true, false, List, ◌∷◌, ◌++◌, Option, Some, None, map, length, slice_get, codes, Contains, []}
use Rattle.std.specs.List.{list_any}
use Rattle.std.specs.List.Sorted.{IsStrictlySortedBy}
use Rattle.just_text.specs.declared.compile_error.CompileErrorKind.{CompileErrorKind}
use Rattle.just_text.specs.declared.compile_error.CompileErrorKind.TheVariants.{ExtraLeadingWhitespace, GuardAndInfallible}
use Rattle.tree_expressions.specs.Operators.{Binary, comparison, appending}
use Rattle.tree_expressions.specs.Shape.{Shape, Shapes, Interpolations, literal, command, format, variable, call, assertion, assertion_alone, group, listing, choice, choice_alone, negation, rooted, binary, end, more, closed, interpolation}
use Rattle.tree_attributes.specs.declared.attribute.AttributeKind.{AttributeKind}
use Rattle.tree_attributes.specs.declared.attribute.AttributeKind.TheVariants.{Cache, ExitMessage, NoCd, NoExitMessage, Script, WorkingDirectory}
use Rattle.tree_attributes.specs.Attributes.{AttributeShape}
use Rattle.tree_attributes.specs.Sets.Sets.{has_kind}
use Rattle.tree_items.specs.declared.ast.UnstableFeature.{UnstableFeature}
use Rattle.tree_items.specs.declared.ast.UnstableFeature.TheVariants.{CachedRecipes, DefinedFunctions, Lists}
use Rattle.tree_items.specs.declared.ast.ListFeature.{ListFeature}
use Rattle.tree_items.specs.declared.ast.ListFeature.TheVariants.{Comparison, Concatenation, ConditionalWithoutElse, Literal, Not, StarredArgument}
use Rattle.tree_attributes.specs.Settings.{SetShape}
use Rattle.tree_items.specs.Files.{ItemShape, alias_item, assignment_item, function_item, recipe_item, set_item, unexport_item}
use Rattle.tree_items.specs.Items.{AliasShape, AssignmentShape, ModuleShape, FunctionShape}
use Rattle.tree_items.specs.Lines.{Piece, begins_with_space, is_continuation, is_shebang, sigils_of}
use Rattle.tree_items.specs.Recipes.{RecipeShape, DependencyShape}
use Rattle.modules_compilation.specs.Paths.{is_clean, key_from}
use Rattle.modules_compilation.specs.Tables.{text_cmp}
use Rattle.meaning_rules.specs.Worlds.Given.{Text, World, Overrides}
use Rattle.meaning_rules.specs.Fixed.{constants, counts_of, value_of}
use Rattle.meaning_rules.specs.Worlds.Sources.{AreSaid, Has, HasModule, enabled, Imports, ImportsAt, IsFileOf, IsMissing, IsSubmodule, Leads, MayMean, Reached, is_enabled}
use Rattle.meaning_rules.specs.Worlds.Modules.{IsModule, IsReadingOrder}
use Rattle.meaning_rules.specs.Worlds.Keeping.{Kind, an_alias, a_function, a_recipe, a_setting, a_submodule, a_variable, an_unexport, IsDefined, IsOn, IsTwice, Keeps}
use Rattle.meaning_rules.specs.Naming.{Part, parts_of}
use Rattle.meaning_rules.specs.Naming as naming
use Rattle.meaning_rules.specs.Reading as reading
use Rattle.meaning_rules.specs.Depending.{IsModulePath, IsRecipePath, IsDisabledPath, LeadsToRecipe, takes}
use Rattle.meaning_rules.specs.Depending as depending
use Rattle.meaning_rules.specs.Overriding.{IsOverridden}
use Rattle.meaning_rules.specs.Constants.{BreaksConstants}

-- A rule, with the fields of its refusal.
pub data Rule : Type 0 where
  syntax : CompileErrorKind → Rule
  missing_root : Text → Rule
  missing_import : Text → Rule
  circular_import : Text → Text → Rule
  missing_module : Text → Rule
  ambiguous_module : Text → List Text → Rule
  redefinition : Text → Rule
  duplicate_variable : Text → Rule
  duplicate_set : Text → Rule
  duplicate_unexport : Text → Rule
  export_unexported : Text → Rule
  unknown_alias_target : Text → List Text → Rule
  unstable_feature : UnstableFeature → Rule
  lists_needed : ListFeature → Rule
  cache_left_out : Text → Rule
  attribute_conflict : Text → Text → Text → Rule
  undefined_variable : Text → Rule
  unknown_function : Text → Rule
  function_argument_count : Text → ℕ → Rule
  circular_variable : List Text → Rule
  unknown_dependency : Text → List Text → Rule
  circular_recipe : List Text → Rule
  dependency_argument_count : Text → List Text → ℕ → Rule
  const_error : Rule
  unknown_override : Text → Rule
  module_as_recipe : List Text → Rule

-- a rule on sources, modules and single items, which compiling looks at; the others are on names, and analysing looks at them
abbrev pub is_of_sources : Rule → Bool
is_of_sources (undefined_variable name) = false
is_of_sources (unknown_function name) = false
is_of_sources (function_argument_count name count) = false
is_of_sources (circular_variable names) = false
is_of_sources (unknown_dependency name path) = false
is_of_sources (circular_recipe names) = false
is_of_sources (dependency_argument_count name path count) = false
is_of_sources const_error = false
is_of_sources (unknown_override text) = false
is_of_sources (module_as_recipe path) = false
is_of_sources other = true

-- a rule on single files and where they lead; the others are on what files say together
abbrev pub is_of_files : Rule → Bool
is_of_files (syntax kind) = true
is_of_files (missing_root key) = true
is_of_files (missing_import path) = true
is_of_files (circular_import current other) = true
is_of_files (missing_module name) = true
is_of_files (ambiguous_module name found) = true
is_of_files other = false

-- ---- what single items use

abbrev pub has : AttributeKind → List AttributeShape → Bool
has kind attributes = list_any (has_kind kind) attributes

abbrev pub first_of : List Piece → Option Piece
first_of line = slice_get line 0

abbrev pub last_of : List Piece → Option Piece
last_of line = slice_get line (length line - 1)

abbrev pub begins_shebang : List (List Piece) → Bool
begins_shebang [] = false
begins_shebang (line ∷ others) = is_shebang (first_of line)

-- two things that a recipe has exclude one another; which is told first is (own)
pub data Excludes (attributes : List AttributeShape) (r : RecipeShape) : Text → Text → Type 0 where
  by_folder : has NoCd attributes ≡ true → has WorkingDirectory attributes ≡ true → Excludes attributes r (codes "no-cd") (codes "working-directory")
  by_script : has Script attributes ≡ true → begins_shebang r.body ≡ true → Excludes attributes r (codes "script") (codes "#!")
  by_message : has ExitMessage attributes ≡ true → has NoExitMessage attributes ≡ true → Excludes attributes r (codes "exit-message") (codes "no-exit-message")

-- an item uses a feature that has to be asked for; a setting of lists counts whatever its value (as `uses` of justfile_syntax.specs.Features)
pub data UsesUnstable : ItemShape → UnstableFeature → Type 0 where
  defining : {f : FunctionShape} → UsesUnstable (function_item f) DefinedFunctions
  caching : {attributes : List AttributeShape} {r : RecipeShape} → has Cache attributes ≡ true → UsesUnstable (recipe_item attributes r) CachedRecipes
  setting_lists : {attributes : List AttributeShape} {s : SetShape} → s.name ≡ codes "lists" → UsesUnstable (set_item attributes s) Lists

-- the feature of lists that an operator is, in what is or isn't a condition
abbrev pub lists_of : Bool → Binary → List ListFeature
lists_of condition appending = Concatenation ∷ []
lists_of true (comparison o) = []
lists_of false (comparison o) = Comparison ∷ []
lists_of condition other = []

-- the features of lists that an expression uses, which is or isn't a condition
unfoldable mutual
  pub lists_in : Bool → Shape → List ListFeature
  lists_in condition (literal s) = []
  lists_in condition (command s) = []
  lists_in condition (format s hs) = lists_between hs
  lists_in condition (variable x) = []
  lists_in condition (call f es) = lists_among es
  lists_in condition (assertion c m) = lists_in true c ++ lists_in false m
  lists_in condition (assertion_alone c) = lists_in true c
  lists_in condition (group e) = lists_in false e
  lists_in condition (listing es) = Literal ∷ lists_among es
  lists_in condition (choice c t o) = lists_in true c ++ lists_in false t ++ lists_in false o
  lists_in condition (choice_alone c t) = ConditionalWithoutElse ∷ lists_in true c ++ lists_in false t
  lists_in condition (negation e) = Not ∷ lists_in false e
  lists_in condition (rooted e) = lists_in false e
  lists_in condition (binary op l r) = lists_of condition op ++ lists_in false l ++ lists_in false r

  pub lists_among : Shapes → List ListFeature
  lists_among end = []
  lists_among (more e es) = lists_in false e ++ lists_among es

  pub lists_between : Interpolations → List ListFeature
  lists_between closed = []
  lists_between (interpolation e part hs) = lists_in false e ++ lists_between hs

-- a dependency of the recipe has a starred argument
abbrev pub has_star : RecipeShape → Bool
has_star r = list_any (λ d. list_any (λ a. a.starred) d.arguments) (r.priors ++ r.subsequents)

module _ (w : World) where
  -- an item uses a feature of lists
  pub data UsesList : ItemShape → ListFeature → Type 0 where
    in_part : {item : ItemShape} {feature : ListFeature} {p : Part} → Contains (parts_of (value_of w.expansion) item) p → Contains (lists_in false p.said) feature → UsesList item feature
    by_star : {attributes : List AttributeShape} {r : RecipeShape} → has_star r ≡ true → UsesList (recipe_item attributes r) StarredArgument

  -- an item stands in a file of a module
  pub record InModule (own : Text) (item : ItemShape) : Type 0 where
    pub path : List Text
    pub is : IsModule w path own
    pub file : Text
    pub of : IsFileOf w own file
    pub place : ℕ
    pub has : Has w file place item

  -- and no other system is meant
  abbrev pub Stands : Text → ItemShape → Type 0
  Stands own item = InModule own item × (is_enabled w.os item ≡ true)

  -- ---- sources

  -- imports and submodules lead from one file to another
  pub data Comes : Text → Text → Type 0 where
    itself : {file : Text} → Comes file file
    by_import : {file between other : Text} → Comes file between → Imports w between other → Comes file other
    by_submodule : {file between name other : Text} → Comes file between → IsSubmodule w between name other → Comes file other

  -- the file imports the other, which imports it through others; or it has it as a submodule, which has it as one through others
  abbrev pub IsRound : Text → Text → Type 0
  IsRound current other = (Imports w current other × ((count : ℕ) × Leads w other count current)) ⊎ (((name : Text) × IsSubmodule w current name other) × Comes other current)

  -- what an import that must be there names, and is not there
  abbrev pub LeadsNowhere : Text → Text → Text → Type 0
  LeadsNowhere file path told = ((key_from file path ≡ Some told) × IsMissing w told) ⊎ ((key_from file path ≡ None) × (told ≡ path))

  -- ---- recipes that are no scripts

  abbrev pub IsScript : Text → List AttributeShape → RecipeShape → Type 0
  IsScript own attributes r = IsOn w own (codes "default-script") ⊎ (has Script attributes ≡ true) ⊎ (begins_shebang r.body ≡ true)

  -- a line of a body that doesn't go on with the one before
  pub record IsOwnLine (r : RecipeShape) (line : List Piece) : Type 0 where
    pub place : ℕ
    pub at : slice_get r.body place ≡ Some line
    pub own : (before : List Piece) → 0 < place → slice_get r.body (place - 1) ≡ Some before → is_continuation (last_of before) ≡ false

  abbrev pub HasLine : Text → (List Piece → Type 0) → Type 0
  HasLine own Bad = (attributes : List AttributeShape) × ((r : RecipeShape) × Stands own (recipe_item attributes r) × (IsScript own attributes r → ⊥) × ((line : List Piece) × IsOwnLine r line × Bad line))

  abbrev pub IsGuarded : Text → List Piece → Type 0
  IsGuarded own line = IsOn w own (codes "guards") × ((sigils_of true (first_of line)).guard ≡ true) × ((sigils_of true (first_of line)).infallible ≡ true)

  abbrev pub IsBodyFault : CompileErrorKind → Type 0
  IsBodyFault ExtraLeadingWhitespace = (own : Text) × HasLine own (λ line. begins_with_space (first_of line) ≡ true)
  IsBodyFault GuardAndInfallible = (own : Text) × HasLine own (IsGuarded own)
  IsBodyFault other = ⊥

  abbrev pub IsFileFault : CompileErrorKind → Type 0
  IsFileFault kind = (key : Text) × Reached w key × (w.refused key kind ≡ true)

  -- ---- names

  -- definitions whose expressions are looked at: those that are kept
  pub data IsLooked (own : Text) : ItemShape → Type 0 where
    looked : {kind : Kind} {name : Text} {item : ItemShape} {path : List Text} → IsModule w path own → Keeps w own kind name item → IsLooked own item

  abbrev pub HasPart : Text → Part → Type 0
  HasPart own p = (item : ItemShape) × IsLooked own item × Contains (parts_of (value_of w.expansion) item) p

  abbrev pub IsVariable : Text → Text → Type 0
  IsVariable own name = IsDefined w own a_variable name

  abbrev pub IsFunction : Text → Text → Type 0
  IsFunction own name = IsDefined w own Kind.a_function name

  -- no function that the module defines, and no built-in one
  abbrev pub IsNoFunction : Text → Text → Type 0
  IsNoFunction own name = (IsFunction own name → ⊥) × (counts_of name ≡ None)

  -- the function of the name takes another number of arguments
  pub data TakesOther (own name : Text) (count : ℕ) : Type 0 where
    defined : (f : FunctionShape) → Keeps w own Kind.a_function name (function_item f) → length f.parameters ≢ count → TakesOther own name count
    built_in : (IsFunction own name → ⊥) → (takes : ℕ → Bool) → counts_of name ≡ Some takes → takes count ≡ false → TakesOther own name count

  -- ---- dependencies

  abbrev pub IsKeptRecipe : Text → List AttributeShape → RecipeShape → Type 0
  IsKeptRecipe own attributes r = Keeps w own a_recipe r.name (recipe_item attributes r)

  abbrev pub IsDroppedRecipe : Text → List AttributeShape → RecipeShape → Type 0
  IsDroppedRecipe own attributes r = InModule own (recipe_item attributes r) × (enabled w.os attributes ≡ false)

  -- a dependency of a recipe that is kept, or of one that another system disables
  pub record HasDependency (Of : Text → List AttributeShape → RecipeShape → Type 0) (own name : Text) (d : DependencyShape) : Type 0 where
    pub path : List Text
    pub is : IsModule w path own
    pub attributes : List AttributeShape
    pub recipe : RecipeShape
    pub there : Of own attributes recipe
    pub is_named : recipe.name ≡ name
    pub listed : Contains (recipe.priors ++ recipe.subsequents) d

  abbrev pub IsRecipe : Text → List Text → Type 0
  IsRecipe own path = IsRecipePath w own path

  abbrev pub IsDisabledRecipe : Text → List Text → Type 0
  IsDisabledRecipe own path = (inner key : Text) × (place : ℕ) × (attributes : List AttributeShape) × (r : RecipeShape) × IsDisabledPath w own path inner key place attributes r

  -- the recipe that the path leads to doesn't take so many values
  abbrev pub TakesOtherCount : Text → List Text → ℕ → Type 0
  TakesOtherCount own path count = (modules : List Text) × (name : Text) × (attributes : List AttributeShape) × (r : RecipeShape) × LeadsToRecipe w own path modules name attributes r × (takes w attributes r count ≡ false)

  -- the disabled recipe of the path that comes first in reading order doesn't take so many
  pub record FirstDisabledTakesOther (own : Text) (path : List Text) (count : ℕ) : Type 0 where
    pub inner : Text
    pub key : Text
    pub place : ℕ
    pub attributes : List AttributeShape
    pub r : RecipeShape
    pub leads : IsDisabledPath w own path inner key place attributes r
    pub files : List Text
    pub order : IsReadingOrder w inner files
    pub at : ℕ
    pub found : slice_get files at ≡ Some key
    pub first : (at' : ℕ) (key' : Text) (place' : ℕ) (attributes' : List AttributeShape) (r' : RecipeShape) → slice_get files at' ≡ Some key' → IsDisabledPath w own path inner key' place' attributes' r' → (at < at') ⊎ ((at ≡ at') × (place ≤ place'))
    pub other : takes w attributes r count ≡ false

  -- what is wrong with a dependency of a recipe that is kept
  pub data Misses (own : Text) (d : DependencyShape) : Rule → Text → Type 0 where
    unknown : {name : Text} → (IsRecipe own d.path → ⊥) → (IsModulePath w own d.path → ⊥) → Misses own d (unknown_dependency name d.path) name
    a_module : {name : Text} → IsModulePath w own d.path → Misses own d (module_as_recipe d.path) name
    a_count : {name : Text} → TakesOtherCount own d.path (length d.arguments) → Misses own d (dependency_argument_count name d.path (length d.arguments)) name

  -- the same of one that is disabled: it may depend on others that are
  pub data MissesAll (own : Text) (d : DependencyShape) : Rule → Text → Type 0 where
    unknown : {name : Text} → (IsRecipe own d.path → ⊥) → (IsModulePath w own d.path → ⊥) → (IsDisabledRecipe own d.path → ⊥) → MissesAll own d (unknown_dependency name d.path) name
    a_module : {name : Text} → IsModulePath w own d.path → MissesAll own d (module_as_recipe d.path) name
    a_count : {name : Text} → TakesOtherCount own d.path (length d.arguments) → MissesAll own d (dependency_argument_count name d.path (length d.arguments)) name
    a_disabled_count : {name : Text} → (IsRecipe own d.path → ⊥) → (IsModulePath w own d.path → ⊥) → FirstDisabledTakesOther own d.path (length d.arguments) → MissesAll own d (dependency_argument_count name d.path (length d.arguments)) name

  pub data BreaksDependency (rule : Rule) : Type 0 where
    of_kept : {own name : Text} {d : DependencyShape} → HasDependency IsKeptRecipe own name d → Misses own d rule name → BreaksDependency rule
    of_disabled : {own name : Text} {d : DependencyShape} → HasDependency IsDroppedRecipe own name d → MissesAll own d rule name → BreaksDependency rule

  abbrev pub IsModuleOf : Text → Type 0
  IsModuleOf own = (path : List Text) × IsModule w path own

  abbrev pub IsTwiceOf : Kind → Text → Type 0
  IsTwiceOf kind name = (own : Text) × IsModuleOf own × IsTwice w own kind name

  -- an alias of a module
  abbrev pub HasAlias : Text → AliasShape → Type 0
  HasAlias own a = IsModuleOf own × ((attributes : List AttributeShape) × Keeps w own an_alias a.name (alias_item attributes a))

  -- ---- the table

  abbrev pub Breaks : Overrides → Rule → Type 0
  Breaks o (syntax kind) = IsFileFault kind ⊎ (AreSaid w × IsBodyFault kind)
  Breaks o (missing_root key) = (key ≡ w.root) × ((is_clean key ≡ false) ⊎ IsMissing w key)
  Breaks o (missing_import told) = (file : Text) × (place : ℕ) × (path : Text) × Reached w file × ImportsAt w file place false path × LeadsNowhere file path told
  Breaks o (circular_import current other) = Reached w current × IsRound current other
  Breaks o (missing_module name) = (file : Text) × (place : ℕ) × (m : ModuleShape) × Reached w file × HasModule w file place m × (m.optional ≡ false) × (m.name ≡ name) × ((key : Text) → MayMean w file m key → ⊥)
  Breaks o (ambiguous_module name found) = (file : Text) × (place : ℕ) × (m : ModuleShape) × Reached w file × HasModule w file place m × (m.name ≡ name) × (1 < length found) × IsStrictlySortedBy text_cmp found × ((key : Text) → MayMean w file m key ↔ Contains found key)
  Breaks o (redefinition name) = IsTwiceOf an_alias name ⊎ IsTwiceOf Kind.a_function name ⊎ IsTwiceOf a_recipe name ⊎ IsTwiceOf a_submodule name
  Breaks o (duplicate_variable name) = IsTwiceOf a_variable name
  Breaks o (duplicate_set name) = IsTwiceOf a_setting name
  Breaks o (duplicate_unexport name) = IsTwiceOf an_unexport name
  Breaks o (export_unexported name) = (own : Text) × (a : AssignmentShape) × (attributes : List AttributeShape) × Stands own (assignment_item attributes a) × (a.export ≡ true) × (a.name ≡ name) × InModule own (unexport_item name)
  Breaks o (unknown_alias_target alias target) = (own : Text) × (a : AliasShape) × HasAlias own a × (a.name ≡ alias) × (a.target ≡ target) × (IsRecipe own target → ⊥) × (IsModulePath w own target → ⊥)
  Breaks o (unstable_feature feature) = (own : Text) × (item : ItemShape) × InModule own item × UsesUnstable item feature × (w.unstable ≡ false) × (IsOn w own (codes "unstable") → ⊥)
  Breaks o (lists_needed feature) = (own : Text) × (item : ItemShape) × Stands own item × UsesList item feature × (IsOn w own (codes "lists") → ⊥)
  Breaks o (cache_left_out name) = (own : Text) × (attributes : List AttributeShape) × (r : RecipeShape) × Stands own (recipe_item attributes r) × (r.name ≡ name) × (has Cache attributes ≡ true)
  Breaks o (attribute_conflict name one other) = (own : Text) × (attributes : List AttributeShape) × (r : RecipeShape) × Stands own (recipe_item attributes r) × (r.name ≡ name) × Excludes attributes r one other
  Breaks o (undefined_variable name) = (own : Text) × (p : Part) × HasPart own p × Contains (naming.occurrences p.said) (naming.a_variable name) × (Contains p.sees name → ⊥) × (IsVariable own name → ⊥) × (Contains constants name → ⊥)
  Breaks o (unknown_function name) = (own : Text) × (p : Part) × (count : ℕ) × HasPart own p × Contains (naming.occurrences p.said) (naming.a_call name count) × IsNoFunction own name
  Breaks o (function_argument_count name count) = (own : Text) × (p : Part) × HasPart own p × Contains (naming.occurrences p.said) (naming.a_call name count) × TakesOther own name count
  Breaks o (circular_variable names) = (own : Text) × IsModuleOf own × reading.IsVariableCycle w own names
  Breaks o (unknown_dependency name path) = BreaksDependency (unknown_dependency name path)
  Breaks o (circular_recipe names) = (recipes : List (List Text × Text)) × depending.IsRecipeCycle w recipes × (names ≡ map (λ r. r.1) recipes)
  Breaks o (dependency_argument_count name path count) = BreaksDependency (dependency_argument_count name path count)
  Breaks o const_error = (path : List Text) × (own : Text) × IsModule w path own × BreaksConstants w o path own
  Breaks o (unknown_override text) = Contains (map (λ p. p.0) o) text × ((path : List Text) (own name : Text) → IsOverridden w text path own name → ⊥)
  Breaks o (module_as_recipe path) = BreaksDependency (module_as_recipe path) ⊎ ((own : Text) × (a : AliasShape) × HasAlias own a × (a.target ≡ path) × IsModulePath w own path)

  -- A world with these overrides breaks a rule. What files say together counts where each file that is reached says something; else it is a fault of a file.
  pub record Broken (o : Overrides) (rule : Rule) : Type 0 where
    pub said : is_of_files rule ≡ false → AreSaid w
    pub breaks : Breaks o rule
