-- What paths of names lead to, and what recipes depend on.
use Rattle.std.specs.Prelude.{◌≡◌, ◌<◌, ◌-◌, ◌&&◌, ◌||◌, ℕ, Bool, true, false, not, nat_le, List, ◌∷◌, ◌++◌, is_some, length, slice_get, Contains, []}
use Rattle.std.specs.List.{count_by}
use Rattle.tree_attributes.specs.Attributes.{AttributeShape}
use Rattle.tree_items.specs.Files.{recipe_item}
use Rattle.tree_items.specs.declared.recipe.ParameterKind.{ParameterKind}
use Rattle.tree_items.specs.declared.recipe.ParameterKind.TheVariants.{Star}
use Rattle.tree_items.specs.Recipes.{RecipeShape, ParameterShape, DependencyShape, is_variadic}
use Rattle.meaning_rules.specs.Worlds.Given.{Text, World}
use Rattle.meaning_rules.specs.Fixed.{is_flag}
use Rattle.meaning_rules.specs.Worlds.Sources.{IsFileOf, IsSubmodule}
use Rattle.meaning_rules.specs.Worlds.Modules.{IsModule}
use Rattle.meaning_rules.specs.Worlds.Keeping.{a_recipe, IsDefined, Keeps, IsDisabled}

module _ (w : World) where
  -- from a module, names of submodules lead to another
  pub data LeadsTo : Text → List Text → Text → Type 0 where
    here : {own : Text} → LeadsTo own [] own
    into : {own file name inner key : Text} {names : List Text} → IsFileOf w own file → IsSubmodule w file name inner → LeadsTo inner names key → LeadsTo own (name ∷ names) key

  -- the path leads to a module
  abbrev pub IsModulePath : Text → List Text → Type 0
  IsModulePath own path = (key : Text) × LeadsTo own path key

  -- a path to a name in a module: submodules' names, and then its own
  pub record IsNamePath (own : Text) (path modules : List Text) (inner name : Text) : Type 0 where
    pub whole : path ≡ modules ++ name ∷ []
    pub leads : LeadsTo own modules inner

  -- the path leads to a recipe that a file defines, whichever is kept
  pub record IsRecipePath (own : Text) (path : List Text) : Type 0 where
    pub modules : List Text
    pub inner : Text
    pub name : Text
    pub names : IsNamePath own path modules inner name
    pub defined : IsDefined w inner a_recipe name

  -- the path leads to this recipe, which is kept
  pub record LeadsToRecipe (own : Text) (path modules : List Text) (name : Text) (attributes : List AttributeShape) (r : RecipeShape) : Type 0 where
    pub inner : Text
    pub names : IsNamePath own path modules inner name
    pub kept : Keeps w inner a_recipe name (recipe_item attributes r)

  -- the path leads to a recipe at this place that another system disables
  pub record IsDisabledPath (own : Text) (path : List Text) (inner key : Text) (place : ℕ) (attributes : List AttributeShape) (r : RecipeShape) : Type 0 where
    pub modules : List Text
    pub names : IsNamePath own path modules inner r.name
    pub disabled : IsDisabled w inner key place attributes r

  -- ---- how many values a recipe takes

  abbrev pub is_star : ParameterKind → Bool
  is_star Star = true
  is_star other = false

  abbrev pub is_required : List AttributeShape → ParameterShape → Bool
  is_required attributes p = not (is_some p.default) && not (is_star p.kind) && not (is_flag w.expansion attributes p.name)

  -- the last parameter takes all that remain
  abbrev pub is_open : List ParameterShape → Bool
  is_open [] = false
  is_open (p ∷ []) = is_variadic p.kind
  is_open (p ∷ q ∷ ps) = is_open (q ∷ ps)

  abbrev pub takes : List AttributeShape → RecipeShape → ℕ → Bool
  takes attributes r count = nat_le (count_by (is_required attributes) r.parameters) count && (is_open r.parameters || nat_le count (length r.parameters))

  -- a recipe that the module at the path keeps depends on another one
  pub record DependsOn (path : List Text) (name : Text) (path' : List Text) (name' : Text) : Type 0 where
    pub own : Text
    pub is : IsModule w path own
    pub attributes : List AttributeShape
    pub recipe : RecipeShape
    pub kept : Keeps w own a_recipe name (recipe_item attributes recipe)
    pub dependency : DependencyShape
    pub listed : Contains (recipe.priors ++ recipe.subsequents) dependency
    pub modules : List Text
    pub attributes' : List AttributeShape
    pub recipe' : RecipeShape
    pub leads : LeadsToRecipe own dependency.path modules name' attributes' recipe'
    pub below : path' ≡ path ++ modules

  abbrev pub RecipeWalk : List (List Text × Text) → Type 0
  RecipeWalk [] = Unit {0}
  RecipeWalk (a ∷ []) = Unit {0}
  RecipeWalk (a ∷ b ∷ names) = DependsOn a.0 a.1 b.0 b.1 × RecipeWalk (b ∷ names)

  -- each depends on the next one, and the last is the first again
  pub record IsRecipeCycle (recipes : List (List Text × Text)) : Type 0 where
    pub long : 1 < length recipes
    pub closed : slice_get recipes 0 ≡ slice_get recipes (length recipes - 1)
    pub walk : RecipeWalk recipes
