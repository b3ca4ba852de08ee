-- What the parts of menus are made of.
use Rattle.std.specs.Prelude.{◌≡◌, ℕ, Bool, true, cond, List, [], length, map, Option, Some, None, slice_get, option_map}
use Rattle.std.specs.BTreeSet.{BTreeSet}
use Rattle.std.specs.Option.{option_and_then, option_or}
use Rattle.std.specs.Str.{bytes_eq}
use Rattle.just_text.specs.Tokens.{lexeme}
use Rattle.modules_compilation.specs.declared.compilation.Compilation.{Compilation}
use Rattle.modules_compilation.specs.declared.module_node.ModuleNode.{ModuleNode}
use Rattle.modules_compilation.specs.declared.place.Place.{Place}
use Rattle.resolve_recipes.specs.Defaults.{default_of}
use Rattle.resolve_recipes.specs.Named.{text_at}
use Rattle.resolve_recipes.specs.Standing.{place_in}
use Rattle.resolve_analysis.specs.declared.recipes.RecipeTable.{RecipeTable}
use Rattle.resolve_analysis.specs.declared.recipes.ResolvedRecipe.{ResolvedRecipe}
use Rattle.analyze_words.specs.Menus.{Names, has, meaning}
use Rattle.analyze_words.specs.Worded.{slot_of}
use Rattle.analyze_words.specs.declared.menu.Callable.{Callable}
use Rattle.analyze_words.specs.declared.menu.Meaning.{Meaning}
use Rattle.analyze_words.specs.declared.menu.Meaning.TheVariants.{Recipe}
use Rattle.analyze_words.specs.declared.menu.Menu.{Menu}
use Rattle.justfile_analyzer.specs.MenusOf.{meant_in, rank_at, slots_at}

-- a menu gains meanings of names, which take the place of others
pub record Gains (gained : List ℕ → Option Meaning) (before after : Menu) : Type 0 where
  pub names : (name : List ℕ) → meaning after name ≡ option_or (gained name) (meaning before name)

-- what a name stands for by the recipe at a place
abbrev pub put_at : Compilation → RecipeTable → Place → List ℕ → Option Meaning
put_at compilation table place name = cond (bytes_eq (text_at compilation place) name) (option_map Recipe (rank_at table place)) None

-- the menu of the module at a place
pub record IsMenuOf (compilation : Compilation) (table : RecipeTable) (wanted : List ℕ → Bool) (place : ℕ) (node : ModuleNode) (menu : Menu) : Type 0 where
  pub names : (name : List ℕ) → meaning menu name ≡ meant_in compilation table wanted place node name
  pub default : menu.default ≡ option_and_then (place_in table.places) (default_of compilation node)

-- as many of these as of those, and each stands so to the one at its place
pub record EachIs {X Y : Type 0} (Is : ℕ → X → Y → Type 0) (xs : List X) (ys : List Y) : Type 0 where
  pub many : length ys ≡ length xs
  pub each : (place : ℕ) (x : X) (y : Y) → slice_get xs place ≡ Some x → slice_get ys place ≡ Some y → Is place x y

-- the menus of these modules
abbrev pub AreMenus : Compilation → RecipeTable → (List ℕ → Bool) → List ModuleNode → List Menu → Type 0
AreMenus compilation table wanted nodes menus = EachIs (IsMenuOf compilation table wanted) nodes menus

-- one of the menus names the recipe
abbrev pub IsNamedBy : List Menu → ℕ → Type 0
IsNamedBy menus recipe = (place : ℕ) × (menu : Menu) × (slice_get menus place ≡ Some menu) × Names menu recipe

-- just the recipes that the menus name
pub record AreNamedBy (menus : List Menu) (recipes : BTreeSet ℕ) : Type 0 where
  pub there : (recipe : ℕ) → IsNamedBy menus recipe → has recipes recipe ≡ true
  pub sound : (recipe : ℕ) → has recipes recipe ≡ true → IsNamedBy menus recipe

-- the recipe by its name, and by its parameters if it is named
pub record IsCallable (compilation : Compilation) (named : Bool) (resolved : ResolvedRecipe) (callable : Callable) : Type 0 where
  pub name : callable.name.now ≡ lexeme resolved.name.token
  pub slots : map slot_of callable.slots.items ≡ cond named (slots_at compilation resolved.place) []

-- these recipes, of which those are named whose ranks are there
abbrev pub AreCallables : Compilation → BTreeSet ℕ → List ResolvedRecipe → List Callable → Type 0
AreCallables compilation named recipes callables = EachIs (λ rank. IsCallable compilation (has named rank)) recipes callables
