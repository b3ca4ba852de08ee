-- What words may name, and how parameters take words.
use Rattle.std.specs.Prelude.{ℕ, ◌≡◌, ◌⊎◌, ◌==◌, ◌||◌, Bool, true, false, List, Option, Some, None, is_some, slice_get}
use Rattle.std.specs.BTreeMap.{get, get_by}
use Rattle.std.specs.BTreeSet.{BTreeSet, contains}
use Rattle.std.specs.Cmp.Lexicographic.{slice_cmp}
use Rattle.std.specs.Option.{option_and_then}
use Rattle.std.specs.Ordering.{nat_cmp}
use Rattle.std.specs.Str.{bytes_eq}
use Rattle.std.specs.Borrow.{Bor}
use Rattle.analyze_words.specs.declared.menu.Slot.{Slot}
use Rattle.analyze_words.specs.declared.menu.Menu.{Menu}
use Rattle.analyze_words.specs.declared.menu.Menus.{Menus}
use Rattle.analyze_words.specs.declared.menu.Meaning.{Meaning}
use Rattle.analyze_words.specs.declared.menu.Meaning.TheVariants.{Recipe, Submodule}
use Rattle.analyze_words.specs.declared.options.OptionPlaces.{OptionPlaces}

-- an option gives the parameter its value, and no word by its place
abbrev pub is_option : Slot → Bool
is_option slot = is_some slot.long || is_some slot.short

-- the option's name after two dashes is this
abbrev pub is_long : Option (Bor (List ℕ)) → List ℕ → Bool
is_long None name = false
is_long (Some long) name = bytes_eq long.now name

abbrev pub has_long : List ℕ → Slot → Bool
has_long name slot = is_long slot.long name

-- the option's name after one dash is this
abbrev pub is_short : Option ℕ → ℕ → Bool
is_short None name = false
is_short (Some short) name = short == name

abbrev pub has_short : ℕ → Slot → Bool
has_short name slot = is_short slot.short name

-- the place of the parameter with an option's name after two dashes
abbrev pub long_place : OptionPlaces → Bor (List ℕ) → Option ℕ
long_place places name = get (λ x y. slice_cmp nat_cmp x.now y.now) places.long name

-- the place of the parameter with an option's name after one dash
abbrev pub short_place : OptionPlaces → ℕ → Option ℕ
short_place places name = get nat_cmp places.short name

-- what a name stands for in a module
abbrev pub meaning : Menu → List ℕ → Option Meaning
meaning menu name = get_by (λ key. slice_cmp nat_cmp name key.now) menu.names

-- what a name stands for in the module at a place
abbrev pub meaning_in : Menus → ℕ → List ℕ → Option Meaning
meaning_in menus place name = option_and_then (λ menu. meaning menu name) (slice_get menus.modules.items place)

-- the default of the module at a place
abbrev pub default_in : Menus → ℕ → Option ℕ
default_in menus place = option_and_then (λ menu. menu.default) (slice_get menus.modules.items place)

-- the recipe for which a name stands that has a meaning
abbrev pub recipe_of : Meaning → Option ℕ
recipe_of (Recipe place) = Some place
recipe_of (Submodule place) = None

-- there is a place, and it is this
abbrev pub is_place : Option ℕ → ℕ → Bool
is_place None other = false
is_place (Some place) other = place == other

-- a name of the menu stands for the recipe, or the recipe is its default
abbrev pub Names : Menu → ℕ → Type 0
Names menu recipe = (menu.default ≡ Some recipe) ⊎ ((name : List ℕ) × (meaning menu name ≡ Some (Recipe recipe)))

-- a set of places has the place
abbrev pub has : BTreeSet ℕ → ℕ → Bool
has places place = contains nat_cmp places place

-- a set gains the recipes that the menu names
pub record AddsRecipes (menu : Menu) (before after : BTreeSet ℕ) : Type 0 where
  pub kept : (recipe : ℕ) → has before recipe ≡ true → has after recipe ≡ true
  pub added : (recipe : ℕ) → Names menu recipe → has after recipe ≡ true
  pub sound : (recipe : ℕ) → has after recipe ≡ true → (has before recipe ≡ true) ⊎ Names menu recipe
