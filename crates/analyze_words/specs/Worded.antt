-- What menus say about words, by the places of modules and recipes.
use Rattle.std.specs.Prelude.{ℕ, ◌<◌, ⊤, List, [], map, Option, Some, None, cond, length, nat_lt, slice_get}
use Rattle.std.specs.Char.{encode_utf8}
use Rattle.std.specs.Option.{option_map, option_and_then}
use Rattle.analyze_words.specs.declared.menu.Callable.{Callable}
use Rattle.analyze_words.specs.declared.menu.Meaning.{Meaning}
use Rattle.analyze_words.specs.declared.menu.Meaning.TheVariants.{Recipe, Submodule}
use Rattle.analyze_words.specs.declared.menu.Menus.{Menus}
use Rattle.analyze_words.specs.declared.menu.Slot as menu
use Rattle.analyze_words.specs.declared.parser.Invocation.{Invocation}
use Rattle.analyze_words.specs.Menus.{meaning_in, default_in}
use Rattle.meaning_runs.specs.Words.{Slot, Words, WordMeaning, recipe, submodule}

-- the parameter; the name of its option after one dash is a text of one character
abbrev pub slot_of : menu.Slot → Slot
slot_of slot = record {
  long = option_map (λ name. name.now) slot.long;
  short = option_map encode_utf8 slot.short;
  takes_value = slot.takes_value;
  multiple = slot.multiple;
  variadic = slot.variadic;
  required = slot.required;
}

abbrev pub slots_of : Option Callable → List Slot
slots_of None = []
slots_of (Some callable) = map slot_of callable.slots.items

abbrev pub name_of : Option Callable → List ℕ
name_of None = []
name_of (Some callable) = callable.name.now

-- a recipe's place, if a recipe stands there
abbrev pub there : Menus → ℕ → Option ℕ
there menus place = cond (nat_lt place (length menus.recipes.items)) (Some place) None

-- what a name means that stands for this; one that stands for a recipe that isn't there means nothing
abbrev pub meant : Menus → Meaning → Option (WordMeaning ℕ ℕ)
meant menus (Recipe place) = option_map recipe (there menus place)
meant menus (Submodule place) = Some (submodule place)

-- what words mean by a meaning whose recipe is there
abbrev pub as_word : Meaning → WordMeaning ℕ ℕ
as_word (Recipe place) = recipe place
as_word (Submodule place) = submodule place

abbrev pub IsThere : Menus → Meaning → Type 0
IsThere menus (Recipe place) = place < length menus.recipes.items
IsThere menus (Submodule place) = ⊤

-- the module that a name means
abbrev pub inner_of : WordMeaning ℕ ℕ → Option ℕ
inner_of (recipe place) = None
inner_of (submodule place) = Some place

-- the menus, whose first module is the root
abbrev pub words_of : Menus → Words ℕ ℕ
words_of menus = record {
  root = 0;
  lists = menus.default_list;
  meaning = λ place name. option_and_then (meant menus) (meaning_in menus place name);
  default = λ place. option_and_then (there menus) (default_in menus place);
  name = λ place. name_of (slice_get menus.recipes.items place);
  slots = λ place. slots_of (slice_get menus.recipes.items place);
}

-- the recipe's place, and the groups of its parameters
abbrev pub row_of : Invocation → ℕ × List (List (List ℕ))
row_of invocation = (invocation.recipe, invocation.groups.items)
