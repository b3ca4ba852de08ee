-- Places by where items stand.
use Rattle.std.specs.Prelude.{ℕ, ◌+◌, ◌&&◌, Bool, nat_eq, cond, List, [], ◌∷◌, Option, Some, None, slice_get}
use Rattle.std.specs.Global.{Vec}
use Rattle.std.specs.Option.{option_or}
use Rattle.modules_compilation.specs.declared.place.Place.{Place}
use Rattle.resolve_recipes.specs.declared.item_places.ItemPlaces.{ItemPlaces}

abbrev pub is_place : Place → Place → Bool
is_place a b = nat_eq a.file b.file && nat_eq a.item b.item

-- what a row may have at a place
abbrev pub read : Option (Option ℕ) → Option ℕ
read None = None
read (Some entry) = entry

abbrev pub entry_in : List (Option ℕ) → ℕ → Option ℕ
entry_in row item = read (slice_get row item)

-- the row of a file, empty where there is none
abbrev pub row_of : Option (Vec (Option ℕ)) → List (Option ℕ)
row_of None = []
row_of (Some row) = row.items

abbrev pub row_in : List (Vec (Option ℕ)) → ℕ → List (Option ℕ)
row_in files file = row_of (slice_get files file)

-- the place of the item that stands there, if it has one
abbrev pub place_in : ItemPlaces → Place → Option ℕ
place_in places item = entry_in (row_in places.files.items item.file) item.item

-- at which place, from a first one on, an item stands last
abbrev pub last_place : ℕ → List Place → Place → Option ℕ
last_place place [] item = None
last_place place (other ∷ others) item = option_or (last_place (place + 1) others item) (cond (is_place other item) (Some place) None)
