-- The places of names in a list.
use Rattle.std.specs.Prelude.{ℕ, ◌≡◌, ◌+◌, List, [], ◌∷◌, Option, Some, None, if◌then◌else◌}
use Rattle.std.specs.Ordering.{nat_cmp}
use Rattle.std.specs.Cmp.Lexicographic.{slice_cmp}
use Rattle.std.specs.BTreeMap.{get_by}
use Rattle.std.specs.Option.{option_or}
use Rattle.std.specs.Str.{bytes_eq}
use Rattle.parse_attributed_items.specs.declared.places.Places.{Places}

-- the place of a name, if it has one
unfoldable pub place_in : Places → List ℕ → Option ℕ
place_in places name = get_by (λ k. slice_cmp nat_cmp name k.now) places.places

-- the last place at which the name stands, where the first has this number
abbrev pub last_place : List ℕ → ℕ → List (List ℕ) → Option ℕ
last_place name at [] = None
last_place name at (x ∷ xs) = option_or (last_place name (at + 1) xs) (if bytes_eq x name then Some at else None)

-- each name has the last place at which it stands
abbrev pub HasPlaces : Places → List (List ℕ) → Type 0
HasPlaces places names = (name : List ℕ) → place_in places name ≡ last_place name 0 names
