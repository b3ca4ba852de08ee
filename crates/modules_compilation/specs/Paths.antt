-- Paths: their components, and what a path names from a file on.
use Rattle.std.specs.Prelude.{ℕ, ◌-◌, ◌==◌, ◌||◌, nat_lt, not, Bool, cond, List, [], ◌∷◌, ◌++◌, length, take, drop, codes, Option, Some, None}
use Rattle.std.specs.List.{slice_split, join_with_byte, flat_map, list_all, starts_with}
use Rattle.std.specs.Option.{option_map, option_and_then}
use Rattle.std.specs.Str.{bytes_eq}

-- what stands between the `/` of a path
abbrev pub components : List ℕ → List (List ℕ)
components path = slice_split (λ b. b == 47) path

-- an empty component and `.` lead nowhere
abbrev pub is_here : List ℕ → Bool
is_here component = bytes_eq component [] || bytes_eq component (codes ".")

-- `..` leads to the folder above
abbrev pub is_up : List ℕ → Bool
is_up component = bytes_eq component (codes "..")

-- a component that names something
abbrev pub is_part : List ℕ → Bool
is_part component = not (is_here component || is_up component)

-- each component names something
unfoldable pub is_clean : List ℕ → Bool
is_clean path = list_all is_part (components path)

-- all but the last
abbrev pub but_last : {X : Type 0} → List X → List X
but_last xs = take (length xs - 1) xs

-- the folder above one that is told by its parts
abbrev pub above : List (List ℕ) → Option (List (List ℕ))
above folder = cond (nat_lt 0 (length folder)) (Some (but_last folder)) None

-- where a component leads from a folder
abbrev pub enter : List (List ℕ) → List ℕ → Option (List (List ℕ))
enter folder component = cond (is_here component) (Some folder) (cond (is_up component) (above folder) (Some (folder ++ component ∷ [])))

-- where components lead, one after the other
abbrev pub walk : List (List ℕ) → List (List ℕ) → Option (List (List ℕ))
walk folder [] = Some folder
walk folder (component ∷ others) = option_and_then (λ inner. walk inner others) (enter folder component)

-- what a key or a path begins with before its components: `/`, `~/` or nothing
abbrev pub begins : List ℕ → List ℕ → Bool
begins text mark = starts_with (λ a b. a == b) text mark

abbrev pub front : List ℕ → List ℕ
front text = cond (begins text (codes "/")) (codes "/") (cond (begins text (codes "~/")) (codes "~/") [])

abbrev pub behind_front : List ℕ → List ℕ
behind_front text = drop (length (front text)) text

-- the parts that a path leads to from the folder of a file on, after the front of the file's key
unfoldable pub parts_from : List ℕ → List ℕ → Option (List (List ℕ))
parts_from file path = walk [] (but_last (components (behind_front file)) ++ components path)

-- a folder as the text before the names in it
abbrev pub folder_text : List ℕ → List (List ℕ) → List ℕ
folder_text before parts = before ++ flat_map (λ part. part ++ codes "/") parts

-- a key, where there is a part at all
abbrev pub key_text : List ℕ → List (List ℕ) → Option (List ℕ)
key_text before [] = None
key_text before (part ∷ parts) = Some (before ++ join_with_byte 47 (part ∷ parts))

-- a path that begins with `/` or `~/` stands for itself
abbrev pub stands_alone : List ℕ → Bool
stands_alone path = nat_lt 0 (length (front path))

-- the key that a path names in a file
unfoldable pub key_from : List ℕ → List ℕ → Option (List ℕ)
key_from file path = cond (stands_alone path) (Some path) (option_and_then (key_text (front file)) (parts_from file path))

-- the folder that a path names in a file
unfoldable pub folder_from : List ℕ → List ℕ → Option (List ℕ)
folder_from file path = cond (stands_alone path) (Some (path ++ codes "/")) (option_map (folder_text (front file)) (parts_from file path))
