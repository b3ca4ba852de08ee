-- Paths: their parts, and what is asked of these.
use Rattle.std.specs.Prelude.{◌≡◌, ℕ, ◌+◌, ◌-◌, ◌==◌, ◌&&◌, ◌||◌, nat_lt, not, Bool, true, false, List, [], ◌∷◌, ◌++◌, cond, length, take, codes, Option, Some, None}
use Rattle.std.specs.List.{filter, list_any}
use Rattle.std.specs.Option.{option_map, option_and_then, option_or}
use Rattle.std.specs.Str.{bytes_eq}

-- a part of a path, and the place at which it begins
pub record Part : Type 0 where
  pub start : ℕ
  pub text : List ℕ

-- the place at which a part ends
abbrev pub stop : Part → ℕ
stop part = part.start + length part.text

-- what stands before the first `/`
abbrev pub first_piece : List ℕ → List ℕ
first_piece [] = []
first_piece (b ∷ bs) = cond (b == 47) [] (b ∷ first_piece bs)

-- what stands after each `/` up to the next one, in a text that begins at the place
abbrev pub later_pieces : ℕ → List ℕ → List Part
later_pieces place [] = []
later_pieces place (b ∷ bs) = cond (b == 47) (record { start = place + 1; text = first_piece bs } ∷ later_pieces (place + 1) bs) (later_pieces (place + 1) bs)

-- what stands between the `/` of a text that begins at the place
abbrev pub pieces : ℕ → List ℕ → List Part
pieces place text = record { start = place; text = first_piece text } ∷ later_pieces place text

-- an empty piece is no part, and `.` is one only where the path begins
abbrev pub is_part : Part → Bool
is_part piece = not (length piece.text == 0 || (nat_lt 0 piece.start && bytes_eq piece.text (codes ".")))

-- the parts of a text that begins at the place, without the root
abbrev pub parts_from : ℕ → List ℕ → List Part
parts_from place text = filter is_part (pieces place text)

-- a leading `/` is the root
abbrev pub root_part : List ℕ → List Part
root_part [] = []
root_part (b ∷ bs) = cond (b == 47) (record { start = 0; text = codes "/" } ∷ []) []

-- the parts of a path
unfoldable pub parts : List ℕ → List Part
parts path = root_part path ++ parts_from 0 path

-- the place at which the last of the parts ends
abbrev pub end_of : List Part → ℕ
end_of [] = 0
end_of (part ∷ []) = stop part
end_of (part ∷ other ∷ others) = end_of (other ∷ others)

-- all parts but the last
abbrev pub but_last : List Part → List Part
but_last found = take (length found - 1) found

-- there is a part after the root
abbrev pub has_parent : List Part → Bool
has_parent [] = false
has_parent (part ∷ []) = not (bytes_eq part.text (codes "/"))
has_parent (part ∷ other ∷ others) = true

-- the beginning of the path up to the end of the part before the last
unfoldable pub parent : List ℕ → Option (List ℕ)
parent path = cond (has_parent (parts path)) (Some (take (end_of (but_last (parts path))) path)) None

-- neither the root nor `.` nor `..`
abbrev pub is_name : List ℕ → Bool
is_name text = not (bytes_eq text (codes "/") || (bytes_eq text (codes ".") || bytes_eq text (codes "..")))

abbrev pub last_name : List Part → Option (List ℕ)
last_name [] = None
last_name (part ∷ []) = cond (is_name part.text) (Some part.text) None
last_name (part ∷ other ∷ others) = last_name (other ∷ others)

-- the last part, if it is a name
unfoldable pub file_name : List ℕ → Option (List ℕ)
file_name path = last_name (parts path)

-- what stands before and after the last dot
abbrev pub cut_at_dot : List ℕ → Option (List ℕ × List ℕ)
cut_at_dot [] = None
cut_at_dot (b ∷ bs) = option_or (option_map (λ cut. (b ∷ cut.0, cut.1)) (cut_at_dot bs)) (cond (b == 46) (Some ([], bs)) None)

-- a name before its last dot, or the whole where nothing is before that
abbrev pub stem_by : List ℕ → Option (List ℕ × List ℕ) → List ℕ
stem_by name None = name
stem_by name (Some cut) = cond (length cut.0 == 0) name cut.0

-- a name after its last dot, if something is before that
abbrev pub extension_by : Option (List ℕ × List ℕ) → Option (List ℕ)
extension_by None = None
extension_by (Some cut) = cond (length cut.0 == 0) None (Some cut.1)

unfoldable pub file_stem : List ℕ → Option (List ℕ)
file_stem path = option_map (λ name. stem_by name (cut_at_dot name)) (file_name path)

unfoldable pub extension : List ℕ → Option (List ℕ)
extension path = option_and_then (λ name. extension_by (cut_at_dot name)) (file_name path)

abbrev pub is_absolute : List ℕ → Bool
is_absolute [] = false
is_absolute (b ∷ bs) = b == 47

-- nothing, or a text that ends in `/`
abbrev pub takes_more : List ℕ → Bool
takes_more [] = true
takes_more (b ∷ []) = b == 47
takes_more (b ∷ c ∷ bs) = takes_more (c ∷ bs)

-- an absolute right side, or the right side after the left, with a `/` between where one is needed
unfoldable pub join : List ℕ → List ℕ → List ℕ
join left right = cond (is_absolute right) right (left ++ (cond (takes_more left) [] (codes "/") ++ right))

-- after no `/` stands nothing, or `.` alone
abbrev pub IsPlain : List ℕ → Type 0
IsPlain path = list_any (λ piece. length piece.text == 0 || bytes_eq piece.text (codes ".")) (later_pieces 0 path) ≡ false

-- such a path is its parent joined with its file name
abbrev pub JoinedAgain : Type 0
JoinedAgain = (path dir name : List ℕ) → IsPlain path → parent path ≡ Some dir → file_name path ≡ Some name → join dir name ≡ path

-- a text, or `.` for the empty one
abbrev pub or_dot : List ℕ → List ℕ
or_dot [] = codes "."
or_dot (b ∷ bs) = b ∷ bs

-- the parent, or `.` for an empty one
abbrev pub directory : List ℕ → Option (List ℕ)
directory path = option_map or_dot (parent path)

-- a parent and a stem joined, if there are both
abbrev pub joined_parts : Option (List ℕ) → Option (List ℕ) → Option (List ℕ)
joined_parts (Some dir) (Some stem) = Some (join dir stem)
joined_parts (Some dir) None = None
joined_parts None stem = None

-- the parent joined with the stem
abbrev pub stemmed : List ℕ → Option (List ℕ)
stemmed path = joined_parts (parent path) (file_stem path)

-- the refusal of a path without such a part
abbrev pub lacking : List ℕ → List ℕ → List ℕ
lacking part path = codes "could not extract " ++ (part ++ (codes " from `" ++ (path ++ codes "`")))

-- the first part that is missing, of the parent and the stem
abbrev pub missing : Option (List ℕ) → List ℕ
missing None = codes "parent"
missing (Some dir) = codes "file stem"

-- the refusal of a path without a parent or without a stem
abbrev pub stem_fault : List ℕ → List ℕ
stem_fault path = lacking (missing (parent path)) path
