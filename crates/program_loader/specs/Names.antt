-- The names of root files.
use Rattle.std.specs.Prelude.{◌≡◌, ◌⊎◌, ℕ, List, map, codes}
use Rattle.std.specs.Char.{to_ascii_lowercase}

-- `justfile` or `.justfile`, in any capitals
abbrev pub IsRootName : List ℕ → Type 0
IsRootName name = (map to_ascii_lowercase name ≡ codes "justfile") ⊎ (map to_ascii_lowercase name ≡ codes ".justfile")
