-- The folders that commands run in.
use Rattle.std.specs.Prelude.{ℕ, List, Option, Some, None}
use Rattle.just_value.specs.Paths.{join}

-- the setting's folder below the base, which is the folder itself where nothing is set
abbrev pub folder_below : List ℕ → Option (List ℕ) → List ℕ
folder_below base None = base
folder_below base (Some folder) = join base folder
