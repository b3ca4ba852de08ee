-- The folder that a root file is sought in.
use Rattle.std.specs.Prelude.{◌≡◌, ◌≢◌, ◌⊎◌, ℕ, List, [], ◌∷◌, ◌++◌, Option, Some, None}
use Rattle.std.specs.Path.{path_join}

-- the rest is the path without a slash at its end; `/` stays as it is
abbrev pub IsWithoutSlash : List ℕ → List ℕ → Type 0
IsWithoutSlash path rest =
    ((rest ≢ []) × (path ≡ rest ++ 47 ∷ []))
    ⊎ ((rest ≡ path) × ((front : List ℕ) → front ≢ [] → path ≢ front ++ 47 ∷ []))

-- the folder is the current one, joined with the search directory where one is given, without a slash at its end
abbrev pub IsBase : List ℕ → Option (List ℕ) → List ℕ → Type 0
IsBase current None folder = folder ≡ current
IsBase current (Some directory) folder = IsWithoutSlash (path_join current directory) folder
