-- The words that commands and scripts stand after.
use Rattle.std.specs.Prelude.{ℕ, List, [], ◌∷◌, codes, Option, Some, None}

abbrev pub two : List ℕ → List ℕ → List (List ℕ)
two first second = first ∷ second ∷ []

-- the configuration's shell and its arguments; where one is missing `sh` or `-cu`, where both are the setting's words, else `sh -cu`
abbrev pub shell_words : Option (List ℕ) → Option (List (List ℕ)) → Option (List (List ℕ)) → List (List ℕ)
shell_words (Some shell) (Some arguments) set = shell ∷ arguments
shell_words (Some shell) None set = two shell (codes "-cu")
shell_words None (Some arguments) set = codes "sh" ∷ arguments
shell_words None None (Some words) = words
shell_words None None None = two (codes "sh") (codes "-cu")

-- the setting's words, else `sh -eu`
abbrev pub script_words : Option (List (List ℕ)) → List (List ℕ)
script_words (Some words) = words
script_words None = two (codes "sh") (codes "-eu")
