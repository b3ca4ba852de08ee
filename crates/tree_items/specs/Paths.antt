-- Paths of names: what they say.
use Rattle.std.specs.Prelude.{ℕ, List, map}
use Rattle.just_text.specs.Tokens.{lexeme}
use Rattle.just_text.specs.declared.name.Name.{Name}

-- the texts of a path's names
abbrev pub path_names : List Name → List (List ℕ)
path_names = map (λ name. lexeme name.token)
