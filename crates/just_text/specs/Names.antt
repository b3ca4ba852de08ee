-- The printed text of a path of names.
use Rattle.std.specs.Prelude.{ℕ, List, [], ◌∷◌, ◌++◌, codes}
use Rattle.std.specs.List.{flat_map}
use Rattle.just_text.specs.declared.name.Name.{Name}
use Rattle.just_text.specs.Tokens.{lexeme}

-- names with `::` between two
abbrev pub joined_names : List (List ℕ) → List ℕ
joined_names [] = []
joined_names (name ∷ names) = name ++ flat_map (λ n. codes "::" ++ n) names

-- the same of the names of tokens: those after the first one
abbrev pub more_names : List Name → List ℕ
more_names names = flat_map (λ name. codes "::" ++ lexeme name.token) names

abbrev pub path_text : List Name → List ℕ
path_text [] = []
path_text (name ∷ names) = lexeme name.token ++ more_names names
