-- A path is printed as its names with `::` between two.
use Rattle.std.proofs.Common.{◌≡◌, List, [], ◌∷◌, ◌++◌, codes, refl, ap}
use Rattle.std.specs.List.{flat_map}
use Rattle.just_text.specs.Names.{more_names, path_text, joined_names}
use Rattle.just_text.specs.Tokens.{lexeme}
use Rattle.just_text.specs.declared.name.Name.{Name}
use Rattle.tree_items.specs.Paths.{path_names}

behind : (names : List Name) → flat_map (λ n. codes "::" ++ n) (path_names names) ≡ more_names names
behind [] = refl
behind (n ∷ ns) = ap (λ text. (codes "::" ++ lexeme n.token) ++ text) (behind ns)

pub path_is : (names : List Name) → joined_names (path_names names) ≡ path_text names
path_is [] = refl
path_is (n ∷ ns) = ap (λ text. lexeme n.token ++ text) (behind ns)
