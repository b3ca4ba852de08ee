-- Paths of modules: names with `::` between them.
use Rattle.std.specs.Prelude.{◌≡◌, ℕ, zero, suc, ◌==◌, ◌&&◌, ◌||◌, Bool, false, cond, List, [], ◌∷◌, ◌++◌, codes, length, reverse, Option, Some, None, slice_get}
use Rattle.std.specs.declared.cmp.Ordering.{Ordering}
use Rattle.std.specs.Char.{is_ascii_alphabetic, is_ascii_digit}
use Rattle.std.specs.Cmp.Lexicographic.{slice_cmp, pointwise, texts_ties, lists_ties}
use Rattle.std.specs.List.{list_all, flat_map, onto_first}
use Rattle.std.specs.Option.{option_and_then}
use Rattle.std.specs.Ordering.{nat_cmp, eq_by_cmp}
use Rattle.std.specs.Str.{bytes_eq}
use Rattle.just_text.specs.Tokens.{lexeme}
use Rattle.just_text.specs.declared.name.Name.{Name}
use Rattle.modules_compilation.specs.declared.module_node.ModuleNode.{ModuleNode}

abbrev pub is_start : ℕ → Bool
is_start byte = is_ascii_alphabetic byte || byte == 95

abbrev pub is_continue : ℕ → Bool
is_continue byte = (is_start byte || is_ascii_digit byte) || byte == 45

-- a name as files have them
abbrev pub is_name : List ℕ → Bool
is_name [] = false
is_name (byte ∷ bytes) = is_start byte && list_all is_continue bytes

-- these texts, if each is a name
abbrev pub names : List (List ℕ) → Option (List (List ℕ))
names texts = cond (list_all is_name texts) (Some texts) None

-- what stands between each two `::`, from the left
abbrev pub pieces : List ℕ → List (List ℕ)
pieces [] = [] ∷ []
pieces (b ∷ []) = (b ∷ []) ∷ []
pieces (b ∷ c ∷ bs) = cond (b == 58 && c == 58) ([] ∷ pieces bs) (onto_first b (pieces (c ∷ bs)))

-- the path that one word writes
unfoldable pub path_of_word : List ℕ → Option (List (List ℕ))
path_of_word word = names (pieces word)

-- the path that words write: one word with `::` between its names, or else each word a name
abbrev pub path_of_words : List (List ℕ) → Option (List (List ℕ))
path_of_words [] = Some []
path_of_words (word ∷ []) = path_of_word word
path_of_words (word ∷ other ∷ words) = names (word ∷ other ∷ words)

-- paths name by name, names byte by byte
abbrev pub paths_cmp : List (List ℕ) → List (List ℕ) → Ordering
paths_cmp = slice_cmp (slice_cmp nat_cmp)

abbrev pub paths_eq : List (List ℕ) → List (List ℕ) → Bool
paths_eq = pointwise bytes_eq

pub paths_ties : (xs ys : List (List ℕ)) → paths_eq xs ys ≡ eq_by_cmp paths_cmp xs ys
paths_ties = lists_ties (slice_cmp nat_cmp) texts_ties

-- a name's text, none where there is no name
abbrev pub names_of : Option Name → List (List ℕ)
names_of None = []
names_of (Some name) = lexeme name.token ∷ []

-- the module's own name; the root has none
abbrev pub own_names : ModuleNode → List (List ℕ)
own_names node = names_of node.name

-- the module at a place, if there is one
abbrev pub node_at : List ModuleNode → Option ℕ → Option ModuleNode
node_at modules place = option_and_then (λ place. slice_get modules place) place

-- the names of a module that may be there and of those above it, of so many at most, its own first
abbrev pub names_up : List ModuleNode → Option ModuleNode → ℕ → List (List ℕ)
names_up modules None count = []
names_up modules (Some node) zero = []
names_up modules (Some node) (suc count) = own_names node ++ names_up modules (node_at modules node.parent) count

-- the path of the module at a place
abbrev pub path_in : List ModuleNode → ℕ → List (List ℕ)
path_in modules place = reverse (names_up modules (slice_get modules place) (length modules))
