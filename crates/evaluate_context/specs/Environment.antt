-- What commands are told of the environment.
use Rattle.std.specs.Prelude.{◌≡◌, ℕ, ◌&&◌, ◌||◌, Bool, not, cond, List, [], ◌∷◌, ◌++◌, filter, is_some, map, reverse, take, drop, Option, Some, None}
use Rattle.std.specs.Cmp.Lexicographic.{slice_cmp}
use Rattle.std.specs.List.{flat_map, list_any}
use Rattle.std.specs.List.Sorted.{IsStrictlySortedBy}
use Rattle.std.specs.Option.{option_or}
use Rattle.std.specs.Ordering.{nat_cmp}
use Rattle.std.specs.Str.{bytes_eq}
use Rattle.std.specs.String.{string_bytes}
use Rattle.std.specs.declared.string.String.{String}
use Rattle.just_text.specs.Tokens.{lexeme}
use Rattle.just_text.specs.declared.name.Name.{Name}
use Rattle.just_host.specs.declared.job.Pair.{Pair}
use Rattle.just_value.specs.Frames.{BoundRow, WrittenName}
use Rattle.just_value.specs.Values.{joined}

-- the value of a name: the last counts
abbrev pub last_of : List ℕ → List Pair → Option (List ℕ)
last_of name [] = None
last_of name (pair ∷ pairs) = option_or (last_of name pairs) (cond (bytes_eq pair.name name) (Some pair.value) None)

abbrev pub texts : List Name → List (List ℕ)
texts names = map (λ name. lexeme name.token) names

abbrev pub is_among : List (List ℕ) → List ℕ → Bool
is_among names name = list_any (λ other. bytes_eq other name) names

abbrev pub without : List (List ℕ) → List Pair → List Pair
without names pairs = filter (λ pair. not (is_among names pair.name)) pairs

-- a variable of a file
abbrev pub variable : {A : Type 0} → String A × String A → Pair
variable entry = record { name = string_bytes entry.0; value = string_bytes entry.1 }

-- exported by itself, or, where all are, no constant
abbrev pub is_exported : Bool → BoundRow → Bool
is_exported all binding = binding.export || (all && not binding.prelude)

abbrev pub text_of : WrittenName → List ℕ
text_of name = take name.length (drop name.offset name.src)

abbrev pub binding_pair : BoundRow → Pair
binding_pair binding = record { name = text_of binding.name; value = joined binding.value }

abbrev pub frame_pairs : Bool → List BoundRow → List Pair
frame_pairs all frame = map binding_pair (filter (is_exported all) frame)

-- the outermost frame first, of frames innermost first
abbrev pub frames_pairs : Bool → List (List BoundRow) → List Pair
frames_pairs all frames = flat_map (frame_pairs all) (reverse frames)

-- the variables of files and the exported bindings, without these names, and then further pairs
abbrev pub given_pairs : {A : Type 0} → List (String A × String A) → Bool → List (List ℕ) → List Pair → List (List BoundRow) → List Pair
given_pairs variables all unexports env frames = without unexports (map variable variables ++ frames_pairs all frames) ++ env

-- each name once, in byte order, with the value that was given last; of the names that are not exported those are removed that have none
pub record IsEnvironment (given : List Pair) (unexports : List (List ℕ)) (pairs : List Pair) (removed : List (List ℕ)) : Type 0 where
  pub values : (name : List ℕ) → last_of name pairs ≡ last_of name given
  pub sorted : IsStrictlySortedBy (slice_cmp nat_cmp) (map (λ pair. pair.name) pairs)
  pub lacking : removed ≡ filter (λ name. not (is_some (last_of name given))) unexports

-- an entry of a map
abbrev pub pair_at : List ℕ × List ℕ → Pair
pair_at entry = record { name = entry.0; value = entry.1 }
