-- How words are split into overrides, a search directory and arguments.
use Rattle.std.specs.Prelude.{ℕ, List, [], ◌∷◌, ◌++◌, ◌-◌, ◌==◌, ◌||◌, not, cond, Bool, map, take, drop, length, codes, Option, Some, None}
use Rattle.std.specs.List.{list_any, take_while, prefix_len, suffix_len, before_first, after_first}
use Rattle.std.specs.Option.{option_to_list}
use Rattle.std.specs.Str.{bytes_eq}
use Rattle.just_value.specs.declared.positional.Override.{Override}
use Rattle.just_value.specs.declared.positional.Opening.{Opening}
use Rattle.just_value.specs.declared.positional.Positional.{Positional}

abbrev pub is_equals : ℕ → Bool
is_equals b = b == 61

abbrev pub is_slash : ℕ → Bool
is_slash b = b == 47

-- a word with `=` in it
abbrev pub is_override : List ℕ → Bool
is_override word = list_any is_equals word

-- it is cut at its first `=`
abbrev pub override_of : List ℕ → Override
override_of word = record { name = before_first is_equals word; value = after_first is_equals word }

abbrev pub is_dots : List ℕ → Bool
is_dots word = bytes_eq word (codes ".") || bytes_eq word (codes "..")

-- the place after the last `/`
abbrev pub slash_end : List ℕ → ℕ
slash_end word = length word - suffix_len (λ b. not (is_slash b)) word

abbrev pub unless_empty : List ℕ → Option (List ℕ)
unless_empty [] = None
unless_empty (b ∷ bs) = Some (b ∷ bs)

-- what the first word gives that is no override: `.` and `..` are a search directory, a word with `/` is cut after its last, any other is an argument
abbrev pub opening : List ℕ → Opening
opening word =
    cond (is_dots word) (record { directory = Some word; argument = None })
    (cond (list_any is_slash word) (record { directory = Some (take (slash_end word) word); argument = unless_empty (drop (slash_end word) word) })
    (record { directory = None; argument = Some word }))

-- the words from the first that is no override: all after it are arguments
abbrev pub behind : List Override → List (List ℕ) → Positional
behind overrides [] = record { arguments = []; overrides = overrides; search_directory = None }
behind overrides (word ∷ words) = record { arguments = option_to_list (opening word).argument ++ words; overrides = overrides; search_directory = (opening word).directory }

-- the overrides that the words begin with
abbrev pub leading : List (List ℕ) → List Override
leading words = map override_of (take_while is_override words)

abbrev pub split : List (List ℕ) → Positional
split words = behind (leading words) (drop (prefix_len is_override words) words)
