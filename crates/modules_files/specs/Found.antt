-- The keys of the sources: where there is a file, and which of them are justfiles of a folder.
use Rattle.std.specs.Prelude.{◌≡◌, ℕ, Bool, true, false, cond, ◌&&◌, ◌||◌, ◌==◌, List, [], ◌∷◌, ◌++◌, Option, Some, None, map, codes, is_some}
use Rattle.std.specs.BTreeMap.{BTreeMap, get_by, get_by_text}
use Rattle.std.specs.BTreeSet.{BTreeSet, contains_by}
use Rattle.std.specs.Borrow.{Bor}
use Rattle.std.specs.Char.{to_ascii_lowercase}
use Rattle.std.specs.Cmp.Lexicographic.{slice_cmp}
use Rattle.std.specs.Global.{Vec}
use Rattle.std.specs.List.{filter, list_any}
use Rattle.std.specs.Option.{option_map, option_map_or}
use Rattle.std.specs.Ordering.{nat_cmp}
use Rattle.std.specs.Str.{bytes_eq}
use Rattle.std.specs.String.{string_bytes}
use Rattle.std.specs.declared.string.String.{String}
use Rattle.modules_compilation.specs.Paths.{key_from, folder_from}

-- a text: a name, a key or a path
abbrev Text : Type 0
Text = List ℕ

-- ---- folders and names

abbrev pub has_slash : Text → Bool
has_slash text = list_any (λ b. b == 47) text

-- the text up to the last `/`, with it
abbrev pub folder_of : Text → Text
folder_of [] = []
folder_of (b ∷ bs) = cond (has_slash (b ∷ bs)) (b ∷ folder_of bs) []

-- what stands after the last `/`
abbrev pub name_of : Text → Text
name_of [] = []
name_of (b ∷ bs) = cond (has_slash (b ∷ bs)) (name_of bs) (b ∷ bs)

-- `justfile` or `.justfile` in any capitals
abbrev pub is_justfile : Text → Bool
is_justfile name = bytes_eq (map to_ascii_lowercase name) (codes "justfile") || bytes_eq (map to_ascii_lowercase name) (codes ".justfile")

-- the key is that of a justfile right in the folder
abbrev pub is_of : Text → Text → Bool
is_of folder key = bytes_eq folder (folder_of key) && is_justfile (name_of key)

-- ---- the sources

module _ {Y Z : Type 0} where
  -- the text at a key
  abbrev pub source_of : BTreeMap (String Y) (String Z) → Text → Option Text
  source_of sources key = option_map string_bytes (get_by_text sources key)

  -- there is a file at the key
  abbrev pub is_there : BTreeMap (String Y) (String Z) → Text → Bool
  is_there sources key = is_some (get_by_text sources key)

  -- the keys, in byte order
  abbrev pub source_keys : BTreeMap (String Y) (String Z) → List Text
  source_keys sources = map (λ entry. string_bytes entry.0) sources.entries

-- the texts that are borrowed
abbrev pub borrowed : List (Bor Text) → List Text
borrowed keys = map (λ key. key.now) keys

-- what a map has at the text
abbrev pub at_text : {V : Type 0} → BTreeMap (Bor Text) V → Text → Option V
at_text table text = get_by (λ key. slice_cmp nat_cmp text key.now) table

-- the keys that stand at a folder
abbrev pub keys_at : BTreeMap (Bor Text) (Vec (Bor Text)) → Text → List Text
keys_at table folder = option_map_or (λ keys. borrowed keys.items) (at_text table folder) []

-- whether the text is among those of a set
abbrev pub has_text : BTreeSet (Bor Text) → Text → Bool
has_text set text = contains_by (λ key. slice_cmp nat_cmp text key.now) set

-- the justfiles among these keys stand at their folders, in their order
abbrev pub AreGrouped : List Text → BTreeMap (Bor Text) (Vec (Bor Text)) → Type 0
AreGrouped keys table = (folder : Text) → keys_at table folder ≡ filter (is_of folder) keys

module _ {Y Z : Type 0} (sources : BTreeMap (String Y) (String Z)) where
  -- the file at a key, if the key is known and a file is there
  abbrev pub file_at : Option Text → Option (Text × Text)
  file_at None = None
  file_at (Some key) = option_map (λ text. (key, text)) (source_of sources key)

  -- this is the key, and a file is there
  abbrev pub is_key : Option Text → Text → Bool
  is_key None other = false
  is_key (Some key) other = bytes_eq other key && is_there sources key

  module _ (folders : BTreeMap (Bor Text) (Vec (Bor Text))) where
    -- the key is that of a justfile or of `mod.just` in the folder
    abbrev pub is_inside : Text → Text → Bool
    is_inside folder key = list_any (bytes_eq key) (keys_at folders folder) || is_key (Some (folder ++ codes "mod.just")) key

    abbrev pub is_inside_at : Option Text → Text → Bool
    is_inside_at None key = false
    is_inside_at (Some folder) key = is_inside folder key

    -- what a path means: the key that it names, or else what stands in its folder
    abbrev pub is_placed_if : Bool → Option Text → Option Text → Text → Bool
    is_placed_if true named folder key = is_key named key
    is_placed_if false named folder key = is_inside_at folder key

    -- what a submodule of a file may mean, by its name and its path
    abbrev pub may_mean : Text → Text → Option Text → Text → Bool
    may_mean file name None key = is_key (key_from file (name ++ codes ".just")) key || is_inside_at (folder_from file name) key
    may_mean file name (Some path) key = is_placed_if (is_some (file_at (key_from file path))) (key_from file path) (folder_from file path) key
