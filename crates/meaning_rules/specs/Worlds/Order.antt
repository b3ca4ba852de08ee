-- Files in the order in which they are imported, by what each imports.
use Rattle.std.specs.Prelude.{◌≡◌, ℕ, suc, ◌<◌, Bool, cond, List, ◌∷◌, ◌++◌, Some, slice_get, Contains, bytes_eq, []}
use Rattle.std.specs.List.{list_any, flat_map}

-- a key
abbrev Text : Type 0
Text = List ℕ

-- each text where it stands first
abbrev pub is_among : List Text → Text → Bool
is_among texts text = list_any (λ other. bytes_eq other text) texts

abbrev pub firsts_behind : List Text → List Text → List Text
firsts_behind earlier [] = []
firsts_behind earlier (text ∷ texts) = cond (is_among earlier text) (firsts_behind earlier texts) (text ∷ firsts_behind (earlier ++ text ∷ []) texts)

abbrev pub first_texts : List Text → List Text
first_texts = firsts_behind []

-- the one text stands in the row at a place before all places of the other
abbrev pub IsNamedBefore : List Text → Text → Text → Type 0
IsNamedBefore row a b = (u : ℕ) × (slice_get row u ≡ Some a) × ((v : ℕ) → slice_get row v ≡ Some b → u < v)

module _ (imports : Text → List Text) where
  -- a file that stands before the place imports it
  pub record IsLed (files : List Text) (place : ℕ) (file : Text) : Type 0 where
    pub at : ℕ
    pub importer : Text
    pub earlier : at < place
    pub found : slice_get files at ≡ Some importer
    pub imported : Contains (imports importer) file

  -- A module's files in an order: its own, and after it the files that these import, in order and each once, each after one that imports it.
  pub record IsInOrder (own : Text) (files : List Text) : Type 0 where
    pub first : slice_get files 0 ≡ Some own
    pub whole : files ≡ first_texts (own ∷ flat_map imports files)
    pub led : (place : ℕ) (file : Text) → slice_get files (suc place) ≡ Some file → IsLed files (suc place) file
