-- Lists of texts: how they are joined, applied to one another and printed.
use Rattle.std.specs.Prelude.{◌≡◌, ◌<◌, ℕ, List, [], ◌∷◌, ◌++◌, ◌==◌, cond, map, length, slice_index_or, codes, Option, Some, None}
use Rattle.std.specs.List.{flat_map}

-- the texts with a space between two
abbrev pub joined : List (List ℕ) → List ℕ
joined [] = []
joined (text ∷ texts) = text ++ flat_map (λ more. codes " " ++ more) texts

-- the text before each of the others, with the separator between
abbrev pub before_each : List ℕ → List ℕ → List (List ℕ) → List (List ℕ)
before_each separator text others = map (λ other. text ++ (separator ++ other)) others

-- the text after each of the others, with the separator between
abbrev pub behind_each : List ℕ → List (List ℕ) → List ℕ → List (List ℕ)
behind_each separator others text = map (λ other. other ++ (separator ++ text)) others

-- each text and the one at its place in the other list, with the separator between
abbrev pub pairwise : List ℕ → List (List ℕ) → List (List ℕ) → List (List ℕ)
pairwise separator (text ∷ texts) (other ∷ others) = (text ++ (separator ++ other)) ∷ pairwise separator texts others
pairwise separator texts others = []

-- lists of one length go pairwise, others not together
abbrev pub paired : List ℕ → List (List ℕ) → List (List ℕ) → Option (List (List ℕ))
paired separator texts others = cond (length texts == length others) (Some (pairwise separator texts others)) None

-- a single text goes with each of one or more others, and lists of one length go pairwise; no others go together
abbrev pub applied : List ℕ → List (List ℕ) → List (List ℕ) → Option (List (List ℕ))
applied separator (text ∷ []) (other ∷ others) = Some (before_each separator text (other ∷ others))
applied separator (text ∷ texts) (other ∷ []) = Some (behind_each separator (text ∷ texts) other)
applied separator texts others = paired separator texts others

-- a byte after a backslash
abbrev pub backslashed : ℕ → List ℕ
backslashed byte = 92 ∷ byte ∷ []

-- a byte between double quotes: tab, newline, carriage return, double quote and backslash are escaped
abbrev pub escaped : ℕ → List ℕ
escaped byte =
    cond (byte == 9) (backslashed 116)
    (cond (byte == 10) (backslashed 110)
    (cond (byte == 13) (backslashed 114)
    (cond (byte == 34) (backslashed 34)
    (cond (byte == 92) (backslashed 92)
    (byte ∷ [])))))

-- a text between double quotes
abbrev pub quoted : List ℕ → List ℕ
quoted text = codes "\"" ++ (flat_map escaped text ++ codes "\"")

-- texts between double quotes, each after a comma and a space
abbrev pub more_quoted : List (List ℕ) → List ℕ
more_quoted texts = flat_map (λ text. codes ", " ++ quoted text) texts

-- a single element between double quotes, any other number of them in brackets with a comma and a space between two
abbrev pub value_text : List (List ℕ) → List ℕ
value_text [] = codes "[]"
value_text (text ∷ []) = quoted text
value_text (text ∷ other ∷ others) = codes "[" ++ (quoted text ++ (more_quoted (other ∷ others) ++ codes "]"))

-- one text joined is that text
abbrev pub JoinedAlone : Type 0
JoinedAlone = (text : List ℕ) → joined (text ∷ []) ≡ text

-- of two lists of one length each text goes with the one at its place
abbrev pub GoPairwise : Type 0
GoPairwise = (separator : List ℕ) (texts others both : List (List ℕ)) → length texts ≡ length others → applied separator texts others ≡ Some both
    → (length both ≡ length texts) × ((i : ℕ) → i < length texts → slice_index_or both i [] ≡ slice_index_or texts i [] ++ (separator ++ slice_index_or others i []))
