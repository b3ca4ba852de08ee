-- What is reached from places of a graph, without going through stops.
use Rattle.std.specs.Prelude.{◌≡◌, ◌<◌, ◌+◌, ◌⊎◌, ℕ, Bool, true, false, if◌then◌else◌, List, [], ◌∷◌, ◌++◌, Option, Some, None, length, get_or, slice_get, slice_set, Contains}

abbrev pub is_stop : List Bool → ℕ → Bool
is_stop stops place = get_or stops place false

-- what a place leads to
abbrev pub leads_of : List (List ℕ) → ℕ → List ℕ
leads_of graph place = get_or graph place []

-- what is followed from a place: what it leads to, and nothing from a stop
abbrev pub followed : List (List ℕ) → List Bool → ℕ → List ℕ
followed graph stops place = if is_stop stops place then [] else leads_of graph place

-- what is reached from the roots
pub data Reaches (graph : List (List ℕ)) (stops : List Bool) (roots : List ℕ) : ℕ → Type 0 where
  root : {place : ℕ} → Contains roots place → Reaches graph stops roots place
  further : {place other : ℕ} → Reaches graph stops roots place → Contains (followed graph stops place) other → Reaches graph stops roots other

-- the place has a mark
abbrev pub IsMarked : List (Option ℕ) → ℕ → Type 0
IsMarked marks place = (mark : ℕ) × (slice_get marks place ≡ Some (Some mark))

abbrev pub IsUnmarked : List (Option ℕ) → ℕ → Type 0
IsUnmarked marks place = slice_get marks place ≡ Some None

pub record AreUnmarked (count : ℕ) (marks : List (Option ℕ)) : Type 0 where
  pub many : length marks ≡ count
  pub none_is : (place : ℕ) → IsMarked marks place → ⊥

-- the place has got the mark, where it is there and had none
abbrev pub Takes : List (Option ℕ) → ℕ → ℕ → Bool → List (Option ℕ) → Type 0
Takes old place mark true new = IsUnmarked old place × (new ≡ slice_set old place (Some mark))
Takes old place mark false new = (IsUnmarked old place → ⊥) × (new ≡ old)

-- a place that was taken from the stack is passed, or it is marked and what is followed from it is put there
pub data Turn (graph : List (List ℕ)) (stops : List Bool) (mark place : ℕ) (marks : List (Option ℕ)) (stack : List ℕ) : List (Option ℕ) → List ℕ → Type 0 where
  passed : (IsUnmarked marks place → ⊥) → Turn graph stops mark place marks stack marks stack
  taken : IsUnmarked marks place → Turn graph stops mark place marks stack (slice_set marks place (Some mark)) (stack ++ followed graph stops place)

-- what is marked so far, and what lies on the stack
pub record IsFlooded (graph : List (List ℕ)) (stops : List Bool) (roots : List ℕ) (old marks : List (Option ℕ)) (stack : List ℕ) : Type 0 where
  pub many : length marks ≡ length old
  pub kept : (place : ℕ) → IsMarked old place → IsMarked marks place
  pub sound : (place : ℕ) → IsMarked marks place → IsMarked old place ⊎ Reaches graph stops roots place
  pub waiting : (place : ℕ) → Contains stack place → Reaches graph stops roots place
  pub begun : (place : ℕ) → Contains roots place → place < length old → IsMarked marks place ⊎ Contains stack place
  pub closed : (place other : ℕ) → IsMarked marks place → (IsMarked old place → ⊥) → Contains (followed graph stops place) other → other < length old → IsMarked marks other ⊎ Contains stack other

-- marked is just what is reached
pub record AreReached (graph : List (List ℕ)) (stops : List Bool) (roots : List ℕ) (marks : List (Option ℕ)) : Type 0 where
  pub many : length marks ≡ length graph
  pub sound : (place : ℕ) → IsMarked marks place → Reaches graph stops roots place
  pub complete : (place : ℕ) → place < length graph → Reaches graph stops roots place → IsMarked marks place

-- the leads of places without a mark
abbrev pub work : List (Option ℕ) → List (List ℕ) → ℕ
work [] rs = 0
work (m ∷ ms) [] = 0
work (None ∷ ms) (r ∷ rs) = length r + work ms rs
work (Some m ∷ ms) (r ∷ rs) = work ms rs
