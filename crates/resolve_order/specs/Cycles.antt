-- Cycles of variables that read each other.
use Rattle.std.specs.Prelude.{◌≡◌, ◌<◌, ◌≤◌, ◌-◌, ℕ, suc, Bool, true, false, List, [], ◌∷◌, ◌++◌, Option, length, Some, slice_get, Contains}
use Rattle.resolve_order.specs.Reads.{ReadsThrough}
use Rattle.resolve_order.specs.Flooded.{is_stop, leads_of, IsMarked, Reaches}
use Rattle.resolve_order.specs.declared.fault.OrderFault.{OrderFault}
use Rattle.resolve_order.specs.declared.fault.OrderFault.TheVariants.{OutOfMemory, Cycle}

module _ (graph : List (List ℕ)) (variables : ℕ) where
  -- each reads the one after it
  abbrev pub Walks : List ℕ → Type 0
  Walks [] = Unit {0}
  Walks (a ∷ []) = Unit {0}
  Walks (a ∷ b ∷ places) = ReadsThrough graph variables a b × Walks (b ∷ places)

  -- variables of which each reads the next, two places or more, the last the first again
  pub record IsReadCycle (places : List ℕ) : Type 0 where
    pub long : 1 < length places
    pub closed : slice_get places 0 ≡ slice_get places (length places - 1)
    pub each : (place : ℕ) → Contains places place → place < variables
    pub walk : Walks places

  -- what a refusal says is so
  abbrev pub IsReadReason : OrderFault → Type 0
  IsReadReason OutOfMemory = Unit {0}
  IsReadReason (Cycle places) = IsReadCycle places.items

  -- a row has the variables that a place reads
  pub record IsReadRow (place : ℕ) (row : List ℕ) : Type 0 where
    pub sound : (read : ℕ) → Contains row read → (read < variables) × ReadsThrough graph variables place read
    pub complete : (read : ℕ) → read < variables → ReadsThrough graph variables place read → Contains row read

  -- the rows of the first places, as many as are counted
  pub record AreReadRows (count : ℕ) (rows : List (List ℕ)) : Type 0 where
    pub many : length rows ≡ count
    pub each : (place : ℕ) (row : List ℕ) → slice_get rows place ≡ Some row → IsReadRow place row

-- the first places are stops, and no others
pub record AreStops (variables : ℕ) (stops : List Bool) : Type 0 where
  pub first : (place : ℕ) → place < variables → is_stop stops place ≡ true
  pub others : (place : ℕ) → variables ≤ place → is_stop stops place ≡ false

-- a stop that is there is reached from a place by one lead or more, through no stop
pub record ReachesStop (graph : List (List ℕ)) (stops : List Bool) (place stop : ℕ) : Type 0 where
  pub stopped : is_stop stops stop ≡ true
  pub there : stop < length graph
  pub reached : Reaches graph stops (leads_of graph place) stop

-- of the first places, as many as are counted, each but the first is a stop that is reached from the one before it
abbrev pub ReachNext : List (List ℕ) → List Bool → List ℕ → ℕ → Type 0
ReachNext graph stops places count = (at place stop : ℕ) → suc at < count → slice_get places at ≡ Some place → slice_get places (suc at) ≡ Some stop → ReachesStop graph stops place stop

-- there are two places or more, and the last is the first again
pub record IsClosed (places : List ℕ) : Type 0 where
  pub long : 1 < length places
  pub same : slice_get places 0 ≡ slice_get places (length places - 1)

-- a row has the first places that are marked, as many as are counted
pub record IsMarkedRow (marks : List (Option ℕ)) (count : ℕ) (row : List ℕ) : Type 0 where
  pub sound : (place : ℕ) → Contains row place → (place < count) × IsMarked marks place
  pub complete : (place : ℕ) → place < count → IsMarked marks place → Contains row place

-- the place stands in the row too, if it is marked
pub data IsAdded (marks : List (Option ℕ)) (place : ℕ) (row : List ℕ) : List ℕ → Type 0 where
  added : IsMarked marks place → IsAdded marks place row (row ++ place ∷ [])
  skipped : (IsMarked marks place → ⊥) → IsAdded marks place row row
