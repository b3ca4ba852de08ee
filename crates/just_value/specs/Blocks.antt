-- Elements in blocks: what the blocks hold one behind the other, and where each begins.
use Rattle.std.specs.Prelude.{◌≡◌, ℕ, ◌+◌, ◌<◌, ◌≤◌, List, length, take, get_or}
use Rattle.std.specs.List.{flat_map}
use Rattle.std.specs.Global.{Vec}

-- the elements of all blocks
abbrev pub elements : {T : Type 0} → List (Vec T) → List T
elements blocks = flat_map (λ block. block.items) blocks

-- the numbers of elements before each of the first blocks
abbrev pub StartUpTo : {T : Type 0} → ℕ → List (Vec T) → List ℕ → Type 0
StartUpTo most blocks starts = (k d : ℕ) → k < most → get_or starts k d ≡ length (elements (take k blocks))

-- the numbers of elements before each of the blocks; what is behind them is not looked at
pub record AreStarts {T : Type 0} (blocks : List (Vec T)) (starts : List ℕ) : Type 0 where
  pub enough : length blocks ≤ length starts
  pub start : StartUpTo (length blocks) blocks starts

-- the block in which a place stands or begins
pub record IsBlockOf (starts : List ℕ) (count place k : ℕ) : Type 0 where
  pub within : k < count
  pub from : (d : ℕ) → get_or starts k d ≤ place
  pub below : (d : ℕ) → k + 1 < count → place < get_or starts (k + 1) d

-- a block and a place in it: where a place among all elements stands, or the end of the block behind which it is
pub record IsPlaceIn {T : Type 0} (blocks : List (Vec T)) (place : ℕ) (at : ℕ × ℕ) : Type 0 where
  pub block : at.0 < length blocks
  pub position : length (elements (take at.0 blocks)) + at.1 ≡ place
  pub inside : (d : Vec T) → at.1 ≤ length (get_or blocks at.0 d).items
  pub stands : (d : Vec T) → place < length (elements blocks) → at.1 < length (get_or blocks at.0 d).items
