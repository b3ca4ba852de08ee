-- A graph with one function in place of others.
use Rattle.std.specs.Prelude.{◌≡◌, ◌<◌, ◌≤◌, ◌⊎◌, ℕ, List, Some, length, slice_get}
use Rattle.resolve_order.specs.Needs.{Needs}

-- The representatives of the first places, as many as are counted: of a variable itself, and of a function a function. There are so many places in all.
pub record AreRepresentatives (variables many count : ℕ) (representatives : List ℕ) : Type 0 where
  pub each : length representatives ≡ count
  pub within : (place representative : ℕ) → slice_get representatives place ≡ Some representative → representative < many
  pub variable : (place representative : ℕ) → slice_get representatives place ≡ Some representative → place < variables → representative ≡ place
  pub function : (place representative : ℕ) → slice_get representatives place ≡ Some representative → variables ≤ place → variables ≤ representative

-- each row has what it had
pub record Grows (old new : List (List ℕ)) : Type 0 where
  pub many : length new ≡ length old
  pub kept : (place read : ℕ) → Needs old place read → Needs new place read

-- one place leads to another, unless both are one function
abbrev pub Leads : ℕ → List (List ℕ) → ℕ → ℕ → Type 0
Leads variables rows place read = ((place ≡ read) × (variables ≤ place)) ⊎ Needs rows place read

-- the same of the representatives of two places
abbrev pub LeadsOver : ℕ → List ℕ → List (List ℕ) → ℕ → ℕ → Type 0
LeadsOver variables representatives rows place read = (own found : ℕ) → slice_get representatives place ≡ Some own → slice_get representatives read ≡ Some found → Leads variables rows own found

-- of the first places that the graph has, as many as are counted, each leads in the rows to what it leads to in the graph
pub record IsContracted (graph : List (List ℕ)) (variables : ℕ) (representatives : List ℕ) (count : ℕ) (rows : List (List ℕ)) : Type 0 where
  pub many : length rows ≡ length graph
  pub leads : (place read : ℕ) → place < count → Needs graph place read → LeadsOver variables representatives rows place read

-- the same of all places
pub record IsContraction (graph : List (List ℕ)) (variables : ℕ) (rows : List (List ℕ)) : Type 0 where
  pub table : List ℕ
  pub are : AreRepresentatives variables (length graph) (length graph) table
  pub whole : IsContracted graph variables table (length graph) rows
