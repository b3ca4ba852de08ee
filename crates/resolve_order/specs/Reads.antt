-- What variables read, directly or through functions. So many places of a graph are variables, and those after them are functions.
use Rattle.std.specs.Prelude.{◌≡◌, ◌<◌, ◌≤◌, ℕ, List, Some, length, slice_get}
use Rattle.resolve_order.specs.Needs.{Needs}
use Rattle.resolve_order.specs.Order.{IsBefore}

-- one place leads to another, with functions alone between them
pub data ReadsThrough (graph : List (List ℕ)) (variables : ℕ) : ℕ → ℕ → Type 0 where
  directly : {place read : ℕ} → Needs graph place read → ReadsThrough graph variables place read
  through : {place function read : ℕ} → Needs graph place function → variables ≤ function → ReadsThrough graph variables function read → ReadsThrough graph variables place read

-- each variable stands in the order once, after all variables that it reads
pub record IsVariableOrder (graph : List (List ℕ)) (variables : ℕ) (order : List ℕ) : Type 0 where
  pub within : (at place : ℕ) → slice_get order at ≡ Some place → (place < variables) × (place < length graph)
  pub complete : (place : ℕ) → place < variables → place < length graph → IsBefore order (length order) place
  pub distinct : (at at' place : ℕ) → slice_get order at ≡ Some place → slice_get order at' ≡ Some place → at ≡ at'
  pub ranked : (at place read : ℕ) → slice_get order at ≡ Some place → ReadsThrough graph variables place read → read < variables → IsBefore order at read
