-- Orders in which what is needed comes earlier.
use Rattle.std.specs.Prelude.{◌≡◌, ◌<◌, ℕ, List, Some, length, slice_get}
use Rattle.resolve_order.specs.Needs.{Needs, IsCycle}
use Rattle.resolve_order.specs.declared.fault.OrderFault.{OrderFault}
use Rattle.resolve_order.specs.declared.fault.OrderFault.TheVariants.{OutOfMemory, Cycle}

-- the thing stands in the order, before this place of it
pub record IsBefore (order : List ℕ) (end place : ℕ) : Type 0 where
  pub at : ℕ
  pub earlier : at < end
  pub found : slice_get order at ≡ Some place

-- each thing stands in the order once, after all that it needs
pub record IsOrder (needs : List (List ℕ)) (order : List ℕ) : Type 0 where
  pub within : (at place : ℕ) → slice_get order at ≡ Some place → place < length needs
  pub complete : (place : ℕ) → place < length needs → IsBefore order (length order) place
  pub distinct : (at at' place : ℕ) → slice_get order at ≡ Some place → slice_get order at' ≡ Some place → at ≡ at'
  pub ranked : (at place need : ℕ) → slice_get order at ≡ Some place → Needs needs place need → IsBefore order at need

-- what a refusal tells is so
abbrev pub IsReason : List (List ℕ) → OrderFault → Type 0
IsReason needs OutOfMemory = Unit {0}
IsReason needs (Cycle places) = IsCycle needs places.items
