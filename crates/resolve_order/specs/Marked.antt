-- Marks of things by place.
use Rattle.std.specs.Prelude.{◌≡◌, ℕ, List, Some, length, slice_get}
use Rattle.resolve_order.specs.declared.marks.Mark.{Mark}
use Rattle.resolve_order.specs.declared.marks.Mark.TheVariants.{New}

-- so many marks, all new
pub record AreNew (count : ℕ) (marks : List Mark) : Type 0 where
  pub many : length marks ≡ count
  pub new : (place : ℕ) (mark : Mark) → slice_get marks place ≡ Some mark → mark ≡ New

-- one thing has this mark now, and each other what it had
pub record IsSet (old : List Mark) (place : ℕ) (mark : Mark) (new : List Mark) : Type 0 where
  pub many : length new ≡ length old
  pub here : slice_get new place ≡ Some mark
  pub others : (other : ℕ) → (other ≡ place → ⊥) → slice_get new other ≡ slice_get old other
