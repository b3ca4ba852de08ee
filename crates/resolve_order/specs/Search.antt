-- What a search for an order has found so far.
use Rattle.std.specs.Prelude.{◌≡◌, ◌<◌, ◌+◌, ℕ, List, [], ◌∷◌, ◌⊎◌, Some, map, slice_get, length, drop, get_or, Contains}
use Rattle.resolve_order.specs.Needs.{Needs, Walks}
use Rattle.resolve_order.specs.Marked.{AreNew}
use Rattle.resolve_order.specs.Order.{IsBefore}
use Rattle.resolve_order.specs.declared.marks.Mark.{Mark}
use Rattle.resolve_order.specs.declared.marks.Mark.TheVariants.{New, Open, Done}
use Rattle.resolve_order.specs.declared.search.Frame.{Frame}
use Rattle.resolve_order.specs.declared.search.Search.{Search}

-- a thing that waits, and the needs that are still to look at
pub record FrameShape : Type 0 where
  pub place : ℕ
  pub rest : List ℕ

-- what a waiting thing shows
abbrev pub frame_shape : Frame → FrameShape
frame_shape f = record { place = f.place; rest = f.rest.now }

-- a thing of which no need was looked at
abbrev pub fresh : List (List ℕ) → ℕ → FrameShape
fresh needs place = record { place = place; rest = get_or needs place [] }

-- a thing after the first of the needs that were still to look at
abbrev pub passed : FrameShape → FrameShape
passed f = record { place = f.place; rest = drop 1 f.rest }

-- the place of a waiting thing
abbrev pub frame_place : FrameShape → ℕ
frame_place f = f.place

-- the things that wait, the one on top last
abbrev pub stack_of : Search → List FrameShape
stack_of s = map frame_shape s.stack.items

-- a search that has found nothing
pub record IsFresh (needs : List (List ℕ)) (s : Search) : Type 0 where
  pub marks : AreNew (length needs) s.marks.items
  pub stack : stack_of s ≡ []
  pub order : s.order.items ≡ []

-- each need of a waiting thing stands in the order, or is among the rest
pub record IsFrame (needs : List (List ℕ)) (order : List ℕ) (f : FrameShape) : Type 0 where
  pub row : List ℕ
  pub known : slice_get needs f.place ≡ Some row
  pub listed : (need : ℕ) → Contains f.rest need → Contains row need
  pub settled : (need : ℕ) → Contains row need → Contains f.rest need ⊎ (need < length needs → IsBefore order (length order) need)

-- each thing is new, or waits on the stack for the one above it, or is in the order
pub record IsSearch (needs : List (List ℕ)) (marks : List Mark) (stack : List FrameShape) (order : List ℕ) : Type 0 where
  pub many : length marks ≡ length needs
  pub placed : (at place : ℕ) → slice_get order at ≡ Some place → slice_get marks place ≡ Some (Done at)
  pub there : (place at : ℕ) → slice_get marks place ≡ Some (Done at) → slice_get order at ≡ Some place
  pub opened : (k : ℕ) (f : FrameShape) → slice_get stack k ≡ Some f → slice_get marks f.place ≡ Some (Open k)
  pub stacked : (place k : ℕ) → slice_get marks place ≡ Some (Open k) → (f : FrameShape) × (slice_get stack k ≡ Some f) × (f.place ≡ place)
  pub walk : Walks needs (map frame_place stack)
  pub frames : (k : ℕ) (f : FrameShape) → slice_get stack k ≡ Some f → IsFrame needs order f
  pub ranked : (at place need : ℕ) → slice_get order at ≡ Some place → Needs needs place need → IsBefore order at need

-- the same of a search as it is held
abbrev pub Searches : List (List ℕ) → Search → Type 0
Searches needs s = IsSearch needs s.marks.items (stack_of s) s.order.items

-- the turns that a thing can still take
abbrev pub work_at : Mark → List ℕ → ℕ
work_at New row = length row + 2
work_at (Open k) row = 0
work_at (Done i) row = 0

-- the turns that new things can still take
abbrev pub work_of_new : List Mark → List (List ℕ) → ℕ
work_of_new [] needs = 0
work_of_new (m ∷ marks) [] = 0
work_of_new (m ∷ marks) (row ∷ needs) = work_at m row + work_of_new marks needs

-- the turns that those on the stack can still take
abbrev pub work_on_stack : List FrameShape → ℕ
work_on_stack [] = 0
work_on_stack (f ∷ fs) = length f.rest + 1 + work_on_stack fs

-- the turns that a search can still take
abbrev pub work_left : List (List ℕ) → List Mark → List FrameShape → ℕ
work_left needs marks stack = work_of_new marks needs + work_on_stack stack

-- no thing became new, and fewer turns are left
pub record IsNearer (needs : List (List ℕ)) (marks : List Mark) (stack : List FrameShape) (marks' : List Mark) (stack' : List FrameShape) : Type 0 where
  pub fewer : (place : ℕ) → slice_get marks' place ≡ Some New → slice_get marks place ≡ Some New
  pub smaller : work_left needs marks' stack' < work_left needs marks stack

-- none of the first things is new
abbrev pub AreLookedAt : List Mark → ℕ → Type 0
AreLookedAt marks count = (place : ℕ) → place < count → slice_get marks place ≡ Some New → ⊥
