-- What a thing's new mark changes.
use Rattle.std.proofs.Common.{◌≡◌, ◌⊎◌, inl, inr, ◌∙◌, ap, List, ℕ, Some}
use Rattle.std.specs.Prelude.{slice_get}
use Rattle.std.proofs.lemmas.Bool.Decides.{eqb_tells}
use Rattle.resolve_order.specs.Marked.{IsSet}
use Rattle.resolve_order.specs.declared.marks.Mark.{Mark}

-- a thing is the one with the new mark, or has what it had
pub set_cases : {old : List Mark} {place : ℕ} {mark : Mark} {new : List Mark}
    → IsSet old place mark new → (other : ℕ) → ((other ≡ place) × (slice_get new other ≡ Some mark)) ⊎ ((other ≡ place → ⊥) × (slice_get new other ≡ slice_get old other))
set_cases {old} {place} {mark} {new} s other = elim (eqb_tells other place) [
  | inl p ↦ inl (p.1, ap (slice_get new) p.1 ∙ s.here)
  | inr p ↦ inr (p.1, s.others other p.1)
]
