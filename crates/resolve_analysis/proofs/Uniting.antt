-- Sets that grow by one part after the other.
use Rattle.std.proofs.Common.{◌⊎◌, ◌↔◌, inl, inr, ℕ}
use Rattle.resolve_analysis.specs.Unions.{IsUnion}

-- nothing is added
pub union_none : {Old Added : ℕ → Type 0} → ((n : ℕ) → Added n → ⊥) → IsUnion Old Added Old
union_none none = record { kept = λ n o. o; added = λ n a. absurd (none n a); sound = λ n o. inl o }

-- what is added is the same
pub union_same : {Old Added Same New : ℕ → Type 0} → ((n : ℕ) → Added n → Same n) → ((n : ℕ) → Same n → Added n) → IsUnion Old Added New → IsUnion Old Same New
union_same to from u = record {
  kept = u.kept;
  added = λ n s. u.added n (from n s);
  sound = λ n x. elim (u.sound n x) [ inl o ↦ inl o | inr a ↦ inr (to n a) ];
}

-- one part is added after the other
pub union_then : {Old First Between Second New Both : ℕ → Type 0} → IsUnion Old First Between → IsUnion Between Second New → ((n : ℕ) → First n → Both n) → ((n : ℕ) → Second n → Both n) → ((n : ℕ) → Both n → First n ⊎ Second n)
    → IsUnion Old Both New
union_then u v first second both = record {
  kept = λ n o. v.kept n (u.kept n o);
  added = λ n b. elim (both n b) [ inl f ↦ v.kept n (u.added n f) | inr s ↦ v.added n s ];
  sound = λ n x. elim (v.sound n x) [ inl m ↦ elim (u.sound n m) [ inl o ↦ inl o | inr f ↦ inr (first n f) ] | inr s ↦ inr (second n s) ];
}

-- what is added to nothing is all
pub union_of_none : {Old Added New : ℕ → Type 0} → ((n : ℕ) → Old n → ⊥) → IsUnion Old Added New → (n : ℕ) → New n ↔ Added n
union_of_none none u n = (λ h. elim (u.sound n h) [ inl o ↦ absurd (none n o) | inr a ↦ a ], λ a. u.added n a)
