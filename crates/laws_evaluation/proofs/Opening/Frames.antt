-- What one more binding changes in frames.
use Rattle.std.proofs.Common.{◌≡◌, ⊎_elim, eq-eqb, ℕ, List, [], ◌∷◌, ◌++◌, append-nil, append_assoc, Some, None, refl, sym, ap, subst, ◌∙◌, arith}
use Rattle.std.specs.Option.{option_or}
use Rattle.std.proofs.lemmas.Bool.{cases_eq}
use Rattle.std.proofs.lemmas.Bool.Decides.{nat_tests}
use Rattle.just_host.specs.declared.entry.Entry.{Entry}
use Rattle.just_value.specs.Frames.{BoundRow, bound_in, found_in, Rebinds}
use Rattle.laws_evaluation.specs.Opening.Opened.{Grows, Keeps}

-- a record begins with itself
pub same_record : (old : List Entry) → Grows old old
same_record old = record { piece = []; entries = sym (append-nil old) }

-- what begins with what begins with a record begins with it
pub grows_on : (old mid new : List Entry) → Grows old mid → Grows mid new → Grows old new
grows_on old mid new g h = record { piece = g.piece ++ h.piece; entries = h.entries ∙ (ap (λ l. l ++ h.piece) g.entries ∙ append_assoc old g.piece h.piece) }

-- the number of a new binding gives it
pub found_bound : (outer : List (List BoundRow)) (own next : List BoundRow) (binding : BoundRow) → Rebinds own binding next → found_in (next ∷ outer) binding.number ≡ Some binding
found_bound outer own next binding h =
    let e : bound_in next binding.number ≡ Some binding = h binding.number ∙ rw (eq-eqb binding.number binding.number refl) refl in
    ap (λ o. option_or o (found_in outer binding.number)) e

-- and each other number what it gave
pub found_other : (outer : List (List BoundRow)) (own next : List BoundRow) (binding : BoundRow) → Rebinds own binding next → (n : ℕ) → (n ≡ binding.number → ⊥) → found_in (next ∷ outer) n ≡ found_in (own ∷ outer) n
found_other outer own next binding h n ne =
    let e : bound_in next n ≡ bound_in own n = h n ∙ grind (arith, nat_tests) in
    ap (λ o. option_or o (found_in outer n)) e

-- a number that was not bound is, and all others stay as they were
pub keeps_bound : (outer : List (List BoundRow)) (own next : List BoundRow) (binding : BoundRow) → found_in (own ∷ outer) binding.number ≡ None → Rebinds own binding next → Keeps outer own next
keeps_bound outer own next binding none h n row f =
    ⊎_elim
    (λ e. let f' = subst (λ m. found_in (own ∷ outer) m ≡ Some row) e f in absurd (cc))
    (λ ne. found_other outer own next binding h n ne ∙ f)
    (cases_eq n binding.number)
