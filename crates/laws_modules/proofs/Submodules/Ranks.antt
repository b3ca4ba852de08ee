-- The places of items among those that are no blank lines.
use Rattle.std.proofs.Common.{◌≡◌, ◌∙◌, ap, ℕ, zero, suc, Bool, true, false, not, cond, List, [], ◌∷◌, Some, refl, length, take}
use Rattle.std.specs.Prelude.{slice_get}
use Rattle.std.specs.List.{filter}
use Rattle.std.proofs.lemmas.Option.{none-some, same_Some}
use Rattle.tree_items.specs.Files.{ItemShape, is_blank}
use Rattle.meaning_rules.specs.Worlds.Given.{filled}

-- an item that is not blank stands behind the others before it that aren't
pub rank_of : (items : List ItemShape) (i : ℕ) (item : ItemShape) → slice_get items i ≡ Some item → is_blank item ≡ false → slice_get (filled items) (length (filled (take i items))) ≡ Some item
unfolding filled
rank_of [] i item e full = absurd (none-some item e)
rank_of (x ∷ items) zero item e full =
    ap (λ b. slice_get (cond b (x ∷ filter (λ y. not (is_blank y)) items) (filter (λ y. not (is_blank y)) items)) 0) (ap (λ y. not (is_blank y)) (same_Some x item e) ∙ ap not full) ∙ e
rank_of (x ∷ items) (suc i) item e full = by_test (not (is_blank x)) (rank_of items i item e full)
  where
    by_test : (b : Bool) → slice_get (filter (λ y. not (is_blank y)) items) (length (filter (λ y. not (is_blank y)) (take i items))) ≡ Some item
        → slice_get (cond b (x ∷ filter (λ y. not (is_blank y)) items) (filter (λ y. not (is_blank y)) items)) (length (cond b (x ∷ filter (λ y. not (is_blank y)) (take i items)) (filter (λ y. not (is_blank y)) (take i items)))) ≡ Some item
    by_test true h = h
    by_test false h = h

-- what stands behind so many that are not blank stands at some place
pub place_of_rank : (items : List ItemShape) (rank : ℕ) (item : ItemShape) → slice_get (filled items) rank ≡ Some item → (i : ℕ) × (slice_get items i ≡ Some item) × (length (filled (take i items)) ≡ rank)
unfolding filled
place_of_rank [] rank item e = absurd (none-some item e)
place_of_rank (x ∷ items) rank item e = by_test (not (is_blank x)) refl rank e (place_of_rank items)
  where
    by_test : (b : Bool) → not (is_blank x) ≡ b → (rank : ℕ) → slice_get (cond b (x ∷ filter (λ y. not (is_blank y)) items) (filter (λ y. not (is_blank y)) items)) rank ≡ Some item
        → ((rank : ℕ) (item : ItemShape) → slice_get (filter (λ y. not (is_blank y)) items) rank ≡ Some item → (i : ℕ) × (slice_get items i ≡ Some item) × (length (filter (λ y. not (is_blank y)) (take i items)) ≡ rank))
        → (i : ℕ) × (slice_get (x ∷ items) i ≡ Some item) × (length (filter (λ y. not (is_blank y)) (take i (x ∷ items))) ≡ rank)
    by_test true is zero e others = (0, e, refl)
    by_test true is (suc rank) e others =
        let r = others rank item e in
        (suc r.0, r.1, ap (λ b. length (cond b (x ∷ filter (λ y. not (is_blank y)) (take r.0 items)) (filter (λ y. not (is_blank y)) (take r.0 items)))) is ∙ ap suc r.2)
    by_test false is rank e others =
        let r = others rank item e in
        (suc r.0, r.1, ap (λ b. length (cond b (x ∷ filter (λ y. not (is_blank y)) (take r.0 items)) (filter (λ y. not (is_blank y)) (take r.0 items)))) is ∙ r.2)
