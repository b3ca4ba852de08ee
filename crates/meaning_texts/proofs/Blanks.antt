-- Items of a file among blank lines: their places, and the comments directly above them.
use Rattle.std.proofs.Common.{◌≡◌, ◌∙◌, ◌+◌, ◌-◌, ◌<◌, ◌≤◌, ◌==◌, arith, ap, sym, refl, ℕ, zero, suc, Bool, true, false, if◌then◌else◌, List, [], ◌∷◌, ◌++◌, Option, Some, None, length, take}
use Rattle.std.specs.Prelude.{slice_get}
use Rattle.std.proofs.lemmas.Option.{none-some, same_Some}
use Rattle.tree_items.specs.Files.{ItemShape, alias_item, assignment_item, comment_item, function_item, import_item, is_blank, module_item, newline_item, recipe_item, set_item, unexport_item}
use Rattle.meaning_rules.specs.Worlds.Docs.{comment_above, comment_of}
use Rattle.meaning_rules.specs.Worlds.Given.{Text, filled}

-- the place of an item where blank lines have none
abbrev pub rank : List ItemShape → ℕ → ℕ
rank items place = length (filled (take place items))

fill_blank : (x : ItemShape) (xs : List ItemShape) → is_blank x ≡ true → filled (x ∷ xs) ≡ filled xs
unfolding filled
fill_blank x xs e = rw e refl

fill_item : (x : ItemShape) (xs : List ItemShape) → is_blank x ≡ false → filled (x ∷ xs) ≡ x ∷ filled xs
unfolding filled
fill_item x xs e = rw e refl

fill_none : filled [] ≡ []
unfolding filled
fill_none = refl

-- an item that is no blank line stands there without them
pub filled_at : (items : List ItemShape) (place : ℕ) (item : ItemShape) → slice_get items place ≡ Some item → is_blank item ≡ false → slice_get (filled items) (rank items place) ≡ Some item
filled_at [] place item e off = absurd (none-some item e)
filled_at (x ∷ xs) zero item e off =
    let same : x ≡ item = same_Some x item e in
    ap (λ ys. slice_get (filled (x ∷ xs)) (length ys)) fill_none ∙ ap (λ ys. slice_get ys 0) (fill_item x xs (ap is_blank same ∙ off)) ∙ e
filled_at (x ∷ xs) (suc place) item e off = by_blank (is_blank x) refl (filled_at xs place item e off)
  where
    by_blank : (b : Bool) → is_blank x ≡ b → slice_get (filled xs) (rank xs place) ≡ Some item → slice_get (filled (x ∷ xs)) (rank (x ∷ xs) (suc place)) ≡ Some item
    by_blank true is h = ap (λ ys. slice_get ys (rank (x ∷ xs) (suc place))) (fill_blank x xs is) ∙ ap (λ ys. slice_get (filled xs) (length ys)) (fill_blank x (take place xs) is) ∙ h
    by_blank false is h = ap (λ ys. slice_get ys (rank (x ∷ xs) (suc place))) (fill_item x xs is) ∙ ap (λ ys. slice_get (x ∷ filled xs) (length ys)) (fill_item x (take place xs) is) ∙ h

-- and has a place among them
pub place_at : (items : List ItemShape) (at : ℕ) (item : ItemShape) → slice_get (filled items) at ≡ Some item → (place : ℕ) × (slice_get items place ≡ Some item) × (rank items place ≡ at)
place_at [] at item e = absurd (none-some item (sym (ap (λ ys. slice_get ys at) fill_none) ∙ e))
place_at (x ∷ xs) at item e = by_blank (is_blank x) refl at e (place_at xs)
  where
    by_blank : (b : Bool) → is_blank x ≡ b → (at : ℕ) → slice_get (filled (x ∷ xs)) at ≡ Some item → ((at : ℕ) (item : ItemShape) → slice_get (filled xs) at ≡ Some item → (place : ℕ) × (slice_get xs place ≡ Some item) × (rank xs place ≡ at))
        → (place : ℕ) × (slice_get (x ∷ xs) place ≡ Some item) × (rank (x ∷ xs) place ≡ at)
    by_blank true is at e more =
        let r = more at item (sym (ap (λ ys. slice_get ys at) (fill_blank x xs is)) ∙ e) in
        (suc r.0, r.1, ap length (fill_blank x (take r.0 xs) is) ∙ r.2)
    by_blank false is zero e more = (0, sym (ap (λ ys. slice_get ys 0) (fill_item x xs is)) ∙ e, ap length fill_none)
    by_blank false is (suc at) e more =
        let r = more at item (sym (ap (λ ys. slice_get ys (suc at)) (fill_item x xs is)) ∙ e) in
        (suc r.0, r.1, ap length (fill_item x (take r.0 xs) is) ∙ ap suc r.2)

-- ---- comments

abbrev pub pick : Option Text → (ℕ → Option Text) → ℕ → Option Text
pick before later zero = before
pick before later (suc n) = later n

-- the comment directly above the item at a place where blank lines have none, after what stands above all of them
unfoldable pub comment_from : Option Text → List ItemShape → ℕ → Option Text
comment_from before [] n = None
comment_from before (x ∷ xs) n = if is_blank x then comment_from None xs n else pick before (comment_from (comment_of (Some x)) xs) n

-- the same by places
abbrev above_with : Option Text → List ItemShape → ℕ → Option Text
above_with before items zero = before
above_with before items (suc place) = comment_of (slice_get items place)

no_comment : (x : ItemShape) → is_blank x ≡ true → comment_of (Some x) ≡ None
no_comment newline_item e = refl
no_comment (alias_item attributes a) e = refl
no_comment (assignment_item attributes a) e = refl
no_comment (comment_item text) e = absurd (cc e)
no_comment (function_item f) e = refl
no_comment (import_item i) e = refl
no_comment (module_item attributes m) e = refl
no_comment (recipe_item attributes r) e = refl
no_comment (set_item attributes s) e = refl
no_comment (unexport_item u) e = refl

above_more : (before : Option Text) (x : ItemShape) (xs : List ItemShape) (place : ℕ) → above_with before (x ∷ xs) (suc place) ≡ above_with (comment_of (Some x)) xs place
above_more before x xs zero = refl
above_more before x xs (suc place) = refl

pub from_blank : (before : Option Text) (x : ItemShape) (xs : List ItemShape) (n : ℕ) → is_blank x ≡ true → comment_from before (x ∷ xs) n ≡ comment_from None xs n
unfolding comment_from
from_blank before x xs n e = rw e refl

pub from_item : (before : Option Text) (x : ItemShape) (xs : List ItemShape) (n : ℕ) → is_blank x ≡ false → comment_from before (x ∷ xs) n ≡ pick before (comment_from (comment_of (Some x)) xs) n
unfolding comment_from
from_item before x xs n e = rw e refl

comment_with : (before : Option Text) (items : List ItemShape) (place : ℕ) (item : ItemShape) → slice_get items place ≡ Some item → is_blank item ≡ false → above_with before items place ≡ comment_from before items (rank items place)
comment_with before [] place item e off = absurd (none-some item e)
comment_with before (x ∷ xs) zero item e off =
    sym (ap (λ ys. comment_from before (x ∷ xs) (length ys)) fill_none ∙ from_item before x xs 0 (ap is_blank (same_Some x item e) ∙ off))
comment_with before (x ∷ xs) (suc place) item e off = above_more before x xs place ∙ comment_with (comment_of (Some x)) xs place item e off ∙ by_blank (is_blank x) refl
  where
    by_blank : (b : Bool) → is_blank x ≡ b → comment_from (comment_of (Some x)) xs (rank xs place) ≡ comment_from before (x ∷ xs) (rank (x ∷ xs) (suc place))
    by_blank true is =
        ap (λ c. comment_from c xs (rank xs place)) (no_comment x is) ∙ sym (from_blank before x xs (rank xs place) is) ∙ ap (λ ys. comment_from before (x ∷ xs) (length ys)) (sym (fill_blank x (take place xs) is))
    by_blank false is = sym (from_item before x xs (suc (rank xs place)) is) ∙ ap (λ ys. comment_from before (x ∷ xs) (length ys)) (sym (fill_item x (take place xs) is))

-- the comment above a place is told by the place that blank lines leave
pub comment_is : (items : List ItemShape) (place : ℕ) (item : ItemShape) → slice_get items place ≡ Some item → is_blank item ≡ false → comment_above items place ≡ comment_from None items (rank items place)
comment_is items place item e off = by_place place ∙ comment_with None items place item e off
  where
    by_place : (place : ℕ) → comment_above items place ≡ above_with None items place
    by_place zero = refl
    by_place (suc n) = refl
