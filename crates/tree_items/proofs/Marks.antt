-- The marks of a text from a place on.
use Rattle.std.proofs.Common.{◌≡◌, ℕ, ◌+◌, ◌<◌, ◌≤◌, Bool, List, ◌∷◌, length, get_or, drop, Some, None, refl, add-one, drop-cons}
use Rattle.std.proofs.lemmas.List.{drop_all}
use Rattle.tree_items.specs.declared.line.Sigils.{Sigils}
use Rattle.tree_items.specs.Lines.{read_sigils, next_sigils}

-- after a further mark the rest is read beside it
pub mark_next : (guards : Bool) (s more : Sigils) (text : List ℕ) (i : ℕ) → i < length text → next_sigils guards s (get_or text i 0) ≡ Some more
    → read_sigils guards more (drop (i + 1) text) ≡ read_sigils guards s (drop i text)
unfolding read_sigils
mark_next guards s more text i lt next =
    let step : drop i text ≡ get_or text i 0 ∷ drop (i + 1) text = rw (add-one, drop-cons text i 0 lt) refl in
    rw (step, next) refl

-- at a byte that is no further mark the marks are those so far
pub mark_stops : (guards : Bool) (s : Sigils) (text : List ℕ) (i : ℕ) → i < length text → next_sigils guards s (get_or text i 0) ≡ None
    → read_sigils guards s (drop i text) ≡ s
unfolding read_sigils
mark_stops guards s text i lt stop =
    let step : drop i text ≡ get_or text i 0 ∷ drop (i + 1) text = rw (add-one, drop-cons text i 0 lt) refl in
    rw (step, stop) refl

-- at the end of the text too
pub marks_end : (guards : Bool) (s : Sigils) (text : List ℕ) (i : ℕ) → length text ≤ i → read_sigils guards s (drop i text) ≡ s
unfolding read_sigils
marks_end guards s text i le = rw (drop_all i text le) refl
