-- The first element that gives something, from a place on.
use Rattle.std.proofs.Common.{◌≡◌, ℕ, ◌+◌, ◌<◌, ◌≤◌, List, ◌∷◌, length, get_or, drop, Option, Some, None, refl, sym, ◌∙◌, add-one, drop-cons}
use Rattle.std.proofs.lemmas.List.{drop_all}
use Rattle.tree_items.specs.FileIndentation.{first_given, or_next}

-- from a place on it is what stands there, or what follows gives
pub given_at : {A B : Type 0} (f : A → Option B) (xs : List A) (i : ℕ) (x : A) → i < length xs → x ≡ get_or xs i x
    → first_given f (drop i xs) ≡ or_next (f x) (first_given f (drop (i + 1) xs))
unfolding first_given
given_at f xs i x lt is =
    let e : drop i xs ≡ x ∷ drop (i + 1) xs = rw (add-one, drop-cons xs i x lt, ← is) refl in
    rw e refl

pub given_there : {A B : Type 0} (f : A → Option B) (xs : List A) (i : ℕ) (x : A) (b : B) → i < length xs → x ≡ get_or xs i x
    → Some b ≡ f x → first_given f (drop i xs) ≡ Some b
given_there f xs i x b lt is gives = given_at f xs i x lt is ∙ rw (← gives) refl

pub given_later : {A B : Type 0} (f : A → Option B) (xs : List A) (i : ℕ) (x : A) → i < length xs → x ≡ get_or xs i x
    → None ≡ f x → first_given f (drop (i + 1) xs) ≡ first_given f (drop i xs)
given_later f xs i x lt is none = sym (given_at f xs i x lt is ∙ rw (← none) refl)

pub given_never : {A B : Type 0} (f : A → Option B) (xs : List A) (i : ℕ) → length xs ≤ i → first_given f (drop i xs) ≡ None
unfolding first_given
given_never f xs i le = rw (drop_all i xs le) refl
