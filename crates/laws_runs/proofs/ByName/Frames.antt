-- The values of parameters by their numbers.
use Rattle.std.proofs.Common.{◌≡◌, ◌≤◌, ◌<◌, inl, inr, ⊎_elim, eq-eqb, ℕ, zero, suc, ◌+◌, List, [], ◌∷◌, length, Some, refl, sym, ap, subst, ◌∙◌, arith}
use Rattle.std.specs.Prelude.{slice_get}
use Rattle.std.specs.Option.{option_or}
use Rattle.std.proofs.lemmas.Bool.Decides.{nat_tests}
use Rattle.meaning_dialogues.specs.Calls.{Frame, bound, empty, in_frame, with_parameters}
use Rattle.meaning_dialogues.specs.Evaluation.{Value}
use Rattle.meaning_dialogues.specs.Written.{numbers_from}
use Rattle.meaning_evaluation.proofs.Stages.Depth.{IsIn}
use Rattle.laws_runs.specs.ByName.Variables.{AreDistinct}

bound_other : (frame : Frame) (m : ℕ) (v : Value) (n : ℕ) → (n ≡ m → ⊥) → bound frame m v n ≡ frame n
bound_other frame m v n ne = grind (arith, nat_tests)

bound_same : (frame : Frame) (m : ℕ) (v : Value) (n : ℕ) → n ≡ m → bound frame m v n ≡ Some v
bound_same frame m v n e = rw (eq-eqb n m e) refl

-- a number that no parameter has stays as it was
pub apart : (numbers : List ℕ) (values : List Value) (frame : Frame) (n : ℕ) → (IsIn n numbers → ⊥) → with_parameters frame numbers values n ≡ frame n
apart [] values frame n none = refl
apart (m ∷ ms) [] frame n none = refl
apart (m ∷ ms) (v ∷ vs) frame n none = apart ms vs (bound frame m v) n (λ i. none (inr i)) ∙ bound_other frame m v n (λ e. none (inl e))

stands_in : (numbers : List ℕ) (k n : ℕ) → slice_get numbers k ≡ Some n → IsIn n numbers
stands_in [] k n e = absurd (cc)
stands_in (m ∷ ms) zero n e = inl (cc)
stands_in (m ∷ ms) (suc k) n e = inr (stands_in ms k n e)

-- the number that stands at a place has the value at that place, if there is one
pub at_place : (numbers : List ℕ) (values : List Value) (frame : Frame) (k n : ℕ) → AreDistinct numbers → slice_get numbers k ≡ Some n → with_parameters frame numbers values n ≡ option_or (slice_get values k) (frame n)
at_place [] values frame k n distinct e = absurd (cc)
at_place (m ∷ ms) [] frame k n distinct e = refl
at_place (m ∷ ms) (v ∷ vs) frame zero n distinct e =
    let same : n ≡ m = cc in
    apart ms vs (bound frame m v) n (λ i. distinct.0 (subst (λ it. IsIn it ms) same i)) ∙ bound_same frame m v n same
at_place (m ∷ ms) (v ∷ vs) frame (suc k) n distinct e =
    at_place ms vs (bound frame m v) k n distinct.1 e ∙ ap (option_or (slice_get vs k)) (bound_other frame m v n (λ same. distinct.0 (subst (λ it. IsIn it ms) same (stands_in ms k n e))))

-- ---- numbers one after another

from_first : {A : Type 0} (xs : List A) (i n : ℕ) → IsIn n (numbers_from i xs) → i ≤ n
from_first [] i n h = absurd h
from_first (x ∷ xs) i n h = ⊎_elim (λ e. omega (arith, e)) (λ g. let le = from_first xs (i + 1) n g in omega (arith, le)) h

pub distinct_from : {A : Type 0} (xs : List A) (i : ℕ) → AreDistinct (numbers_from i xs)
distinct_from [] i = tt
distinct_from (x ∷ xs) i = (λ h. let le = from_first xs (i + 1) i h in absurd (omega (arith, le)), distinct_from xs (i + 1))

place_from : {A : Type 0} (xs : List A) (i k : ℕ) → k < length xs → slice_get (numbers_from i xs) k ≡ Some (i + k)
place_from [] i k lt = absurd (omega (arith, lt))
place_from (x ∷ xs) i zero lt = ap Some (omega arith)
place_from (x ∷ xs) i (suc k) lt = place_from xs (i + 1) k (omega (arith, lt)) ∙ ap Some (omega arith)

-- a place where an element stands is below the length
pub below : {A : Type 0} (xs : List A) (k : ℕ) (x : A) → slice_get xs k ≡ Some x → k < length xs
below [] k x e = absurd (cc)
below (y ∷ ys) zero x e = omega arith
below (y ∷ ys) (suc k) x e = let lt = below ys k x e in omega (arith, lt)

-- a parameter has the same value by its number and by its place
pub same_value : {A : Type 0} (numbers : List ℕ) (xs : List A) (values : List Value) (k n : ℕ) → AreDistinct numbers → length numbers ≡ length xs → slice_get numbers k ≡ Some n
    → in_frame (with_parameters empty numbers values) (Some n) ≡ in_frame (with_parameters empty (numbers_from 0 xs) values) (Some k)
same_value numbers xs values k n distinct count e =
    let lt = below numbers k n e in
    let there : slice_get (numbers_from 0 xs) k ≡ Some k = place_from xs 0 k (omega (arith, lt, count)) ∙ ap Some (omega arith) in
    at_place numbers values empty k n distinct e ∙ sym (at_place (numbers_from 0 xs) values empty k k (distinct_from xs 0) there)
