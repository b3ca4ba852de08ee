-- Parameters by their numbers, and calls with as many arguments as a function has parameters.
use Rattle.std.proofs.Common.{◌≡◌, ℕ, List, [], ◌∷◌, length, Option, Some, None, ◌⊎◌, ⊎_elim, refl, arith, eq-eqb}
use Rattle.std.proofs.lemmas.Bool.{cases_eq}
use Rattle.std.proofs.lemmas.Bool.Decides.{nat_tests}
use Rattle.std.specs.Prelude.{IsSome}
use Rattle.meaning_dialogues.specs.Evaluation.{Value}
use Rattle.meaning_dialogues.specs.Calls.{DefinedFunction, Frame, empty, bound, with_parameters, in_frame}

abbrev pub IsIn : ℕ → List ℕ → Type 0
IsIn n [] = ⊥
IsIn n (m ∷ ms) = (n ≡ m) ⊎ IsIn n ms

stays_bound : (frame : Frame) (m : ℕ) (v : Value) (n : ℕ) → IsSome (frame n) → IsSome (bound frame m v n)
stays_bound frame m v n s =
    ⊎_elim
    (λ e. let b : bound frame m v n ≡ Some v = rw (eq-eqb n m e) refl in rw b refl)
    (λ ne. let b : bound frame m v n ≡ frame n = grind (arith, nat_tests) in rw b s)
    (cases_eq n m)

is_bound : (frame : Frame) (m : ℕ) (v : Value) → IsSome (bound frame m v m)
is_bound frame m v = let b : bound frame m v m ≡ Some v = rw (eq-eqb m m refl) refl in rw b refl

keeps_bound : (numbers : List ℕ) (values : List Value) (frame : Frame) (n : ℕ) → IsSome (frame n) → IsSome (with_parameters frame numbers values n)
keeps_bound [] values frame n s = s
keeps_bound (m ∷ ms) [] frame n s = s
keeps_bound (m ∷ ms) (v ∷ vs) frame n s = keeps_bound ms vs (bound frame m v) n (stays_bound frame m v n s)

binds_all : (numbers : List ℕ) (values : List Value) (frame : Frame) (n : ℕ) → length values ≡ length numbers → IsIn n numbers → IsSome (with_parameters frame numbers values n)
binds_all [] values frame n e i = absurd i
binds_all (m ∷ ms) [] frame n e i = absurd (omega arith)
binds_all (m ∷ ms) (v ∷ vs) frame n e i =
    ⊎_elim
    (λ h. keeps_bound ms vs (bound frame m v) n (rw h (is_bound frame m v)))
    (λ h. binds_all ms vs (bound frame m v) n (omega arith) h) i

-- its number is one of these
abbrev pub HasNumber : List ℕ → Option ℕ → Type 0
HasNumber numbers None = ⊥
HasNumber numbers (Some n) = IsIn n numbers

pub has_value : (numbers : List ℕ) (values : List Value) (number : Option ℕ) → length values ≡ length numbers → HasNumber numbers number → IsSome (in_frame (with_parameters empty numbers values) number)
has_value numbers values None e h = absurd h
has_value numbers values (Some n) e h = binds_all numbers values empty n e h

-- a name calls a function with as many arguments as it has parameters, or none that is defined
abbrev pub Fits : Option DefinedFunction → ℕ → Type 0
Fits None arguments = Unit {0}
Fits (Some f) arguments = arguments ≡ length f.parameters
