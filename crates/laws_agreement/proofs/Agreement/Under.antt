-- What is read under a frame of parameters.
use Rattle.std.proofs.Common.{◌≡◌, ◌<◌, ℕ, suc, List, ◌++◌, length, false, Option, Some, None, Ok, Err, ◌⊎◌, inl, inr, ⊎_elim, refl, sym, ap, ◌∙◌, subst, arith, eq-eqb}
use Rattle.std.proofs.lemmas.Bool.{cases_eq}
use Rattle.std.proofs.lemmas.Bool.Decides.{nat_tests}
use Rattle.std.specs.Prelude.{IsSome}
use Rattle.std.specs.List.{list_any}
use Rattle.std.specs.Str.{bytes_eq}
use Rattle.meaning_dialogues.specs.Dialogue.{Dialogue, Ends, Asks, Reads, Lookup, around, in_module, Variable}
use Rattle.meaning_dialogues.specs.Evaluation.{Value}
use Rattle.meaning_dialogues.specs.Calls.{Frame, empty, bound, in_frame, with_parameters}
use Rattle.meaning_dialogues.specs.Written.{numbered, numbers_from}
use Rattle.meaning_dialogues.proofs.Soundness.{Sound}
use Rattle.meaning_evaluation.specs.Stages.Parameters.{under, or_around}
use Rattle.meaning_evaluation.proofs.Stages.Depth.{has_value}
use Rattle.laws_agreement.proofs.Agreement.Numbers.{StandsBefore, before, nowhere, numbered_before, is_in_numbers}
use Rattle.laws_agreement.proofs.Agreement.Functions.{length_numbers}

module _ (frame : Frame) (P : Variable → Type 0) where
  -- a variable of the frame, or one of these
  abbrev pub IsSeen : Lookup → Variable → Type 0
  IsSeen around x = IsSome (in_frame frame x.number) ⊎ P x
  IsSeen in_module x = P x

  at_frame : {A : Type 0} (Q : A → Type 0) (o : Option Value) (x : Variable) (next : Value → Dialogue A) → IsSome o ⊎ P x → ((value : Value) → Sound (λ place y. P y) Q (under frame (next value))) → Sound (λ place y. P y) Q (or_around o (λ value. under frame (next value)) x)
  at_frame Q (Some value) x next h go = go value
  at_frame Q None x next h go = (⊎_elim (λ s. absurd (cc)) (λ p. p) h, go)

  -- what reads the frame first reads only these where the frame has nothing
  pub under_sound : {A : Type 0} (Q : A → Type 0) (t : Dialogue A) → Sound IsSeen Q t → Sound (λ place x. P x) Q (under frame t)
  under_sound Q (Ends (Ok a)) h = h
  under_sound Q (Ends (Err fault)) h = tt
  under_sound Q (Asks question next) h = λ answer. under_sound Q (next answer) (h answer)
  under_sound Q (Reads around x next) h = at_frame Q (in_frame frame x.number) x next h.0 (λ value. under_sound Q (next value) (h.1 value))
  under_sound Q (Reads in_module x next) h = (h.0, λ value. under_sound Q (next value) (h.1 value))

-- the frame has a value for each number below this one
abbrev pub HasBelow : Frame → ℕ → Type 0
HasBelow frame n = (k : ℕ) → k < n → IsSome (frame k)

pub below_more : (frame : Frame) (n : ℕ) (value : Value) → HasBelow frame n → HasBelow (bound frame n value) (suc n)
below_more frame n value h k lt =
    ⊎_elim
    (λ e. let b : bound frame n value k ≡ Some value = rw (eq-eqb k n e) refl in rw b refl)
    (λ ne. let b : bound frame n value k ≡ frame k = grind (arith, nat_tests) in rw b (h k (omega (arith, lt, ne))))
    (cases_eq k n)

-- values for all parameters
pub below_all : {A : Type 0} (parameters : List A) (values : List Value) → length values ≡ length parameters → HasBelow (with_parameters empty (numbers_from 0 parameters) values) (length parameters)
below_all parameters values e k lt = has_value (numbers_from 0 parameters) values (Some k) (e ∙ sym (length_numbers parameters 0)) (is_in_numbers parameters 0 k (omega arith) (omega (arith, lt)))

-- each name of the first part is seen
pub sees_before : (frame : Frame) (P : Variable → Type 0) (all earlier more : List (List ℕ)) → all ≡ earlier ++ more → HasBelow frame (length earlier) → (name : List ℕ)
    → IsSeen frame P around (record { name = name; number = numbered all name }) ⊎ (list_any (λ other. bytes_eq other name) earlier ≡ false)
sees_before frame P all earlier more e h name = by_place (numbered_before name earlier more)
  where
    by_place : StandsBefore name earlier more → IsSeen frame P around (record { name = name; number = numbered all name }) ⊎ (list_any (λ other. bytes_eq other name) earlier ≡ false)
    by_place (before k lt is) = let s : numbered all name ≡ Some k = ap (λ l. numbered l name) e ∙ is in inl (inl (subst (λ o. IsSome (in_frame frame o)) (sym s) (h k lt)))
    by_place (nowhere free) = inr free
