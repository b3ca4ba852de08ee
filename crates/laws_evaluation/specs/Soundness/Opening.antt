-- Variables of a module that are opened after what they read.
use Rattle.std.specs.Prelude.{◌≡◌, ℕ, ◌⊎◌, Bool, true, false, List, [], ◌∷◌, Option, Some, None, IsSome, Err}
use Rattle.meaning_dialogues.specs.Faults.{Fault}
use Rattle.meaning_dialogues.specs.Dialogue.{Reading, Lookup, Variable}
use Rattle.meaning_dialogues.specs.Terms.{Term}
use Rattle.meaning_dialogues.specs.Calls.{DefinedFunction, Frame}
use Rattle.meaning_dialogues.proofs.Soundness.{Each}
use Rattle.meaning_evaluation.specs.Stages.Assigned.{Assigned}
use Rattle.meaning_dialogues.specs.Internal.{is_internal}
use Rattle.laws_evaluation.specs.Soundness.Known.{NamesKnown, BodiesKnown}

-- it has such a number
abbrev pub IsNumbered : (ℕ → Type 0) → Option ℕ → Type 0
IsNumbered N None = ⊥
IsNumbered N (Some number) = N number

-- no fault, or another one than `internal`
abbrev pub NoInternal : Option Fault → Type 0
NoInternal None = Unit {0}
NoInternal (Some fault) = is_internal fault ≡ false

-- the names of a right side are known by the numbers that are bound, and so are those in the bodies of the functions that it reaches
pub record SideKnown (functions : List DefinedFunction) (N : ℕ → Type 0) (term : Term) : Type 0 where
  pub reached : DefinedFunction → Bool
  pub bodies : BodiesKnown functions (λ f. reached f ≡ true) (λ x. IsNumbered N x.number)
  pub names : NamesKnown functions (λ f. reached f ≡ true) (λ x. IsNumbered N x.number) term

-- each variable of a constant has such a number; its calls and commands make it none
abbrev pub ConstantKnown : (ℕ → Type 0) → Term → Type 0
ConstantKnown N term = Each (λ x. IsNumbered N x.number) (λ name arguments. Unit {0}) term

module _ (overrides : ℕ → Option (List ℕ)) (is_read : ℕ → Bool) where
  -- such numbers, and that of a variable once it is read
  abbrev pub With : ℕ → (ℕ → Type 0) → ℕ → Type 0
  With number N k = ((k ≡ number) × (is_read number ≡ true)) ⊎ N k

  -- the right side of each variable that is read and not overridden is known by such numbers and those of the variables before it
  abbrev pub InOrder : ((ℕ → Type 0) → Term → Type 0) → (ℕ → Type 0) → List Assigned → Type 0
  InOrder K N [] = Unit {0}
  InOrder K N (a ∷ more) = (is_read a.number ≡ true → overrides a.number ≡ None → K N a.value) × InOrder K (With a.number N) more

-- a variable is never read with `internal` whose number is no constant, has a value in the frame, or is such a number
pub record ReadsProperly (reading_with : Frame → (ℕ → Bool) → Reading) (N : ℕ → Type 0) : Type 0 where
  pub at : (frame : Frame) (excluded : ℕ → Bool) (place : Lookup) (x : Variable) → IsNumbered (λ number. (excluded number ≡ true) ⊎ (IsSome (frame number) ⊎ N number)) x.number
      → (fault : Fault) → reading_with frame excluded place x ≡ Err fault → is_internal fault ≡ false
