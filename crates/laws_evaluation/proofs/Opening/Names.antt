-- Functions that differ in the numbers of variables alone.
use Rattle.std.specs.Prelude.{◌≡◌, ℕ, List, Option, Some, None}
use Rattle.meaning_dialogues.specs.Dialogue.{Lookup, around, in_module, Variable}
use Rattle.meaning_dialogues.specs.Evaluation.{Value}
use Rattle.meaning_dialogues.specs.Terms.{Term}
use Rattle.meaning_dialogues.specs.Calls.{DefinedFunction, function_named, empty, with_parameters, in_frame}
use Rattle.meaning_dialogues.proofs.Soundness.{Each}
use Rattle.laws_evaluation.specs.Terms.Renumbering.{renumbered}

-- every call
abbrev pub AnyCall : List ℕ → ℕ → Type 0
AnyCall name count = Unit {0}

-- which variable of the second corresponds to which of the first
module _ (C : Lookup → Variable → Variable → Type 0) where
  -- in the bodies of two functions: their parameters have the same values, or none, and then they correspond in the module
  abbrev pub InBodies : DefinedFunction → DefinedFunction → Lookup → Variable → Variable → Type 0
  InBodies f g around x y = ((values : List Value) → in_frame (with_parameters empty f.parameters values) x.number ≡ in_frame (with_parameters empty g.parameters values) y.number) × C in_module x y
  InBodies f g in_module x y = C in_module x y

  -- each variable of the term corresponds to that of its name with the other number
  abbrev pub CorrespondIn : (List ℕ → Option ℕ) → Term → Type 0
  CorrespondIn numbers t = Each (λ x. C around x (record { name = x.name; number = numbers x.name })) AnyCall t

-- two functions have one name, and the body of the second is that of the first with other numbers
pub record SameFunction (C : Lookup → Variable → Variable → Type 0) (f g : DefinedFunction) : Type 0 where
  pub name : f.name ≡ g.name
  pub numbers : List ℕ → Option ℕ
  pub body : g.body ≡ renumbered numbers f.body
  pub variables : CorrespondIn (InBodies C f g) numbers f.body

-- the same function twice, or none twice
abbrev pub SameIfThere : (Lookup → Variable → Variable → Type 0) → Option DefinedFunction → Option DefinedFunction → Type 0
SameIfThere C None None = Unit {0}
SameIfThere C (Some f) (Some g) = SameFunction C f g
SameIfThere C None (Some g) = ⊥
SameIfThere C (Some f) None = ⊥

-- each name calls the same function of both, or none
pub record SameFunctions (C : Lookup → Variable → Variable → Type 0) (fs gs : List DefinedFunction) : Type 0 where
  pub each : (name : List ℕ) → SameIfThere C (function_named name fs) (function_named name gs)
