-- Names that are known where a term stands.
use Rattle.std.specs.Prelude.{◌≡◌, ℕ, ◌⊎◌, Bool, true, List, [], ◌∷◌, length, Option, Some, None, IsSome}
use Rattle.std.specs.List.{AllByRecursion}
use Rattle.just_value.specs.Frames.{Frames, look_up}
use Rattle.evaluate_functions.specs.Names.{function_of}
use Rattle.meaning_dialogues.specs.Dialogue.{Lookup, around, in_module, Variable}
use Rattle.meaning_dialogues.specs.Terms.{Term}
use Rattle.meaning_dialogues.specs.Evaluation.{Value}
use Rattle.meaning_dialogues.specs.Calls.{DefinedFunction, function_named}
use Rattle.meaning_dialogues.proofs.Soundness.{Each}
use Rattle.meaning_evaluation.specs.Stages.Lines.{TermPiece, text, interpolation}
use Rattle.meaning_evaluation.specs.Stages.Parameters.{Formal}
use Rattle.meaning_evaluation.proofs.Stages.Depth.{HasNumber}

-- it has a number that is bound in the frames
abbrev pub IsBoundIn : Frames → Option ℕ → Type 0
IsBoundIn frames None = ⊥
IsBoundIn frames (Some number) = IsSome (look_up frames number)

-- it has a number that is no constant, or is bound in the frames
abbrev pub IsReadIn : (ℕ → Bool) → Frames → Option ℕ → Type 0
IsReadIn excluded frames None = ⊥
IsReadIn excluded frames (Some number) = (excluded number ≡ true) ⊎ IsSome (look_up frames number)

-- it is so in the frames where it is read: those of a place, or those of the module
abbrev pub IsBoundAt : Frames → Frames → Lookup → Variable → Type 0
IsBoundAt here there around x = IsBoundIn here x.number
IsBoundAt here there in_module x = IsBoundIn there x.number

abbrev pub IsReadAt : (ℕ → Bool) → Frames → Frames → Lookup → Variable → Type 0
IsReadAt excluded here there around x = IsReadIn excluded here x.number
IsReadAt excluded here there in_module x = IsReadIn excluded there x.number

-- a function of the justfile that takes so many arguments, or else a built-in one
abbrev pub IsCallable : (DefinedFunction → ℕ → Type 0) → Option DefinedFunction → List ℕ → ℕ → Type 0
IsCallable takes (Some f) name arguments = takes f arguments
IsCallable takes None name arguments = IsSome (function_of name)

abbrev pub AnyNumber : DefinedFunction → ℕ → Type 0
AnyNumber f arguments = Unit {0}

-- as many as it has parameters, where it is one of those functions
abbrev pub OneForEach : (DefinedFunction → Type 0) → DefinedFunction → ℕ → Type 0
OneForEach reached f arguments = reached f × (arguments ≡ length f.parameters)

module _ (functions : List DefinedFunction) where
  -- each call in it names a function of the justfile or a built-in one
  abbrev pub CallsKnown : Term → Type 0
  CallsKnown term = Each (λ x. Unit {0}) (λ name arguments. IsCallable AnyNumber (function_named name functions) name arguments) term

  -- each call in the body of a function is known
  pub record BodiesCallKnown : Type 0 where
    pub body : (name : List ℕ) (f : DefinedFunction) → function_named name functions ≡ Some f → CallsKnown f.body

  module _ (reached : DefinedFunction → Type 0) where
    -- each variable in it is such, and each call in it names a function that may be reached, with as many arguments as this has parameters, or a built-in one
    abbrev pub NamesKnown : (Variable → Type 0) → Term → Type 0
    NamesKnown V term = Each V (λ name arguments. IsCallable (OneForEach reached) (function_named name functions) name arguments) term

    -- what the body of a function names that may be reached is known: its variables are parameters, or may be read in the module
    pub record BodiesKnown (in_the_module : Variable → Type 0) : Type 0 where
      pub body : (name : List ℕ) (f : DefinedFunction) → function_named name functions ≡ Some f → reached f → NamesKnown (λ x. HasNumber f.parameters x.number ⊎ in_the_module x) f.body

-- the term of a part of a line
abbrev pub PieceKnown : (Term → Type 0) → TermPiece → Type 0
PieceKnown K (text t) = Unit {0}
PieceKnown K (interpolation e) = K e

-- the default of a parameter, and what its option stands for
pub record FormalKnown (K : Term → Type 0) (formal : Formal) : Type 0 where
  pub default : (e : Term) → formal.default ≡ Some e → K e
  pub value : (e : Term) → formal.value ≡ Some e → K e

-- those of parameters in order, each by the numbers of the parameters before it
abbrev pub FormalsKnown : (List ℕ → Term → Type 0) → List ℕ → List Formal → Type 0
FormalsKnown K numbers [] = Unit {0}
FormalsKnown K numbers (formal ∷ formals) = FormalKnown (K numbers) formal × FormalsKnown K (formal.number ∷ numbers) formals

-- a key and a value
abbrev pub PairKnown : (Term → Type 0) → Term × Term → Type 0
PairKnown K pair = K pair.0 × K pair.1

-- the terms of a recipe's binding are known, and each parameter has a group
pub record RecipeKnown (K : List ℕ → Term → Type 0) (attributes : List (Term × Term)) (formals : List Formal) (groups : List Value) : Type 0 where
  pub env : AllByRecursion (PairKnown (K [])) attributes
  pub parameters : FormalsKnown K [] formals
  pub count : length groups ≡ length formals
