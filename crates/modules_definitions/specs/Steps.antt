-- One definition after the other.
use Rattle.std.specs.Prelude.{◌≡◌, ◌⊎◌, true, false, List, [], ◌∷◌, ◌++◌, Option, Some, None}
use Rattle.modules_definitions.specs.declared.definition.Definition.{Definition}
use Rattle.modules_compilation.specs.declared.error.Error.{Error}
use Rattle.modules_compilation.specs.declared.error.Error.TheVariants.{OutOfMemory}
use Rattle.modules_definitions.specs.declared.keep.Allowed.{Allowed}
use Rattle.modules_definitions.specs.Keeping.{ShareName, may_both, refusal_of}

-- what is kept of two of a name
pub record IsBetter (allowed : Allowed) (first second one : Definition) : Type 0 where
  pub both : may_both allowed first second ≡ true
  pub same : first.place.file ≡ second.place.file → one ≡ second
  pub other : (first.place.file ≡ second.place.file → ⊥) → one ≡ first

-- what is done, and what is kept so far of the last name, with the next definition
pub data Step (allowed : Allowed) (done : List Definition) : Option Definition → Definition → List Definition → Option Definition → Type 0 where
  begins : {next : Definition} → Step allowed done None next done (Some next)
  merges : {last next one : Definition} → ShareName last next → IsBetter allowed last next one → Step allowed done (Some last) next done (Some one)
  goes_on : {last next : Definition} → (ShareName last next → ⊥) → Step allowed done (Some last) next (done ++ last ∷ []) (Some next)

-- the second may not stand beside the first
pub record IsClash (allowed : Allowed) (first second : Definition) (error : Error) : Type 0 where
  pub is : error ≡ refusal_of second
  pub forbidden : may_both allowed first second ≡ false

-- the next definition may not stand beside the last of its name, or memory ran out
pub data IsClashAfter (allowed : Allowed) : Option Definition → Definition → Error → Type 0 where
  memory : {last : Option Definition} {next : Definition} {error : Error} → error ≡ OutOfMemory → IsClashAfter allowed last next error
  clash : {last next : Definition} {error : Error} → ShareName last next → IsClash allowed last next error → IsClashAfter allowed (Some last) next error

abbrev pub all_kept : List Definition → Option Definition → List Definition
all_kept done None = done
all_kept done (Some last) = done ++ last ∷ []
