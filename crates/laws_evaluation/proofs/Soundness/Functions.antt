-- What is so of each function of a justfile is so of each that a name calls.
use Rattle.std.proofs.Common.{◌≡◌, ℕ, List, [], ◌∷◌, Bool, true, false, cond, Option, Some, ◌⊎◌, subst}
use Rattle.std.specs.List.{AllByRecursion}
use Rattle.std.specs.Str.{bytes_eq}
use Rattle.meaning_dialogues.specs.Dialogue.{Variable}
use Rattle.meaning_dialogues.specs.Calls.{DefinedFunction, function_named}
use Rattle.meaning_evaluation.proofs.Stages.Depth.{HasNumber}
use Rattle.laws_evaluation.specs.Soundness.Known.{CallsKnown, NamesKnown, BodiesCallKnown, BodiesKnown}

at_name : (P : DefinedFunction → Type 0) (b : Bool) (first : DefinedFunction) (others : Option DefinedFunction) (f : DefinedFunction) → P first → (others ≡ Some f → P f) → cond b (Some first) others ≡ Some f → P f
at_name P true first others f h go e = let same : first ≡ f = cc in subst P same h
at_name P false first others f h go e = go e

-- what is so of each is so of the one with this name
pub of_named : (P : DefinedFunction → Type 0) (name : List ℕ) (functions : List DefinedFunction) (f : DefinedFunction) → AllByRecursion P functions → function_named name functions ≡ Some f → P f
of_named P name [] f h e = absurd (cc)
of_named P name (first ∷ others) f h e = at_name P (bytes_eq first.name name) first (function_named name others) f h.0 (λ q. of_named P name others f h.1 q) e

-- each call in a body is known where the calls in each body are
pub bodies_call_known : (functions : List DefinedFunction) → AllByRecursion (λ f. CallsKnown functions f.body) functions → BodiesCallKnown functions
bodies_call_known functions h = record { body = λ name f e. of_named (λ f. CallsKnown functions f.body) name functions f h e }

-- what bodies name is known where this is so of each that may be reached
pub bodies_known : (functions : List DefinedFunction) (reached : DefinedFunction → Type 0) (in_the_module : Variable → Type 0)
    → AllByRecursion (λ f. reached f → NamesKnown functions reached (λ x. HasNumber f.parameters x.number ⊎ in_the_module x) f.body) functions → BodiesKnown functions reached in_the_module
bodies_known functions reached in_the_module h = record { body = λ name f e. of_named (λ f. reached f → NamesKnown functions reached (λ x. HasNumber f.parameters x.number ⊎ in_the_module x) f.body) name functions f h e }
