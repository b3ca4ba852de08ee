-- No call of a function of the justfile ends with `internal`, however deep the calls lie.
use Rattle.std.proofs.Common.{◌≡◌, ℕ, zero, suc, List, length, Option, Some, None, ◌⊎◌, inl, inr, ⊎_elim, refl, subst, sym}
use Rattle.std.specs.Prelude.{IsSome}
use Rattle.evaluate_functions.specs.Names.{function_of}
use Rattle.evaluate_context.specs.Surroundings.{Surroundings, Standing}
use Rattle.meaning_dialogues.specs.Dialogue.{Dialogue, Lookup, around, in_module, Variable}
use Rattle.meaning_dialogues.specs.Evaluation.{Value, dialogue, row}
use Rattle.meaning_dialogues.specs.Terms.{Term}
use Rattle.meaning_dialogues.specs.Calls.{DefinedFunction, call_defined, function_named, empty, with_parameters, in_frame}
use Rattle.meaning_dialogues.proofs.Soundness.{Each}
use Rattle.meaning_evaluation.specs.Stages.Stages.{call_named, run_stage, calls_left}
use Rattle.laws_evaluation.specs.Soundness.Endings.{AnyVariable, Proper, NeverInternal}
use Rattle.laws_evaluation.specs.Soundness.Known.{IsCallable, AnyNumber, CallsKnown, BodiesCallKnown}
use Rattle.laws_evaluation.proofs.Soundness.Endings.{AllProper, then_properly, row_proper, inside_ends}
use Rattle.laws_evaluation.proofs.Soundness.Tables.{command_proper, call_builtin_proper}
use Rattle.laws_evaluation.proofs.Soundness.Terms.{proper}

-- the body of a function names such variables, which are parameters of it or may be read in the module where it takes so many arguments
module _ (m : Surroundings) (functions : List DefinedFunction) (in_body : Standing) (P : Lookup → Variable → Type 0) (V : DefinedFunction → Variable → Type 0) (takes : DefinedFunction → ℕ → Type 0)
    (binds : (f : DefinedFunction) (values : List Value) (x : Variable) → takes f (length values) → V f x → IsSome (in_frame (with_parameters empty f.parameters values) x.number) ⊎ P in_module x) where
  abbrev Callable : List ℕ → ℕ → Type 0
  Callable name arguments = IsCallable takes (function_named name functions) name arguments

  -- what its body names is such
  abbrev pub BodyNames : DefinedFunction → Type 0
  BodyNames f = Each (V f) Callable f.body

  module _ (bodies : (name : List ℕ) (f : DefinedFunction) (arguments : ℕ) → function_named name functions ≡ Some f → takes f arguments → BodyNames f) where
    abbrev W : DefinedFunction → Lookup → Variable → Type 0
    W f around x = V f x
    W f in_module x = P in_module x

    -- calls of that depth read only what the module or their arguments read, and never end with `internal`
    abbrev Proper_at : ℕ → Type 1
    Proper_at n = (f : DefinedFunction) (ds : List (Dialogue Value)) (Q : Lookup → Variable → Type 0) → ((x : Variable) → P in_module x → Q in_module x) → BodyNames f → takes f (length ds) → AllProper Q ds → Proper Q (call_defined (calls_left m functions in_body n) f ds)

    named_proper : (n : ℕ) → Proper_at n → (o : Option DefinedFunction) (name file : List ℕ) (ds : List (Dialogue Value)) (Q : Lookup → Variable → Type 0) (s : Standing) → ((x : Variable) → P in_module x → Q in_module x)
        → ((f : DefinedFunction) (arguments : ℕ) → o ≡ Some f → takes f arguments → BodyNames f) → IsCallable takes o name (length ds) → AllProper Q ds → Proper Q (call_named m s (calls_left m functions in_body n) o name file ds)
    named_proper n go (Some f) name file ds Q s up names callable all = go f ds Q up (names f (length ds) refl callable) callable all
    named_proper n go None name file ds Q s up names callable all = call_builtin_proper Q m s (function_of name) name file ds callable all

    -- at no depth does a call of a function whose body names such end with `internal` where no argument does
    pub call_proper : (n : ℕ) → Proper_at n
    call_proper zero f ds Q up names e h = refl
    call_proper (suc n) f ds Q up names e h =
        then_properly Q (λ vs. length vs ≡ length ds) (row ds) _ (row_proper Q ds h)
        (λ vs len. inside_ends (W f) Q _ (with_parameters empty f.parameters vs) (λ x w. ⊎_elim (λ i. inl i) (λ p. inr (up x p)) (binds f vs x (subst (takes f) (sym len) e) w)) up
        (dialogue (run_stage m functions in_body (calls_left m functions in_body n)) f.body)
        (proper (W f) (V f) Callable (run_stage m functions in_body (calls_left m functions in_body n)) (λ x w. w)
        (command_proper (W f) m in_body m.dry_run) (λ name file es callable all. named_proper n (call_proper n) (function_named name functions) name file es (W f) in_body (λ x p. p) (bodies name) callable all) f.body names))

    -- a term that names such variables and calls reads no others and never ends with `internal`
    pub run_proper : (s : Standing) (n : ℕ) (Q : Lookup → Variable → Type 0) (U : Variable → Type 0) → ((x : Variable) → P in_module x → Q in_module x) → ((x : Variable) → U x → Q around x)
        → (t : Term) → Each U Callable t → Proper Q (dialogue (run_stage m functions s (calls_left m functions in_body n)) t)
    run_proper s n Q U up here t h =
        proper Q U Callable (run_stage m functions s (calls_left m functions in_body n)) here (command_proper Q m s m.dry_run)
        (λ name file ds callable all. named_proper n (call_proper n) (function_named name functions) name file ds Q s up (bodies name) callable all) t h

-- a term with known calls never ends with `internal` in a run, whatever it reads, where each call in the body of a function is known
pub run_never_internal : (m : Surroundings) (functions : List DefinedFunction) (in_body s : Standing) (n : ℕ) → BodiesCallKnown functions → (t : Term) → CallsKnown functions t → NeverInternal (dialogue (run_stage m functions s (calls_left m functions in_body n)) t)
run_never_internal m functions in_body s n bodies t h =
    run_proper m functions in_body AnyVariable (λ f x. Unit {0}) AnyNumber (λ f values x taken v. inr tt) (λ name f arguments e taken. bodies.body name f e) s n AnyVariable (λ x. Unit {0}) (λ x p. tt) (λ x p. tt) t h
