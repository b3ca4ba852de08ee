-- What a right side reads in a run: what it names, and what the bodies of the functions name that can be called.
use Rattle.std.proofs.Common.{◌≡◌, ℕ, Bool, zero, suc, List, length, Option, Some, None, ◌⊎◌, inl, inr, ⊎_elim, refl, ◌∙◌}
use Rattle.evaluate_functions.specs.Names.{function_of}
use Rattle.evaluate_context.specs.Surroundings.{Surroundings, Standing}
use Rattle.meaning_dialogues.specs.Dialogue.{Dialogue, Ends, Asks, Reads, Lookup, around, in_module, Variable}
use Rattle.meaning_dialogues.specs.Evaluation.{Value, dialogue, row}
use Rattle.meaning_dialogues.specs.Calls.{const_stage, DefinedFunction, empty, with_parameters, call_defined, function_named}
use Rattle.meaning_dialogues.specs.Terms.{Term}
use Rattle.meaning_dialogues.proofs.Soundness.{Sound, Any, AllSound, then_sound, row_sound, Each, sound, inside_sound}
use Rattle.meaning_evaluation.specs.Stages.Assigned.{assigned_dialogue}
use Rattle.meaning_evaluation.specs.Stages.Stages.{call_named, run_stage, calls_left}
use Rattle.meaning_evaluation.proofs.Stages.Depth.{HasNumber, has_value, Fits}
use Rattle.meaning_evaluation.proofs.Stages.Tables.{command_sound, call_builtin_sound}
use Rattle.laws_evaluation.specs.Opening.Opened.{ReadsOnly}
use Rattle.laws_evaluation.proofs.Opening.Names.{AnyCall}

-- what is sound reads only those
pub reads_of_sound : {A : Type 0} (P : Lookup → Variable → Type 0) (t : Dialogue A) → Sound P Any t → ReadsOnly P t
reads_of_sound P (Ends end) h = tt
reads_of_sound P (Asks q next) h = λ answer. reads_of_sound P (next answer) (h answer)
reads_of_sound P (Reads place x next) h = (h.0, λ value. reads_of_sound P (next value) (h.1 value))

-- a term names only these variables, and calls only these functions, each with as many arguments as it has parameters
abbrev pub NamesOnly : List DefinedFunction → (List ℕ → Type 0) → (Variable → Type 0) → Term → Type 0
NamesOnly functions Called V t = Each V (λ name arguments. Called name × Fits (function_named name functions) arguments) t

-- the bodies of functions that can be called name only their parameters and these variables, and call only functions that can be called
pub record BodiesNameOnly (functions : List DefinedFunction) (Called : List ℕ → Type 0) (V : Variable → Type 0) : Type 0 where
  pub each : (name : List ℕ) (f : DefinedFunction) → Called name → function_named name functions ≡ Some f → NamesOnly functions Called (λ x. HasNumber f.parameters x.number ⊎ V x) f.body

module _ (m : Surroundings) (functions : List DefinedFunction) (in_body : Standing) (P : Lookup → Variable → Type 0) (Called : List ℕ → Type 0) (bodies : BodiesNameOnly functions Called (λ x. P in_module x)) where
  -- in a body what is no parameter is read in the module
  abbrev InBody : DefinedFunction → Lookup → Variable → Type 0
  InBody f around x = HasNumber f.parameters x.number ⊎ P in_module x
  InBody f in_module x = P in_module x

  -- the calls of that depth read only these
  abbrev ReadsAt : ℕ → Type 1
  ReadsAt n = (name : List ℕ) (f : DefinedFunction) → Called name → function_named name functions ≡ Some f → (ds : List (Dialogue Value)) (Q : Lookup → Variable → Type 0) → ((x : Variable) → P in_module x → Q in_module x) → length ds ≡ length f.parameters → AllSound Q ds
      → Sound Q Any (call_defined (calls_left m functions in_body n) f ds)

  named : (n : ℕ) → ReadsAt n → (o : Option DefinedFunction) (name file : List ℕ) → Called name → function_named name functions ≡ o → (ds : List (Dialogue Value)) (Q : Lookup → Variable → Type 0) (s : Standing) → ((x : Variable) → P in_module x → Q in_module x) → Fits o (length ds) → AllSound Q ds
      → Sound Q Any (call_named m s (calls_left m functions in_body n) o name file ds)
  named n go (Some f) name file can is ds Q s up fits all = go name f can is ds Q up fits all
  named n go None name file can is ds Q s up fits all = call_builtin_sound Q m s (function_of name) name file ds all

  called : (n : ℕ) → ReadsAt n
  called zero name f can is ds Q up e h = tt
  called (suc n) name f can is ds Q up e h =
      then_sound Q (λ vs. length vs ≡ length ds) Any (row ds) _ (row_sound Q ds h)
      (λ vs len. inside_sound Q (InBody f) Any (with_parameters empty f.parameters vs)
      (λ x w. ⊎_elim (λ i. inl (has_value f.parameters vs x.number (len ∙ e) i)) (λ p. inr (up x p)) w) (λ x p. up x p)
      (dialogue (run_stage m functions in_body (calls_left m functions in_body n)) f.body)
      (sound (InBody f) (λ x. HasNumber f.parameters x.number ⊎ P in_module x) (λ name arguments. Called name × Fits (function_named name functions) arguments)
      (run_stage m functions in_body (calls_left m functions in_body n)) (λ x w. w)
      (command_sound (InBody f) m in_body m.dry_run) (λ other file ds fits all. named n (called n) (function_named other functions) other file fits.0 refl ds (InBody f) in_body (λ x p. p) fits.1 all) f.body (bodies.each name f can is)))

  -- in a run a right side reads only the variables that it names, and those that the bodies of functions name
  pub run_reads : (n : ℕ) (s : Standing) (text : Option (List ℕ)) (term : Term) → (text ≡ None → NamesOnly functions Called (λ x. P around x) term)
      → ReadsOnly P (assigned_dialogue text (run_stage m functions s (calls_left m functions in_body n)) term)
  run_reads n s (Some text) term h = tt
  run_reads n s None term h =
      reads_of_sound P (dialogue (run_stage m functions s (calls_left m functions in_body n)) term)
      (sound P (λ x. P around x) (λ name arguments. Called name × Fits (function_named name functions) arguments) (run_stage m functions s (calls_left m functions in_body n)) (λ x p. p) (command_sound P m s m.dry_run)
      (λ name file ds fits all. named n (called n) (function_named name functions) name file fits.0 refl ds P s (λ x p. p) fits.1 all) term (h refl))

-- as a constant a right side reads only the variables that it names
pub constant_reads : (lists : Bool) (V : Variable → Type 0) (text : Option (List ℕ)) (term : Term) → (text ≡ None → Each V AnyCall term) → ReadsOnly (λ place x. V x) (assigned_dialogue text (const_stage lists) term)
constant_reads lists V (Some text) term h = tt
constant_reads lists V None term h =
    reads_of_sound (λ place x. V x) (dialogue (const_stage lists) term) (sound (λ place x. V x) V AnyCall (const_stage lists) (λ x v. v) (λ contents written. tt) (λ name file ds fits all. tt) term (h refl))
