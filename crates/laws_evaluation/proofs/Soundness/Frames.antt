-- No evaluation of known names in frames ends with `internal`.
use Rattle.std.proofs.Common.{◌≡◌, ℕ, List, Bool, true, false, if◌then◌else◌, Option, Some, None, Result, Ok, Err, ◌⊎◌, inl, inr, ⊎_elim, refl}
use Rattle.std.specs.Prelude.{IsSome}
use Rattle.just_host.specs.declared.entry.Entry.{Entry}
use Rattle.just_value.specs.Frames.{BoundRow, Frames, look_up}
use Rattle.evaluate_context.specs.Surroundings.{Surroundings, Standing}
use Rattle.meaning_dialogues.specs.Faults.{Fault, memory, not_constant, a_variable}
use Rattle.meaning_dialogues.specs.Dialogue.{Dialogue, DialogueGoes, Evaluates, Reading, Lookup, around, in_module, Variable}
use Rattle.meaning_dialogues.specs.Evaluation.{Value, dialogue}
use Rattle.meaning_dialogues.specs.Terms.{Term}
use Rattle.meaning_dialogues.specs.Calls.{DefinedFunction, value_found, read_in, reading_in_frames}
use Rattle.meaning_dialogues.proofs.Soundness.{Sound, Any}
use Rattle.meaning_evaluation.specs.Stages.Stages.{run_stage, calls_left}
use Rattle.meaning_evaluation.proofs.Stages.Depth.{HasNumber, has_value}
use Rattle.laws_evaluation.specs.Soundness.Endings.{GivesProperly, NotInternal, ReadsAndEnds, Proper}
use Rattle.meaning_dialogues.specs.Internal.{is_internal}
use Rattle.laws_evaluation.specs.Soundness.Known.{IsBoundIn, IsReadIn, IsBoundAt, IsReadAt, OneForEach, NamesKnown, BodiesKnown}
use Rattle.laws_evaluation.proofs.Soundness.Endings.{reads_only}
use Rattle.laws_evaluation.proofs.Soundness.Results.{comes_to}
use Rattle.laws_evaluation.proofs.Soundness.Calls.{run_proper}

found_proper : (b : Bool) (o : Option BoundRow) (name : List ℕ) (fault : Fault) → (b ≡ true) ⊎ IsSome o → (if b then Err (not_constant (a_variable name)) else value_found name o) ≡ Err fault → is_internal fault ≡ false
found_proper true o name fault h e = let f : not_constant (a_variable name) ≡ fault = cc in rw (← f) refl
found_proper false (Some binding) name fault h e = absurd (cc)
found_proper false None name fault h e = absurd (⊎_elim (λ t. cc) (λ s. cc) h)

number_proper : (excluded : ℕ → Bool) (frames : Frames) (name : List ℕ) (number : Option ℕ) (fault : Fault) → IsReadIn excluded frames number → read_in excluded frames name number ≡ Err fault → is_internal fault ≡ false
number_proper excluded frames name None fault h e = absurd h
number_proper excluded frames name (Some number) fault h e = found_proper (excluded number) (look_up frames number) name fault h e

-- a variable whose number is no constant or bound is never read with `internal`
pub read_proper : (excluded : ℕ → Bool) (here there : Frames) (place : Lookup) (x : Variable) → IsReadAt excluded here there place x → (fault : Fault) → reading_in_frames excluded here there place x ≡ Err fault → is_internal fault ≡ false
read_proper excluded here there around x h fault e = number_proper excluded here x.name x.number fault h e
read_proper excluded here there in_module x h fault e = number_proper excluded there x.name x.number fault h e

bound_is_read : (excluded : ℕ → Bool) (frames : Frames) (number : Option ℕ) → IsBoundIn frames number → IsReadIn excluded frames number
bound_is_read excluded frames None h = absurd h
bound_is_read excluded frames (Some number) h = inr h

-- a variable that is bound is read properly, whatever numbers are those of no constants
pub bound_at : (excluded : ℕ → Bool) (here there : Frames) (place : Lookup) (x : Variable) → IsBoundAt here there place x → IsReadAt excluded here there place x
bound_at excluded here there around x h = bound_is_read excluded here x.number h
bound_at excluded here there in_module x h = bound_is_read excluded there x.number h

-- what reads bound variables alone, and gives a value of this kind or a fault other than `internal`, comes to such in the frames
pub in_frames : {A : Type 0} (Q : A → Type 0) (excluded : ℕ → Bool) (here there : Frames) (t : Dialogue A) (old new : List Entry) (r : Result A Fault)
    → ReadsAndEnds (IsBoundAt here there) (GivesProperly Q) t → DialogueGoes (reading_in_frames excluded here there) t old new r → GivesProperly Q r
in_frames Q excluded here there t old new r h g =
    comes_to (IsBoundAt here there) (GivesProperly Q) (reading_in_frames excluded here there) (λ place x b fault e. read_proper excluded here there place x (bound_at excluded here there place x b) fault e) t old new r h g

at_fault : {A : Type 0} {reading : Reading} (b : Bool) (fault : Fault) (t : Dialogue A) (old new : List Entry) → is_internal fault ≡ b → (DialogueGoes reading t old new (Err fault) → is_internal fault ≡ false) → Evaluates reading t old new (Err fault) → is_internal fault ≡ false
at_fault false fault t old new e h g = e
at_fault true fault t old new e h g = h (g.goes (λ m. let f : fault ≡ memory = cc in let i : is_internal fault ≡ false = rw f refl in absurd (cc)))

-- what is so of each dialogue that goes is so of an evaluation, which may also end for want of memory
pub evaluates_properly : {A : Type 0} {reading : Reading} (Q : A → Type 0) (t : Dialogue A) (old new : List Entry) (r : Result A Fault) → (DialogueGoes reading t old new r → GivesProperly Q r) → Evaluates reading t old new r → GivesProperly Q r
evaluates_properly Q t old new (Ok a) h g = h (g.goes (λ e. cc))
evaluates_properly Q t old new (Err fault) h g = at_fault (is_internal fault) fault t old new refl h g

-- an evaluation in frames of what reads bound variables alone, and gives a value of this kind or a fault other than `internal`, comes to such
pub evaluates_in_frames : {A : Type 0} (Q : A → Type 0) (excluded : ℕ → Bool) (here there : Frames) (t : Dialogue A) (old new : List Entry) (r : Result A Fault)
    → ReadsAndEnds (IsBoundAt here there) (GivesProperly Q) t → Evaluates (reading_in_frames excluded here there) t old new r → GivesProperly Q r
evaluates_in_frames Q excluded here there t old new r h g = evaluates_properly Q t old new r (λ d. in_frames Q excluded here there t old new r h d) g

module _ (m : Surroundings) (functions : List DefinedFunction) (reached : DefinedFunction → Type 0) (in_body s : Standing) (n : ℕ) where
  abbrev run : Term → Dialogue Value
  run t = dialogue (run_stage m functions s (calls_left m functions in_body n)) t

  -- a term in a run reads such variables where it stands and such in the module, and never ends with `internal`, where its names are known, and those of the bodies of functions
  pub names_read : (U : Variable → Type 0) → BodiesKnown functions reached U → (Q : Lookup → Variable → Type 0) (V : Variable → Type 0) → ((x : Variable) → U x → Q in_module x) → ((x : Variable) → V x → Q around x)
      → (t : Term) → NamesKnown functions reached V t → Proper Q (run t)
  names_read U bodies Q V up at t h =
      run_proper m functions in_body (λ place x. U x) (λ f x. HasNumber f.parameters x.number ⊎ U x) (OneForEach reached)
      (λ f values x taken v. ⊎_elim (λ i. inl (has_value f.parameters values x.number taken.1 i)) (λ b. inr b) v) (λ name f arguments e taken. bodies.body name f e taken.0) s n Q V up at t h

  -- so it reads no others, however deep the calls lie
  pub names_sound : (U : Variable → Type 0) → BodiesKnown functions reached U → (Q : Lookup → Variable → Type 0) (V : Variable → Type 0) → ((x : Variable) → U x → Q in_module x) → ((x : Variable) → V x → Q around x)
      → (t : Term) → NamesKnown functions reached V t → Sound Q Any (run t)
  names_sound U bodies Q V up at t h = reads_only Q NotInternal (run t) (names_read U bodies Q V up at t h)

  module _ (here there : Frames) (bodies : BodiesKnown functions reached (λ x. IsBoundIn there x.number)) where
    -- it reads bound variables alone where each of its variables is bound where it stands
    pub names_proper : (t : Term) → NamesKnown functions reached (λ x. IsBoundIn here x.number) t → Proper (IsBoundAt here there) (run t)
    names_proper t h = names_read (λ x. IsBoundIn there x.number) bodies (IsBoundAt here there) (λ x. IsBoundIn here x.number) (λ x p. p) (λ x p. p) t h

    -- the evaluation of a term in a run doesn't end with `internal` where its names are known in the frames, and those of the bodies of functions in the module's
    pub run_in_frames : (excluded : ℕ → Bool) (t : Term) → NamesKnown functions reached (λ x. IsBoundIn here x.number) t → (old new : List Entry) (r : Result Value Fault) → Evaluates (reading_in_frames excluded here there) (run t) old new r → NotInternal r
    run_in_frames excluded t h old new r g = evaluates_in_frames Any excluded here there (run t) old new r (names_proper t h) g
