-- The call of a defined function: its body reads its parameters, and else the module's variables.
use Rattle.std.proofs.Common.{◌≡◌, ℕ, suc, ◌-◌, ◌<◌, Bool, false, List, ◌∷◌, ◌++◌, Option, Some, None, Result, Ok, Err, refl, ap, ◌∙◌, subst, MatchResult, arith}
use Rattle.std.specs.Option.{option_map, option_or}
use Rattle.just_host.specs.declared.entry.Entry.{Entry}
use Rattle.just_value.specs.Frames.{BoundRow, Frames, bound_in, found_in}
use Rattle.meaning_dialogues.specs.Faults.{Fault, memory, too_deep}
use Rattle.meaning_dialogues.specs.Dialogue.{Dialogue, Ends, Asks, Reads, DialogueGoes, Evaluates, Reading, around, in_module, Variable}
use Rattle.meaning_dialogues.specs.Evaluation.{Value, row, dialogue}
use Rattle.meaning_dialogues.specs.Calls.{Frame, DefinedFunction, HasValues, empty, with_parameters, in_frame, inside, or_read, value_found, reading_in_frames, call_defined}
use Rattle.meaning_evaluation.specs.Stages.Stages.{calls_left, run_stage}
use Rattle.evaluate_context.specs.Surroundings.{Surroundings, Standing}
use Rattle.meaning_dialogues.proofs.Dialogues.{then_goes, then_stops, ends, not_begun, weaker}

abbrev from_own : Option Value → Result Value Fault → Result Value Fault
from_own (Some value) else_ = Ok value
from_own None else_ = else_

abbrev no_number : ℕ → Bool
no_number number = false

found_first : (name : List ℕ) (o p : Option BoundRow) → value_found name (option_or o p) ≡ from_own (option_map (λ binding. binding.value) o) (value_found name p)
found_first name None p = refl
found_first name (Some b) p = refl

module _ (here inner outer : Frames) (frame : Frame) (has : HasValues inner.own frame) (lies : inner.outer ≡ outer.own ∷ outer.outer) where
  abbrev within : Reading
  within = reading_in_frames no_number inner outer

  abbrev without : Reading
  without = reading_in_frames no_number here outer

  read_inside : (name : List ℕ) (number : Option ℕ) → within around (record { name = name; number = number }) ≡ from_own (in_frame frame number) (without in_module (record { name = name; number = number }))
  read_inside name None = refl
  read_inside name (Some n) =
      found_first name (bound_in inner.own n) (found_in inner.outer n)
      ∙ (ap (λ o. from_own o (value_found name (found_in inner.outer n))) (has.at n)
      ∙ ap (λ frames. from_own (frame n) (value_found name (found_in frames n))) lies)

  at_read : {A : Type 0} (o : Option Value) (seen : Result Value Fault) (x : Variable) (next : Value → Dialogue A) (old new : List Entry) (r : Result A Fault)
      → ((v : Value) → DialogueGoes within (next v) old new r → DialogueGoes without (inside frame (next v)) old new r)
      → seen ≡ from_own o (without in_module x)
      → MatchResult seen (λ v. DialogueGoes within (next v) old new r) (λ fault. (new ≡ old) × (r ≡ Err fault))
      → DialogueGoes without (or_read o (λ v. inside frame (next v)) x) old new r
  at_read (Some v) seen x next old new r go e h =
      go v (subst (λ s. MatchResult s (λ v. DialogueGoes within (next v) old new r) (λ fault. (new ≡ old) × (r ≡ Err fault))) e h)
  at_read None seen x next old new r go e h =
      weaker (without in_module x) go (λ fault p. p) (subst (λ s. MatchResult s (λ v. DialogueGoes within (next v) old new r) (λ fault. (new ≡ old) × (r ≡ Err fault))) e h)

  pub goes_inside : {A : Type 0} (t : Dialogue A) (old new : List Entry) (r : Result A Fault) → DialogueGoes within t old new r → DialogueGoes without (inside frame t) old new r
  goes_inside (Ends end) old new r h = h
  goes_inside (Asks q next) old new r h = (h.0, goes_inside (next h.0) _ new r h.1)
  goes_inside (Reads around x next) old new r h =
      at_read (in_frame frame x.number) (within around x) x next old new r (λ v g. goes_inside (next v) old new r g) (read_inside x.name x.number) h
  goes_inside (Reads in_module x next) old new r h =
      weaker (without in_module x) (λ v g. goes_inside (next v) old new r g) (λ fault p. p) h

  -- what is evaluated inside is evaluated outside
  evaluates_inside : {A : Type 0} (t : Dialogue A) (old new : List Entry) (r : Result A Fault) → Evaluates within t old new r → Evaluates without (inside frame t) old new r
  evaluates_inside t old new r h =
      let b = h.begins in
      record { goes = λ n. goes_inside t old new r (h.goes n); begins = record { rest = b.rest; result = b.result; goes = goes_inside t old (new ++ b.rest) b.result b.goes } }

one_left : (left : ℕ) → 0 < left → left ≡ suc (left - 1)
one_left left h = omega arith

module _ (module_around : Surroundings) (functions : List DefinedFunction) (in_body : Standing) (left : ℕ) (f : DefinedFunction) (given : List (Dialogue Value)) where
  abbrev calls : ℕ → Option (DefinedFunction → List Value → Dialogue Value)
  calls n = calls_left module_around functions in_body n

  pub call_too_deep : (reading : Reading) (old : List Entry) → left ≡ 0 → Evaluates reading (call_defined (calls left) f given) old old (Err (too_deep f.name))
  call_too_deep reading old e = rw e (ends _ (λ n. refl))

  pub call_stops : (reading : Reading) (old new : List Entry) (e : Fault) → 0 < left → Evaluates reading (row given) old new (Err e) → Evaluates reading (call_defined (calls left) f given) old new (Err e)
  call_stops reading old new e some h = rw (one_left left some) (then_stops _ _ h)

  -- memory ran out behind the arguments
  pub call_memory : (reading : Reading) (old mid : List Entry) (values : List Value) → 0 < left → Evaluates reading (row given) old mid (Ok values) → Evaluates reading (call_defined (calls left) f given) old mid (Err memory)
  call_memory reading old mid values some h = rw (one_left left some) (then_goes _ _ h (not_begun _ mid))

  pub call_goes : (here inner outer : Frames) (old mid new : List Entry) (values : List Value) (r : Result Value Fault) → 0 < left
      → Evaluates (reading_in_frames no_number here outer) (row given) old mid (Ok values)
      → HasValues inner.own (with_parameters empty f.parameters values) → inner.outer ≡ outer.own ∷ outer.outer
      → Evaluates (reading_in_frames no_number inner outer) (dialogue (run_stage module_around functions in_body (calls (left - 1))) f.body) mid new r
      → Evaluates (reading_in_frames no_number here outer) (call_defined (calls left) f given) old new r
  call_goes here inner outer old mid new values r some h has lies g =
      let body : Evaluates (reading_in_frames no_number here outer) (inside (with_parameters empty f.parameters values) (dialogue (run_stage module_around functions in_body (calls (left - 1))) f.body)) mid new r
      = evaluates_inside here inner outer (with_parameters empty f.parameters values) has lies _ mid new r g in
      rw (one_left left some) (then_goes _ _ h body)
