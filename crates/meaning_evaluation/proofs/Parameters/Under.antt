-- A dialogue in frames, of which the innermost one is read first.
use Rattle.std.proofs.Common.{◌≡◌, ℕ, List, ◌++◌, Option, Some, None, Result, Ok, Err, refl, sym, ap, ◌∙◌, subst, MatchResult}
use Rattle.std.specs.Option.{option_map, option_or}
use Rattle.just_host.specs.declared.entry.Entry.{Entry}
use Rattle.just_value.specs.Frames.{BoundRow, Frames, bound_in, found_in}
use Rattle.meaning_dialogues.specs.Faults.{Fault}
use Rattle.meaning_dialogues.specs.Dialogue.{Dialogue, Ends, Asks, Reads, Begins, DialogueGoes, Evaluates, around, in_module, Variable}
use Rattle.meaning_dialogues.specs.Evaluation.{Value}
use Rattle.meaning_dialogues.specs.Calls.{Frame, HasValues, empty, in_frame, value_found}
use Rattle.meaning_evaluation.specs.Stages.Parameters.{or_around, under}
use Rattle.meaning_dialogues.proofs.Dialogues.{weaker}
use Rattle.meaning_evaluation.specs.Parameters.Bindings.{run_reading}

abbrev from_own : Option Value → Result Value Fault → Result Value Fault
from_own (Some value) else_ = Ok value
from_own None else_ = else_

found_first : (name : List ℕ) (o p : Option BoundRow) → value_found name (option_or o p) ≡ from_own (option_map (λ binding. binding.value) o) (value_found name p)
found_first name None p = refl
found_first name (Some b) p = refl

-- the innermost of these frames has the values of the frame, and that of the other frames has none
module _ (here inner there : Frames) (frame : Frame) (none : HasValues here.own empty) (has : HasValues inner.own frame) (lies : inner.outer ≡ here.outer) where
  read_under : (name : List ℕ) (number : Option ℕ) → run_reading inner there around (record { name = name; number = number }) ≡ from_own (in_frame frame number) (run_reading here there around (record { name = name; number = number }))
  read_under name None = refl
  read_under name (Some n) =
      let outside : value_found name (option_or (bound_in here.own n) (found_in here.outer n)) ≡ value_found name (found_in here.outer n)
      = found_first name (bound_in here.own n) (found_in here.outer n) ∙ ap (λ o. from_own o (value_found name (found_in here.outer n))) (none.at n) in
      found_first name (bound_in inner.own n) (found_in inner.outer n)
      ∙ (ap (λ o. from_own o (value_found name (found_in inner.outer n))) (has.at n)
      ∙ (ap (λ frames. from_own (frame n) (value_found name (found_in frames n))) lies
      ∙ ap (from_own (frame n)) (sym outside)))

  at_read : {A : Type 0} (o : Option Value) (seen : Result Value Fault) (x : Variable) (next : Value → Dialogue A) (old new : List Entry) (r : Result A Fault)
      → ((v : Value) → DialogueGoes (run_reading inner there) (next v) old new r → DialogueGoes (run_reading here there) (under frame (next v)) old new r)
      → seen ≡ from_own o (run_reading here there around x)
      → MatchResult seen (λ v. DialogueGoes (run_reading inner there) (next v) old new r) (λ fault. (new ≡ old) × (r ≡ Err fault))
      → DialogueGoes (run_reading here there) (or_around o (λ v. under frame (next v)) x) old new r
  at_read (Some v) seen x next old new r go e h =
      go v (subst (λ s. MatchResult s (λ v. DialogueGoes (run_reading inner there) (next v) old new r) (λ fault. (new ≡ old) × (r ≡ Err fault))) e h)
  at_read None seen x next old new r go e h =
      weaker (run_reading here there around x) go (λ fault p. p) (subst (λ s. MatchResult s (λ v. DialogueGoes (run_reading inner there) (next v) old new r) (λ fault. (new ≡ old) × (r ≡ Err fault))) e h)

  -- where a dialogue leads in frames, it leads outside the innermost one too once the innermost one is read first
  pub goes_under : {A : Type 0} (t : Dialogue A) (old new : List Entry) (r : Result A Fault) → DialogueGoes (run_reading inner there) t old new r → DialogueGoes (run_reading here there) (under frame t) old new r
  goes_under (Ends end) old new r h = h
  goes_under (Asks q next) old new r h = (h.0, goes_under (next h.0) _ new r h.1)
  goes_under (Reads around x next) old new r h =
      at_read (in_frame frame x.number) (run_reading inner there around x) x next old new r (λ v g. goes_under (next v) old new r g) (read_under x.name x.number) h
  goes_under (Reads in_module x next) old new r h =
      weaker (run_reading here there in_module x) (λ v g. goes_under (next v) old new r g) (λ fault p. p) h

  -- the same of a beginning
  under_begins : {A : Type 0} (t : Dialogue A) (old new : List Entry) → Begins (run_reading inner there) t old new → Begins (run_reading here there) (under frame t) old new
  under_begins t old new b = record { rest = b.rest; result = b.result; goes = goes_under t old (new ++ b.rest) b.result b.goes }

  -- the same of an evaluation
  pub under_goes : {A : Type 0} (t : Dialogue A) (old new : List Entry) (r : Result A Fault) → Evaluates (run_reading inner there) t old new r → Evaluates (run_reading here there) (under frame t) old new r
  under_goes t old new r h = record { goes = λ n. goes_under t old new r (h.goes n); begins = under_begins t old new h.begins }
