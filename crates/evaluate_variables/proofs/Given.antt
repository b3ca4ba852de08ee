-- What a parameter is given.
use Rattle.std.proofs.Common.{◌≡◌, ◌≢◌, ℕ, zero, suc, ◌+◌, Bool, false, List, [], ◌∷◌, ◌++◌, length, Some, Result, Ok, Err, refl, sym, ap, ◌∙◌, append_assoc, append-nil, add-one}
use Rattle.std.specs.List.{flat_map}
use Rattle.just_host.specs.declared.entry.Entry.{Entry}
use Rattle.meaning_dialogues.specs.Dialogue.{Evaluates, Reading}
use Rattle.meaning_dialogues.specs.Evaluation.{Stage, Value, dialogue}
use Rattle.meaning_dialogues.specs.Faults.{Fault, memory}
use Rattle.meaning_dialogues.specs.Terms.{Term}
use Rattle.meaning_dialogues.proofs.Dialogues.{ends, then_goes, then_stops}
use Rattle.meaning_evaluation.specs.Stages.Parameters.{Formal, default_dialogue, given_dialogue, parameter_dialogue}
use Rattle.evaluate_variables.specs.Given.{times_over}

times_turned : (n : ℕ) (v : Value) → times_over n v ++ v ≡ v ++ times_over n v
times_turned zero v = sym (append-nil v)
times_turned (suc n) v = append_assoc v (times_over n v) v ∙ ap (λ l. v ++ l) (times_turned n v)

pub times_more : (n : ℕ) (v : Value) → times_over (n + 1) v ≡ times_over n v ++ v
times_more n v = rw add-one (sym (times_turned n v))

times_each : (group v : Value) → times_over (length group) v ≡ flat_map (λ text. v) group
times_each [] v = refl
times_each (text ∷ texts) v = ap (λ l. v ++ l) (times_each texts v)

pub given_each : (reading : Reading) (stage : Stage) (d : Bool) (group : Value) (old new : List Entry) (r : Result Value Fault) (value : Value) (term : Term) → d ≡ false → Evaluates reading (dialogue stage term) old new (Ok value)
    → (r ≢ Err memory → r ≡ Ok (times_over (length group) value)) → Evaluates reading (given_dialogue stage d [] group (Some term) d) old new r
given_each reading stage d group old new r value term e h g = rw e (then_goes (dialogue stage term) _ h (ends (Ok (flat_map (λ text. value) group)) (λ n. g n ∙ ap Ok (times_each group value))))

pub given_fails : (reading : Reading) (stage : Stage) (d : Bool) (group : Value) (old new : List Entry) (fault : Fault) (term : Term) → d ≡ false → Evaluates reading (dialogue stage term) old new (Err fault)
    → Evaluates reading (given_dialogue stage d [] group (Some term) d) old new (Err fault)
given_fails reading stage d group old new fault term e h = rw e (then_stops (dialogue stage term) _ h)

module _ {given reading : Reading} {stage so : Stage} (read_so : given ≡ reading) (staged : so ≡ stage) (d : Bool) (recipe : List ℕ) (formal : Formal) (old new : List Entry) (r : Result Value Fault) where
  pub parameter_none : (group : Value) → group ≡ [] → Evaluates given (default_dialogue so d recipe formal formal.default) old new r → Evaluates reading (parameter_dialogue stage d recipe formal group) old new r
  parameter_none group e h = rw e (rw (read_so, staged) at h)

  pub parameter_some : (group : Value) → group ≢ [] → Evaluates given (given_dialogue so d [] group formal.value d) old new r → Evaluates reading (parameter_dialogue stage d recipe formal group) old new r
  parameter_some [] n h = absurd (n refl)
  parameter_some (text ∷ texts) n h = rw (read_so, staged) at h
