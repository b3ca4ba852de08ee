-- A recipe that is bound has a value for each parameter.
use Rattle.std.proofs.Common.{◌≡◌, ◌∙◌, ap, refl, ℕ, suc, Bool, true, false, List, [], ◌∷◌, length, Result, Ok, Err, arith}
use Rattle.std.specs.Prelude.{◌==◌, codes, if◌then◌else◌}
use Rattle.std.proofs.lemmas.Bool.Decides.{Decides-eqb}
use Rattle.just_host.specs.declared.entry.Entry.{Entry}
use Rattle.just_host.specs.declared.job.Pair.{Pair}
use Rattle.evaluate_context.specs.Surroundings.{by_name}
use Rattle.meaning_dialogues.specs.Calls.{Frame, bound as bound_in_frame, empty}
use Rattle.meaning_dialogues.specs.Dialogue.{DialogueGoes, Ends, Reading}
use Rattle.meaning_dialogues.specs.Evaluation.{Stage, Value}
use Rattle.meaning_dialogues.specs.Faults.{Fault, internal}
use Rattle.meaning_dialogues.specs.Terms.{Term}
use Rattle.meaning_evaluation.specs.Stages.Parameters.{Bound, Formal, bound_dialogue, bound_value, counted, env_dialogue, parameter_dialogue, under, values_dialogue}
use Rattle.laws_runs.proofs.ByName.Goes.{parted}

module _ (reading : Reading) where
  module _ (stage : Stage) (flag : Bool) (recipe : List ℕ) (check : Formal → ℕ → Bool) (lists : Bool) where
    values_many : (frame : Frame) (formals : List Formal) (groups : List Value) (old new : List Entry) (values : List Value) → length groups ≡ length formals
        → DialogueGoes reading (values_dialogue stage flag recipe check lists frame formals groups) old new (Ok values) → length values ≡ length formals
    values_many frame [] groups old new values many d = let same : values ≡ [] = cc (d.1) in ap length same
    values_many frame (f ∷ formals) [] old new values many d = absurd (omega (arith, many))
    values_many frame (f ∷ formals) (g ∷ groups) old new values many d =
        parted reading reading (length values ≡ suc (length formals)) (under frame (parameter_dialogue stage flag recipe f g)) _ old new (Ok values)
        (λ given mid e h. parted reading reading (length values ≡ suc (length formals)) (Ends (counted stage flag recipe check f given)) _ mid new (Ok values)
        (λ value mid' e' h'. parted reading reading (length values ≡ suc (length formals)) (values_dialogue stage flag recipe check lists (bound_in_frame frame f.number (bound_value lists value)) formals groups) _ mid' new (Ok values)
        (λ others mid'' e'' h''.
        let more = values_many (bound_in_frame frame f.number (bound_value lists value)) formals groups mid' mid'' others (omega (arith, many)) e'' in
        let same : values ≡ value ∷ others = cc (h''.1) in
        ap length same ∙ ap suc more)
        (λ fault e'' is. absurd (cc is)) h')
        (λ fault e' is. absurd (cc is)) h)
        (λ fault e is. absurd (cc is)) d

  -- a value for each
  pub bound_many : (stage_with : List Pair → Stage) (check : Formal → ℕ → Bool) (lists flag : Bool) (recipe : List ℕ) (terms : List (Term × Term)) (formals : List Formal) (groups : List Value) (old new : List Entry) (bound : Bound)
      → DialogueGoes reading (bound_dialogue stage_with check lists flag recipe terms formals groups) old new (Ok bound) → length bound.values ≡ length formals
  bound_many stage_with check lists flag recipe terms formals groups old new bound d =
      parted reading reading (length bound.values ≡ length formals) (env_dialogue stage_with [] terms) _ old new (Ok bound)
      (λ env mid e h. parted reading reading (length bound.values ≡ length formals) _ _ mid new (Ok bound)
      (λ values mid' e' h'. ap (λ (b : Bound). length b.values) (same_bound bound (record { env = by_name env; values = values }) h'.1) ∙ by_test env (length groups == length formals) refl values mid mid' e')
      (λ fault e' is. absurd (cc is)) h)
      (λ fault e is. absurd (cc is)) d
    where
      same_bound : (a b : Bound) → (◌≡◌ {A = Result Bound Fault} (Ok a) (Ok b)) → a ≡ b
      same_bound a b e = cc e

      by_test : (env : List Pair) (b : Bool) → (length groups == length formals) ≡ b → (values : List Value) (mid mid' : List Entry)
          → DialogueGoes reading (if b then values_dialogue (stage_with env) flag recipe check lists empty formals groups else Ends (Err (internal (codes "arguments do not match parameter count")))) mid mid' (Ok values)
          → length values ≡ length formals
      by_test env true is values mid mid' e = values_many (stage_with env) flag recipe check lists empty formals groups mid mid' values ((Decides-eqb (length groups) (length formals)).0 is) e
      by_test env false is values mid mid' e = absurd (cc (e.1))
