-- Small expressions whose names are known, and such as end with `internal`.
use Rattle.std.proofs.Common.{◌≡◌, ℕ, List, [], ◌∷◌, Some, None, Result, Err, inl, refl}
use Rattle.std.specs.Prelude.{false, codes}
use Rattle.just_host.specs.declared.entry.Entry.{Entry}
use Rattle.just_value.specs.Frames.{Frames}
use Rattle.evaluate_functions.specs.Names.{function_names}
use Rattle.evaluate_context.specs.Surroundings.{Surroundings, Standing}
use Rattle.meaning_dialogues.specs.Faults.{Fault, internal}
use Rattle.meaning_dialogues.specs.Dialogue.{Ends, Evaluates}
use Rattle.meaning_dialogues.proofs.Dialogues.{begins_here}
use Rattle.meaning_dialogues.specs.Evaluation.{Value, dialogue}
use Rattle.meaning_dialogues.specs.Terms.{Term, literal, variable, call, more, end}
use Rattle.meaning_dialogues.specs.Calls.{DefinedFunction, reading_in_frames, unreadable}
use Rattle.meaning_evaluation.specs.Stages.Stages.{run_stage, calls_left}
use Rattle.laws_evaluation.specs.Soundness.Endings.{NotInternal}
use Rattle.laws_evaluation.proofs.Soundness.Frames.{run_in_frames}
use Rattle.laws_evaluation.proofs.Soundness.Functions.{bodies_known}

-- `f(x) := x`, and `g() := y` that names what is nowhere
abbrev same : DefinedFunction
same = record { name = codes "f"; parameters = 0 ∷ []; body = variable (codes "x") (Some 0) }

abbrev lost : DefinedFunction
lost = record { name = codes "g"; parameters = []; body = variable (codes "y") None }

abbrev reached : DefinedFunction → Type 0
reached f = f.parameters ≡ 0 ∷ []

abbrev none : Frames
none = record { own = []; outer = [] }

-- `f('a')`
abbrev term : Term
term = call (codes "f") (codes "justfile") (more (literal (codes "a") (codes "'a'")) end)

module _ (m : Surroundings) (s : Standing) (n : ℕ) where
  abbrev run : Term → List Entry → List Entry → Result Value Fault → Type 0
  run t old new r = Evaluates (reading_in_frames (λ number. false) none none) (dialogue (run_stage m (same ∷ lost ∷ []) s (calls_left m (same ∷ lost ∷ []) s n)) t) old new r

  -- where `f` alone is reached its call doesn't end with `internal` in frames that bind nothing
  pub known_call : (old new : List Entry) (r : Result Value Fault) → run term old new r → NotInternal r
  known_call old new r g =
      run_in_frames m (same ∷ lost ∷ []) reached s s n none none (bodies_known (same ∷ lost ∷ []) reached _ (λ r. inl (inl refl), (λ r. absurd (cc), tt))) (λ number. false) term ((refl, refl), (tt, tt)) old new r g

  -- a variable without a number does
  pub unresolved : (old : List Entry) → run (variable (codes "y") None) old old (Err (unreadable (codes "unresolved") (codes "y")))
  unresolved old = record { goes = λ k. (refl, refl); begins = begins_here (reading_in_frames (λ number. false) none none) _ old }

  -- and so does a call of what is no function
  pub unknown_function : dialogue (run_stage m [] s None) (call (codes "h") (codes "justfile") end) ≡ Ends (Err (internal (codes "unknown function")))
  unfolding function_names
  unknown_function = refl
