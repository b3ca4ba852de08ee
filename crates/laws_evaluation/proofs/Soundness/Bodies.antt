-- No line of a recipe's body ends with `internal`, whose parameters are bound and whose names are known.
use Rattle.std.proofs.Common.{◌≡◌, ℕ, List, Bool, length, Result, ◌⊎◌}
use Rattle.std.specs.List.{AllByRecursion}
use Rattle.just_host.specs.declared.entry.Entry.{Entry}
use Rattle.just_value.specs.Frames.{Frames}
use Rattle.evaluate_context.specs.Surroundings.{Surroundings, Standing}
use Rattle.meaning_dialogues.specs.Faults.{Fault}
use Rattle.meaning_dialogues.specs.Dialogue.{Evaluates}
use Rattle.meaning_dialogues.specs.Evaluation.{Value, Stage, dialogue}
use Rattle.meaning_dialogues.specs.Terms.{Term}
use Rattle.meaning_dialogues.specs.Calls.{DefinedFunction, Frame, empty, with_parameters, reading_in_frames}
use Rattle.meaning_dialogues.proofs.Soundness.{Any}
use Rattle.meaning_evaluation.specs.Stages.Lines.{TermPiece, line_dialogue}
use Rattle.meaning_evaluation.specs.Stages.Parameters.{under}
use Rattle.meaning_evaluation.specs.Stages.Stages.{run_stage, calls_left}
use Rattle.meaning_evaluation.proofs.Stages.Depth.{HasNumber}
use Rattle.laws_evaluation.specs.Soundness.Endings.{NotInternal, Proper}
use Rattle.laws_evaluation.specs.Soundness.Known.{IsBoundIn, IsBoundAt, NamesKnown, BodiesKnown, PieceKnown}
use Rattle.laws_evaluation.proofs.Soundness.Frames.{names_read, evaluates_in_frames}
use Rattle.laws_evaluation.proofs.Soundness.Lines.{line_proper}
use Rattle.laws_evaluation.proofs.Soundness.Parameters.{Among, parameters_bind, under_proper}

module _ (m : Surroundings) (functions : List DefinedFunction) (reached : DefinedFunction → Type 0) (in_body s : Standing) (n : ℕ) (here there : Frames)
    (bodies : BodiesKnown functions reached (λ x. IsBoundIn there x.number)) (numbers : List ℕ) (values : List Value) (count : length values ≡ length numbers) where
  abbrev stage : Stage
  stage = run_stage m functions s (calls_left m functions in_body n)

  abbrev parameters : Frame
  parameters = with_parameters empty numbers values

  -- its names are known in the body: its variables are parameters, or bound around the recipe
  abbrev pub KnownInBody : Term → Type 0
  KnownInBody t = NamesKnown functions reached (λ x. HasNumber numbers x.number ⊎ IsBoundIn here x.number) t

  in_body_proper : (t : Term) → KnownInBody t → Proper (Among numbers (IsBoundAt here there)) (dialogue stage t)
  in_body_proper t h = names_read m functions reached in_body s n (λ x. IsBoundIn there x.number) bodies (Among numbers (IsBoundAt here there)) _ (λ x p. p) (λ x p. p) t h

  -- a term in the body of a recipe reads bound variables alone and never ends with `internal` where its names are known
  pub body_term_proper : (t : Term) → KnownInBody t → Proper (IsBoundAt here there) (under parameters (dialogue stage t))
  body_term_proper t h = under_proper (IsBoundAt here there) NotInternal numbers parameters (parameters_bind numbers values count) (dialogue stage t) (in_body_proper t h)

  -- so does a line
  pub body_line_proper : (goes_on : Bool) (so_far : List ℕ) (pieces : List TermPiece) → AllByRecursion (PieceKnown KnownInBody) pieces → Proper (IsBoundAt here there) (under parameters (line_dialogue stage goes_on so_far pieces))
  body_line_proper goes_on so_far pieces h =
      under_proper (IsBoundAt here there) NotInternal numbers parameters (parameters_bind numbers values count) (line_dialogue stage goes_on so_far pieces)
      (line_proper (Among numbers (IsBoundAt here there)) KnownInBody stage in_body_proper goes_on so_far pieces h)

  -- the evaluation of a line in the body of a recipe doesn't end with `internal` where its names are known in the frames
  pub body_line_in_frames : (excluded : ℕ → Bool) (goes_on : Bool) (so_far : List ℕ) (pieces : List TermPiece) → AllByRecursion (PieceKnown KnownInBody) pieces
      → (old new : List Entry) (r : Result (List ℕ) Fault) → Evaluates (reading_in_frames excluded here there) (under parameters (line_dialogue stage goes_on so_far pieces)) old new r → NotInternal r
  body_line_in_frames excluded goes_on so_far pieces h old new r g = evaluates_in_frames Any excluded here there _ old new r (body_line_proper goes_on so_far pieces h) g
