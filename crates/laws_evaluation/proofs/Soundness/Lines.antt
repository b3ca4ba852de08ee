-- No line ends with `internal` whose terms don't.
use Rattle.std.proofs.Common.{ℕ, List, [], ◌∷◌, ◌++◌, Bool, false}
use Rattle.std.specs.List.{AllByRecursion}
use Rattle.just_value.specs.Frames.{Frames}
use Rattle.evaluate_context.specs.Surroundings.{Surroundings, Standing}
use Rattle.meaning_dialogues.specs.Dialogue.{Lookup, Variable}
use Rattle.meaning_dialogues.specs.Evaluation.{Stage, dialogue}
use Rattle.meaning_dialogues.specs.Terms.{Term}
use Rattle.meaning_dialogues.specs.Calls.{DefinedFunction}
use Rattle.meaning_evaluation.specs.Stages.Lines.{TermPiece, text, interpolation, piece_dialogue, line_dialogue}
use Rattle.meaning_evaluation.specs.Stages.Stages.{run_stage, calls_left}
use Rattle.laws_evaluation.specs.Soundness.Endings.{Proper, NeverInternal}
use Rattle.laws_evaluation.specs.Soundness.Known.{IsBoundIn, IsBoundAt, CallsKnown, NamesKnown, BodiesCallKnown, BodiesKnown, PieceKnown}
use Rattle.laws_evaluation.proofs.Soundness.Endings.{then_proper}
use Rattle.laws_evaluation.proofs.Soundness.Calls.{run_never_internal}
use Rattle.laws_evaluation.proofs.Soundness.Frames.{names_proper}

module _ (W : Lookup → Variable → Type 0) (K : Term → Type 0) (stage : Stage) (proper : (t : Term) → K t → Proper W (dialogue stage t)) where
  piece_proper : (goes_on : Bool) (piece : TermPiece) → PieceKnown K piece → Proper W (piece_dialogue stage goes_on piece)
  piece_proper goes_on (text t) h = tt
  piece_proper goes_on (interpolation e) h = then_proper W (dialogue stage e) _ (proper e h) (λ value. tt)

  -- a line reads what its terms read, and never ends with `internal` where none of them does
  pub line_proper : (goes_on : Bool) (so_far : List ℕ) (pieces : List TermPiece) → AllByRecursion (PieceKnown K) pieces → Proper W (line_dialogue stage goes_on so_far pieces)
  line_proper goes_on so_far [] h = tt
  line_proper goes_on so_far (piece ∷ pieces) h =
      then_proper W (piece_dialogue stage goes_on piece) _ (piece_proper goes_on piece h.0) (λ more. line_proper false (so_far ++ more) pieces h.1)

module _ (m : Surroundings) (functions : List DefinedFunction) (in_body s : Standing) (n : ℕ) where
  -- a line with known calls never ends with `internal` in a run, whatever it reads
  pub line_never_internal : BodiesCallKnown functions → (goes_on : Bool) (so_far : List ℕ) (pieces : List TermPiece) → AllByRecursion (PieceKnown (CallsKnown functions)) pieces
      → NeverInternal (line_dialogue (run_stage m functions s (calls_left m functions in_body n)) goes_on so_far pieces)
  line_never_internal bodies = line_proper _ (CallsKnown functions) _ (run_never_internal m functions in_body s n bodies)

  -- a line in a run reads bound variables alone and never ends with `internal` where its names are known, and those of the bodies of functions
  pub line_names_proper : (reached : DefinedFunction → Type 0) (here there : Frames) → BodiesKnown functions reached (λ x. IsBoundIn there x.number) → (goes_on : Bool) (so_far : List ℕ) (pieces : List TermPiece)
      → AllByRecursion (PieceKnown (NamesKnown functions reached (λ x. IsBoundIn here x.number))) pieces → Proper (IsBoundAt here there) (line_dialogue (run_stage m functions s (calls_left m functions in_body n)) goes_on so_far pieces)
  line_names_proper reached here there bodies = line_proper _ (NamesKnown functions reached (λ x. IsBoundIn here x.number)) _ (names_proper m functions reached in_body s n here there bodies)
