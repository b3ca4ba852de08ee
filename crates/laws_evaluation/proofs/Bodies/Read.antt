-- The lines of a body as they are read, and as they are evaluated in frames.
use Rattle.std.proofs.Common.{◌≡◌, ℕ, suc, List, [], ◌∷◌, map, length, Bool, Result, refl, ap, ◌-◌}
use Rattle.std.proofs.lemmas.Option.{slice_get-map}
use Rattle.just_host.specs.declared.entry.Entry.{Entry}
use Rattle.just_value.specs.Frames.{Frames}
use Rattle.tree_items.specs.Lines.{Piece, piece_of, pieces_of, first_piece, last_piece}
use Rattle.tree_items.specs.declared.line.Line.{Line}
use Rattle.meaning_dialogues.specs.Faults.{Fault}
use Rattle.meaning_dialogues.specs.Written.{numbered}
use Rattle.meaning_dialogues.specs.Evaluation.{Stage}
use Rattle.meaning_dialogues.specs.Dialogue.{Evaluates}
use Rattle.meaning_dialogues.specs.Calls.{HasValues, empty}
use Rattle.meaning_evaluation.specs.Stages.Lines.{TermPiece, line_dialogue}
use Rattle.meaning_evaluation.specs.Stages.Parameters.{Bound}
use Rattle.meaning_evaluation.specs.Parameters.Bindings.{run_reading}
use Rattle.meaning_evaluation.proofs.Parameters.Under.{under_goes}
use Rattle.meaning_evaluation.specs.Named.{RecipeRow}
use Rattle.meaning_evaluation.specs.Scopes.{Configuration, Scene, piece_in, parameter_names, body_stage, frame_of}
use Rattle.meaning_evaluation.specs.Bodies.{first_of, last_of, line_text}

-- the first part of a line that is read, and its last part
pub first_read : (line : Line) → first_of (pieces_of line) ≡ first_piece line
first_read line = slice_get-map piece_of line.fragments.items 0

length_same : {A B : Type 0} (f : A → B) (as' : List A) → length (map f as') ≡ length as'
length_same f [] = refl
length_same f (a ∷ as') = ap suc (length_same f as')

pub last_read : (line : Line) → last_of (pieces_of line) ≡ last_piece line
last_read line = rw (length_same piece_of line.fragments.items) (slice_get-map piece_of line.fragments.items (length line.fragments.items - 1))

-- a line that is evaluated in the frame of the recipe's parameters is evaluated as the body's line
pub line_evaluated : (c : Configuration) (scene : Scene) (name : List ℕ) (recipe : RecipeRow) (flag : Bool) (bound : Bound) (here inner there : Frames) (stage : Stage) (continued : Bool) (line : List Piece) (parts : List TermPiece) (old new : List Entry) (r : Result (List ℕ) Fault)
    → HasValues here.own empty → HasValues inner.own (frame_of c scene name recipe flag bound) → inner.outer ≡ here.outer → stage ≡ body_stage c scene name recipe flag bound → parts ≡ map (piece_in c.expansion recipe.file (numbered (parameter_names recipe))) line
    → Evaluates (run_reading inner there) (line_dialogue stage continued [] parts) old new r → Evaluates (run_reading here there) (line_text c scene name recipe flag bound continued line) old new r
line_evaluated c scene name recipe flag bound here inner there stage continued line parts old new r none has lies stands is h =
    under_goes here inner there (frame_of c scene name recipe flag bound) none has lies (line_dialogue (body_stage c scene name recipe flag bound) continued [] (map (piece_in c.expansion recipe.file (numbered (parameter_names recipe))) line)) old new r
    (rw (← is, ← stands) h)
