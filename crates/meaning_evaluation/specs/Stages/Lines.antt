-- The texts of body lines.
use Rattle.std.specs.Prelude.{ℕ, List, [], ◌∷◌, ◌++◌, Ok, Bool, true, false}
use Rattle.std.specs.Str.{trim_start}
use Rattle.just_text.specs.Tokens.{lexeme}
use Rattle.tree_expressions.specs.Parts.{halved}
use Rattle.tree_items.specs.declared.line.Fragment.{Fragment}
use Rattle.tree_items.specs.declared.line.Fragment.TheVariants.{Interpolation, Text}
use Rattle.just_value.specs.Values.{joined}
use Rattle.meaning_dialogues.specs.Dialogue.{Dialogue, Ends, ◌>>=◌}
use Rattle.meaning_dialogues.specs.Terms.{Term, term_of}
use Rattle.meaning_dialogues.specs.Evaluation.{Stage, dialogue}

-- a part of a line
pub data TermPiece : Type 0 where
  text : List ℕ → TermPiece
  interpolation : Term → TermPiece

abbrev pub piece_of : Fragment → TermPiece
piece_of (Interpolation e) = interpolation (term_of e)
piece_of (Text token) = text (lexeme token)

-- a text of a line, which loses its leading white space where it goes on with the line before; four braces stand for two
abbrev pub piece_text : Bool → List ℕ → List ℕ
piece_text true t = halved (trim_start t)
piece_text false t = halved t

module _ (stage : Stage) where
  abbrev pub piece_dialogue : Bool → TermPiece → Dialogue (List ℕ)
  piece_dialogue goes_on (text t) = Ends (Ok (piece_text goes_on t))
  piece_dialogue goes_on (interpolation e) = do
    value ← dialogue stage e
    Ends (Ok (joined value))

  -- a line after what it begins with; only its first part may lose white space
  abbrev pub line_dialogue : Bool → List ℕ → List TermPiece → Dialogue (List ℕ)
  line_dialogue goes_on so_far [] = Ends (Ok so_far)
  line_dialogue goes_on so_far (piece ∷ pieces) = do
    more ← piece_dialogue goes_on piece
    line_dialogue false (so_far ++ more) pieces
