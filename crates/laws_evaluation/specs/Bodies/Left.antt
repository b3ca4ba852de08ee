-- What is left of a body where some of its lines are read.
use Rattle.std.specs.Prelude.{ℕ, List, [], ◌∷◌, ◌++◌, Bool, true, false, not, drop, if◌then◌else◌}
use Rattle.just_host.specs.declared.host.Status.{Status}
use Rattle.just_host.specs.declared.host.Status.TheVariants.{Code, Signal, NotStarted}
use Rattle.tree_items.specs.Lines.{Piece, sigil_count, sigils_of}
use Rattle.tree_items.specs.declared.line.Sigils.{Sigils}
use Rattle.meaning_evaluation.specs.Stages.Parameters.{Bound}
use Rattle.meaning_runs.specs.Failures.{Failure, by_code, by_signal, not_started}
use Rattle.meaning_runs.specs.Task.{Task, lift, ◌>>=◌}
use Rattle.meaning_evaluation.specs.Named.{RecipeRow}
use Rattle.meaning_evaluation.specs.Scopes.{Configuration, Scene}
use Rattle.meaning_evaluation.specs.Bodies.{first_of, goes_on_below, without_last, cut, commands, closed_if, command_text}
use Rattle.meaning_evaluation.specs.Calling.{running, and_others, lines_task}

-- how a command that ended so fails
abbrev pub failed_with : List ℕ → Status → Failure
failed_with name (Code code) = by_code name code
failed_with name (Signal signal) = by_signal name signal
failed_with name NotStarted = not_started name

-- what a line adds to the text of its command: a line that goes on loses its backslash
abbrev pub added : List Piece → List ℕ → List ℕ
added line text = if goes_on_below line then without_last text else text

-- the lines of commands that are left after a line: where it ends its command, no line of that one
abbrev pub left_after : Bool → List Piece → List (List Piece) → List (List (List Piece))
left_after skips line lines = closed_if (not (goes_on_below line)) (cut skips (goes_on_below line) lines)

module _ (c : Configuration) (scene : Scene) (name : List ℕ) (recipe : RecipeRow) (flag : Bool) (bound : Bound) where
  -- a command with this text is shown and handed over, and then the others are
  abbrev pub runs_then : Sigils → List ℕ → Task (Unit {0}) → Task (Unit {0})
  runs_then sigils text others = running c scene name recipe flag bound sigils (drop (sigil_count sigils) text) >>= and_others c scene name recipe flag bound others

  -- the rest of a command whose text so far and marks are these, and then the others
  abbrev pub rest_of : Sigils → List ℕ → List (List Piece) → Task (Unit {0}) → Task (Unit {0})
  rest_of sigils text lines others = do
    more ← lift (command_text c scene name recipe flag bound true lines)
    runs_then sigils (text ++ more) others

  -- a command that is open has the first of these groups of lines, where there is one
  abbrev pub opened : Sigils → List ℕ → List (List (List Piece)) → Task (Unit {0})
  opened sigils text [] = rest_of sigils text [] (lines_task c scene name recipe flag bound [])
  opened sigils text (lines ∷ groups) = rest_of sigils text lines (lines_task c scene name recipe flag bound groups)

  -- what is left of a body: where a command is open, its rest and the commands after it, else the commands of these lines
  abbrev pub left : Bool → Bool → Sigils → List ℕ → List (List Piece) → Task (Unit {0})
  left skips true sigils text lines = opened sigils text (cut skips true lines)
  left skips false sigils text lines = lines_task c scene name recipe flag bound (commands skips lines)

  -- the marks of the command that a line belongs to, and the text of the command with it
  abbrev pub marks_with : Bool → Sigils → List Piece → Sigils
  marks_with true sigils line = sigils
  marks_with false sigils line = sigils_of scene.row.guards (first_of line)

  abbrev pub text_with : Bool → List ℕ → List Piece → List ℕ → List ℕ
  text_with true so_far line text = so_far ++ added line text
  text_with false so_far line text = added line text
