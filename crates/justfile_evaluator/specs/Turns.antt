-- How far a body's lines were read, and what follows from there.
use Rattle.std.specs.Prelude.{◌≡◌, ℕ, Bool, true, false, not, ◌&&◌, if◌then◌else◌, List, [], ◌∷◌, ◌++◌, IfSome, Some, Result, Ok, Err, drop}
use Rattle.std.specs.String.{string_bytes}
use Rattle.std.specs.Str.{IsUtf8}
use Rattle.tree_items.specs.Lines as pieces
use Rattle.tree_items.specs.Lines.{Piece, is_comment, sigil_count, sigils_of}
use Rattle.tree_items.specs.declared.line.Sigils.{Sigils}
use Rattle.just_host.specs.Record.{Record}
use Rattle.just_host.specs.declared.job.JobTemplate.{JobTemplate}
use Rattle.evaluate_context.specs.Refusals.{fault_of}
use Rattle.evaluate_context.specs.declared.error.Error.{Error}
use Rattle.meaning_dialogues.specs.Dialogue.{Evaluates}
use Rattle.meaning_runs.specs.Failures.{Next}
use Rattle.meaning_runs.specs.Task.{Task}
use Rattle.meaning_evaluation.specs.Bodies.{first_of, goes_on_below, last_of, line_text}
use Rattle.meaning_evaluation.specs.Calling.{handing, running}
use Rattle.laws_evaluation.specs.Bodies.Left.{added, left, marks_with, text_with}
use Rattle.laws_evaluation.specs.Bodies.Marked.{BeginsMarked, EndsSlashed}
use Rattle.laws_evaluation.specs.Bodies.Performing.{LeadsOn, Performs}
use Rattle.justfile_evaluator.specs.Bodies.{NamedBody, lines_of}
use Rattle.justfile_evaluator.specs.Ended.{failure_of}
use Rattle.justfile_evaluator.specs.Sites.{template_in}
use Rattle.justfile_evaluator.specs.declared.body.Command.{Command}
use Rattle.justfile_evaluator.specs.declared.body.Progress.{Progress}
use Rattle.justfile_evaluator.specs.declared.fault.RunFault.{RunFault}
use Rattle.justfile_evaluator.specs.declared.site.Site.{Site}

-- the text of a command after its marks
abbrev pub unmarked_text : Command → List ℕ
unmarked_text command = drop (sigil_count command.sigils) (string_bytes command.text)

-- the text of a command begins with its marks
abbrev pub IsMarked : Command → Type 0
IsMarked command = BeginsMarked (sigil_count command.sigils) (string_bytes command.text)

-- the marks and the text of a command with a further line
abbrev pub marks_after : Bool → Command → List Piece → Sigils
marks_after guards command line = if command.is_open then command.sigils else sigils_of guards (first_of line)

abbrev pub text_after : Command → List Piece → List ℕ → List ℕ
text_after command line text = if command.is_open then string_bytes command.text ++ added line text else added line text

-- where a line ends with text, that is text
abbrev pub EndsInText : List Piece → Type 0
EndsInText line = (text : List ℕ) → last_of line ≡ Some (pieces.text text) → IsUtf8 text

-- a line with this text was put to a command; where it goes on its text ends with a backslash
pub record IsPut (guards : Bool) (old : Command) (line : List Piece) (text : List ℕ) (new : Command) : Type 0 where
  pub valid : EndsInText line
  pub goes_on : new.is_open ≡ goes_on_below line
  pub marks : new.sigils ≡ marks_after guards old line
  pub whole : (goes_on_below line ≡ true → EndsSlashed text) → string_bytes new.text ≡ text_after old line text

-- what the commands have in common, where one was handed over, is that of the site
abbrev pub IsHeld : Site → Progress → Type 0
IsHeld site progress = IfSome progress.template (λ template. template ≡ template_in site)

-- a comment is left out where no command is open, if comments are
abbrev pub is_left_out : Site → Command → List Piece → Bool
is_left_out site command line = (not command.is_open && site.context.now.module.now.settings.now.ignore_comments) && is_comment (first_of line)

-- a command that is open begins with its marks
abbrev pub IsSound : Command → Type 0
IsSound command = command.is_open ≡ true → IsMarked command

module _ (b : NamedBody) where
  -- a command is handed over; it is shown and handed over
  abbrev pub handed : Command → Task Next
  handed command = handing b.configuration b.scene b.name b.recipe b.flag b.bound false command.sigils (unmarked_text command)

  abbrev pub run : Command → Task Next
  run command = running b.configuration b.scene b.name b.recipe b.flag b.bound command.sigils (unmarked_text command)

  -- what is left of a body with a command so far and these lines
  abbrev pub left_of : Command → List (List Piece) → Task (Unit {0})
  left_of command lines = left b.configuration b.scene b.name b.recipe b.flag b.bound b.scene.row.ignore_comments command.is_open command.sigils (string_bytes command.text) lines

  -- whatever is left of the body leads to from here, the whole body leads to
  abbrev pub Leads : {H : Type 0} → Command → List (List Piece) → Record H → Record H → Type 0
  Leads command lines start now = LeadsOn b.reading (lines_of b) (left_of command lines) start now

  -- a line was read: it has a text, and was put to the command
  pub record HasRead {H : Type 0} (old : Command) (line : List Piece) (new : Command) (before after : Record H) : Type 0 where
    pub text : List ℕ
    pub evaluates : Evaluates b.reading (line_text b.configuration b.scene b.name b.recipe b.flag b.bound old.is_open line) before.entries after.entries (Ok text)
    pub goes_on : new.is_open ≡ goes_on_below line
    pub marks : new.sigils ≡ marks_with b.configuration b.scene b.name b.recipe b.flag b.bound old.is_open old.sigils line
    pub whole : string_bytes new.text ≡ text_with b.configuration b.scene b.name b.recipe b.flag b.bound old.is_open (string_bytes old.text) line text
    pub sound : IsMarked new

  -- a line was read, or has a fault
  abbrev pub Reads : {H : Type 0} → Command → List Piece → Command → Record H → Record H → Result (Unit {0}) Error → Type 0
  Reads old line new before after (Ok done) = HasRead old line new before after
  Reads old line new before after (Err error) = Evaluates b.reading (line_text b.configuration b.scene b.name b.recipe b.flag b.bound old.is_open line) before.entries after.entries (Err (fault_of error))

  -- the body goes on with these lines
  pub record GoesOn {H : Type 0} (command : Command) (lines : List (List Piece)) (start now : Record H) : Type 0 where
    pub leads : Leads command lines start now
    pub sound : IsSound command

  -- after a line: the body goes on with the others, or the whole body is performed
  abbrev pub Turned : {H : Type 0} → Command → List (List Piece) → Record H → Record H → Result Bool RunFault → Type 0
  Turned command lines start now (Ok true) = GoesOn command lines start now
  Turned command lines start now (Ok false) = Performs b.reading (lines_of b) start now (Ok tt)
  Turned command lines start now (Err fault) = Performs b.reading (lines_of b) start now (Err (failure_of fault))

  abbrev pub Turns : {H : Type 0} → Command → List Piece → Command → Record H → Record H → Result Bool RunFault → Type 0
  Turns {H = H} old line new before after result = (start : Record H) (lines : List (List Piece)) → GoesOn old (line ∷ lines) start before → Turned new lines start after result
