-- Bodies: lines in order, or one script, as tasks.
use Rattle.std.specs.Prelude.{ℕ, List, [], ◌∷◌, ◌++◌, Bool, true, false, not, ◌&&◌, ◌||◌, ◌-◌, cond, if◌then◌else◌, map, Option, Some, None, Ok, drop, take, length, codes, slice_get, is_some}
use Rattle.std.specs.List.{flat_map, onto_first}
use Rattle.std.specs.Str.{trim, chars, encode_utf8_all}
use Rattle.std.specs.Char.{is_whitespace}
use Rattle.tree_attributes.specs.Settings.{InterpreterShape}
use Rattle.just_host.specs.declared.job.CommandJob.{CommandJob}
use Rattle.just_host.specs.declared.job.ScriptJob.{ScriptJob}
use Rattle.tree_items.specs.declared.line.Sigils.{Sigils}
use Rattle.tree_items.specs.Lines.{Piece, no_sigils, sigils_of, is_comment, is_continuation, is_shebang}
use Rattle.evaluate_context.specs.Folders.{folder_below}
use Rattle.evaluate_context.specs.Shells.{script_words as default_words}
use Rattle.meaning_dialogues.specs.Dialogue.{Dialogue, Ends, ◌>>=◌}
use Rattle.meaning_dialogues.specs.Evaluation.{interpreter_dialogue}
use Rattle.meaning_evaluation.specs.Stages.Lines.{line_dialogue}
use Rattle.meaning_evaluation.specs.Parameters.Bindings.{words_for}
use Rattle.meaning_evaluation.specs.Stages.Parameters.{Bound, under}
use Rattle.evaluate_context.specs.Surroundings.{by_name, given, removed, job_in}
use Rattle.meaning_evaluation.specs.Named.{RecipeRow}
use Rattle.meaning_evaluation.specs.Scopes.{piece_in, Configuration, Scene, parameter_names, around, body_standing, body_stage, frame_of, formals, valued}
use Rattle.meaning_dialogues.specs.Written.{numbered}
use Rattle.meaning_evaluation.specs.Groups.{each}

abbrev pub first_of : List Piece → Option Piece
first_of line = slice_get line 0

abbrev pub last_of : List Piece → Option Piece
last_of line = slice_get line (length line - 1)

-- a line goes on with the next by a final backslash, which is removed
abbrev pub goes_on_below : List Piece → Bool
goes_on_below line = is_continuation (last_of line)

abbrev pub without_last : List ℕ → List ℕ
without_last text = take (length text - 1) text

-- the front of a text up to its first white space, and what stands after, by characters
abbrev pub front : List ℕ → List ℕ
front [] = []
front (c ∷ cs) = cond (is_whitespace c) [] (c ∷ front cs)

abbrev pub rear : List ℕ → List ℕ
rear [] = []
rear (c ∷ cs) = cond (is_whitespace c) (c ∷ cs) (rear cs)

-- the interpreter that a first line `#!` names: its first word, and the trimmed rest as one word if there is one
abbrev pub with_rest : List ℕ → List (List ℕ)
with_rest [] = []
with_rest (b ∷ bs) = (b ∷ bs) ∷ []

abbrev pub shebang_parts : List ℕ → List (List ℕ)
shebang_parts text = encode_utf8_all (front (chars text)) ∷ with_rest (trim (encode_utf8_all (rear (chars text))))

abbrev pub shebang_words : List ℕ → List (List ℕ)
shebang_words text = shebang_parts (trim (drop 2 text))

-- The lines of each command of a body: a line that goes on is joined with those below. Where no command is open a comment is left out, if comments are.
-- Where one is open, its other lines stand first.
abbrev pub closed_if : Bool → List (List (List Piece)) → List (List (List Piece))
closed_if true others = [] ∷ others
closed_if false others = others

abbrev pub cut : Bool → Bool → List (List Piece) → List (List (List Piece))
cut skips inside [] = closed_if inside []
cut skips inside (line ∷ lines) =
    cond (not inside && (skips && is_comment (first_of line))) (cut skips false lines)
    (onto_first line (closed_if (not (goes_on_below line)) (cut skips (goes_on_below line) lines)))

abbrev pub commands : Bool → List (List Piece) → List (List (List Piece))
commands skips lines = cut skips false lines

-- texts with a newline between two
abbrev pub in_lines : List (List ℕ) → List ℕ
in_lines [] = []
in_lines (text ∷ texts) = text ++ flat_map (λ more. codes "\n" ++ more) texts

-- whether a mark of quiet and the recipe's are different
abbrev pub differs : Bool → Bool → Bool
differs true b = not b
differs false b = b

module _ (c : Configuration) (scene : Scene) (name : List ℕ) (recipe : RecipeRow) (flag : Bool) (bound : Bound) where
  -- absent where commands stay where the program was started
  abbrev pub folder_of : Option (List ℕ)
  folder_of = cond (recipe.no_cd || (scene.row.no_cd && not (is_some recipe.folder))) None (Some (folder_below scene.row.folder recipe.folder))

  abbrev pub positional : List (List ℕ)
  positional = words_for (formals c scene name recipe flag) bound.values

  -- the recipe's name and its parameters' values, where they are passed; after a script's path these alone
  abbrev pub line_words : List (List ℕ)
  line_words = if recipe.passes_words then name ∷ positional else []

  abbrev pub script_words : List (List ℕ)
  script_words = if recipe.passes_words then positional else []

  abbrev pub line_job : List ℕ → CommandJob
  line_job command = job_in (around c scene name recipe flag) (body_standing c scene name recipe flag bound) folder_of command line_words

  abbrev pub script_job : List (List ℕ) → List (List ℕ) → ScriptJob
  script_job interpreter lines = record {
    interpreter = interpreter;
    lines = lines;
    positional = script_words;
    extension = recipe.extension;
    pairs = by_name (given (around c scene name recipe flag) (body_standing c scene name recipe flag bound));
    removed = removed (around c scene name recipe flag) (body_standing c scene name recipe flag bound);
    folder = folder_of;
  }

  -- what a line comes to, which goes on with the line before or not
  abbrev pub line_text : Bool → List Piece → Dialogue (List ℕ)
  line_text continued line = under (frame_of c scene name recipe flag bound) (line_dialogue (body_stage c scene name recipe flag bound) continued [] (map (piece_in c.expansion recipe.file (numbered (parameter_names recipe))) line))

  -- the text of a whole command: each line that goes on loses its backslash
  abbrev pub command_text : Bool → List (List Piece) → Dialogue (List ℕ)
  command_text continued [] = Ends (Ok [])
  command_text continued (line ∷ lines) = do
    text ← line_text continued line
    more ← command_text true lines
    Ends (Ok ((if goes_on_below line then without_last text else text) ++ more))

  -- all lines of a script, each as it stands
  abbrev pub script_texts : Dialogue (List (List ℕ))
  script_texts = each (map (line_text false) recipe.body)

  -- the words of a script's interpreter: the attribute's, else those that the first line's `#!` names, else the module's, else `sh -eu`;
  -- an attribute that names no interpreter stands over no body that begins `#!`, so it makes no difference here
  abbrev pub first_words : Bool → List (List ℕ) → List (List ℕ)
  first_words true (text ∷ texts) = shebang_words text
  first_words true [] = default_words scene.row.script_interpreter
  first_words false texts = default_words scene.row.script_interpreter

  abbrev pub has_shebang : List (List Piece) → Bool
  has_shebang [] = false
  has_shebang (line ∷ lines) = is_shebang (first_of line)

  abbrev pub interpreter : Option (Option InterpreterShape) → List (List ℕ) → Dialogue (List (List ℕ))
  interpreter (Some (Some shape)) texts = do
    words ← interpreter_dialogue (codes "script") (valued c scene name recipe flag bound shape.command ∷ map (valued c scene name recipe flag bound) shape.arguments)
    Ends (Ok (words.0 ∷ words.1))
  interpreter (Some None) texts = Ends (Ok (first_words (has_shebang recipe.body) texts))
  interpreter None texts = Ends (Ok (first_words (has_shebang recipe.body) texts))

  abbrev pub is_script : Bool
  is_script = (is_some recipe.script || scene.row.default_script) || has_shebang recipe.body

  -- whether a line with these marks is shown, and whether a script is
  abbrev pub shows_line : Sigils → Bool
  shows_line sigils = (c.dry_run || c.loquacious) || not ((differs sigils.quiet recipe.quiet || (scene.row.quiet && not recipe.no_quiet)) || c.quiet)

  abbrev pub shows_script : Bool
  shows_script = (c.dry_run || c.loquacious) || recipe.quiet

  -- the marks of a command are those of its first line
  abbrev pub marks_of : List (List Piece) → Sigils
  marks_of [] = no_sigils
  marks_of (line ∷ lines) = sigils_of scene.row.guards (first_of line)
