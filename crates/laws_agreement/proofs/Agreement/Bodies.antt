-- What a call's tasks read: what is readable in its recipe's row.
use Rattle.std.proofs.Common.{◌≡◌, ℕ, List, [], ◌∷◌, ◌++◌, map, Bool, true, false, not, ◌&&◌, cond, codes, Option, Some, None, drop, length}
use Rattle.std.specs.List.{AllByRecursion, flat_map, onto_first}
use Rattle.tree_expressions.specs.Shape.{Shape}
use Rattle.tree_attributes.specs.Settings.{InterpreterShape}
use Rattle.tree_items.specs.Lines.{Piece, sigil_count, is_comment, text, interpolation}
use Rattle.tree_items.specs.Recipes.{ArgumentShape}
use Rattle.tree_items.specs.declared.line.Sigils.{Sigils}
use Rattle.meaning_dialogues.specs.Dialogue.{Dialogue, Lookup, Variable}
use Rattle.meaning_dialogues.specs.Evaluation.{Value, dialogue, row, interpreter_dialogue}
use Rattle.meaning_dialogues.specs.Written.{numbered}
use Rattle.meaning_dialogues.proofs.Soundness.{Sound, Any, AllSound, then_sound, row_sound, ends_sound}
use Rattle.meaning_evaluation.specs.Stages.Lines.{piece_dialogue, line_dialogue}
use Rattle.meaning_evaluation.specs.Stages.Parameters.{Bound}
use Rattle.meaning_runs.specs.Failures.{Next, goes_on, stops}
use Rattle.meaning_runs.specs.Task.{Task, lift}
use Rattle.meaning_runs.proofs.Tasks.{Sound as SoundTask}
use Rattle.meaning_runs.proofs.Soundness.{lift_sound, then_sound as then_task}
use Rattle.meaning_evaluation.specs.Named.{DependencyRow, RecipeRow, ModuleRow}
use Rattle.meaning_evaluation.specs.Scopes.{Configuration, Scene, piece_in, parameter_names, frame_of, body_stage, term, valued}
use Rattle.meaning_evaluation.specs.Groups.{each, brings, block}
use Rattle.meaning_evaluation.specs.Bodies.{first_of, goes_on_below, closed_if, cut, commands, in_lines, line_text, command_text, script_texts, interpreter, is_script, shows_line, shows_script, marks_of}
use Rattle.meaning_evaluation.specs.Calling.{Ground, scene_of, shown_if, prompt_text, confirming, handing, running, one_command, and_others, lines_task, script_handed, body_by, body_task, block_calls}
use Rattle.just_meaning.specs.Reading.{in_prompt, in_dependencies, in_piece, in_interpreter, shapes_of}
use Rattle.laws_agreement.proofs.Agreement.Lists.{all_left, all_right, all_map, all_more, all_flat_back}
use Rattle.laws_agreement.proofs.Agreement.Under.{IsSeen, under_sound}
use Rattle.laws_agreement.proofs.Agreement.Binding.{Readable, Q, FitsRow, body_seen, valued_sound}

module _ (g : Ground) (path : List (List ℕ)) (row' : ModuleRow) (name : List ℕ) (recipe : RecipeRow) (flag : Bool) (Named : List ℕ → Type 0) (P : Variable → Type 0)
    (meant : (x : List ℕ) (number : Option ℕ) → Named x → P (record { name = x; number = number })) (bound : Bound) (fits : FitsRow g path row' name recipe flag Named P meant bound) where
  abbrev c' : Configuration
  c' = g.configuration

  abbrev scene : Scene
  scene = scene_of g path row'

  abbrev Only : Lookup → Variable → Type 0
  Only = Q g path row' name recipe flag Named P meant

  -- readable where all parameters are seen
  abbrev pub Clear : Shape → Type 0
  Clear e = Readable g path row' name recipe flag Named P meant e (parameter_names recipe)

  value_sound : (e : Shape) → Clear e → Sound Only Any (valued c' scene name recipe flag bound e)
  value_sound e h = valued_sound g path row' name recipe flag Named P meant bound fits e h

  values_sound : (es : List Shape) → AllByRecursion Clear es → AllSound Only (map (valued c' scene name recipe flag bound) es)
  values_sound [] h = tt
  values_sound (e ∷ es) h = (value_sound e h.0, values_sound es h.1)

  each_sound : {A : Type 0} (ds : List (Dialogue A)) → AllByRecursion (λ d. Sound Only Any d) ds → Sound Only Any (each ds)
  each_sound [] h = tt
  each_sound (d ∷ ds) h = then_sound Only Any Any d _ h.0 (λ a u. then_sound Only Any Any (each ds) _ (each_sound ds h.1) (λ as' w. tt))

  -- ---- lines

  abbrev Seen : Lookup → Variable → Type 0
  Seen = IsSeen (frame_of c' scene name recipe flag bound) P

  piece_sound : (continued : Bool) (piece : Piece) → AllByRecursion Clear (in_piece piece) → Sound Seen Any (piece_dialogue (body_stage c' scene name recipe flag bound) continued (piece_in c'.expansion recipe.file (numbered (parameter_names recipe)) piece))
  piece_sound continued (text t) h = tt
  piece_sound continued (interpolation e) h =
      then_sound Seen Any Any (dialogue (body_stage c' scene name recipe flag bound) (term c' scene name recipe flag e)) _ (body_seen g path row' name recipe flag Named P meant bound fits e h.0) (λ v u. tt)

  pieces_sound : (continued : Bool) (so_far : List ℕ) (line : List Piece) → AllByRecursion Clear (flat_map in_piece line)
      → Sound Seen Any (line_dialogue (body_stage c' scene name recipe flag bound) continued so_far (map (piece_in c'.expansion recipe.file (numbered (parameter_names recipe))) line))
  pieces_sound continued so_far [] h = tt
  pieces_sound continued so_far (piece ∷ line) h =
      then_sound Seen Any Any (piece_dialogue (body_stage c' scene name recipe flag bound) continued (piece_in c'.expansion recipe.file (numbered (parameter_names recipe)) piece)) _ (piece_sound continued piece (all_left Clear (in_piece piece) (flat_map in_piece line) h))
      (λ more u. pieces_sound false (so_far ++ more) line (all_right Clear (in_piece piece) (flat_map in_piece line) h))

  -- a line whose expressions are readable
  abbrev pub ClearLine : List Piece → Type 0
  ClearLine line = AllByRecursion Clear (flat_map in_piece line)

  line_sound : (continued : Bool) (line : List Piece) → ClearLine line → Sound Only Any (line_text c' scene name recipe flag bound continued line)
  line_sound continued line h = under_sound (frame_of c' scene name recipe flag bound) P Any _ (pieces_sound continued [] line h)

  command_sound : (continued : Bool) (lines : List (List Piece)) → AllByRecursion ClearLine lines → Sound Only Any (command_text c' scene name recipe flag bound continued lines)
  command_sound continued [] h = tt
  command_sound continued (line ∷ lines) h =
      then_sound Only Any Any (line_text c' scene name recipe flag bound continued line) _ (line_sound continued line h.0) (λ t u. then_sound Only Any Any (command_text c' scene name recipe flag bound true lines) _ (command_sound true lines h.1) (λ more w. tt))

  -- ---- the lines of commands are the body's

  closed_all : (b : Bool) (others : List (List (List Piece))) → AllByRecursion (AllByRecursion ClearLine) others → AllByRecursion (AllByRecursion ClearLine) (closed_if b others)
  closed_all true others h = (tt, h)
  closed_all false others h = h

  onto_all : (line : List Piece) (groups : List (List (List Piece))) → ClearLine line → AllByRecursion (AllByRecursion ClearLine) groups → AllByRecursion (AllByRecursion ClearLine) (onto_first line groups)
  onto_all line [] h k = ((h, tt), tt)
  onto_all line (group ∷ groups) h k = ((h, k.0), k.1)

  cond_all : (b : Bool) (xs ys : List (List (List Piece))) → AllByRecursion (AllByRecursion ClearLine) xs → AllByRecursion (AllByRecursion ClearLine) ys → AllByRecursion (AllByRecursion ClearLine) (cond b xs ys)
  cond_all true xs ys h k = h
  cond_all false xs ys h k = k

  cut_all : (skips inside : Bool) (lines : List (List Piece)) → AllByRecursion ClearLine lines → AllByRecursion (AllByRecursion ClearLine) (cut skips inside lines)
  cut_all skips inside [] h = closed_all inside [] tt
  cut_all skips inside (line ∷ lines) h =
      cond_all (not inside && (skips && is_comment (first_of line))) (cut skips false lines) (onto_first line (closed_if (not (goes_on_below line)) (cut skips (goes_on_below line) lines))) (cut_all skips false lines h.1)
      (onto_all line (closed_if (not (goes_on_below line)) (cut skips (goes_on_below line) lines)) h.0 (closed_all (not (goes_on_below line)) (cut skips (goes_on_below line) lines) (cut_all skips (goes_on_below line) lines h.1)))

  -- ---- tasks

  shown_sound : {A : Type 0} (b : Bool) (t : List ℕ) (task : Task A) → SoundTask Only task → SoundTask Only (shown_if b t task)
  shown_sound true t task h = h
  shown_sound false t task h = h

  handing_sound : (dry : Bool) (sigils : Sigils) (command : List ℕ) → SoundTask Only (handing c' scene name recipe flag bound dry sigils command)
  handing_sound true sigils command = tt
  handing_sound false sigils command = λ status. tt

  running_sound : (sigils : Sigils) (t : List ℕ) → SoundTask Only (running c' scene name recipe flag bound sigils t)
  running_sound sigils [] = tt
  running_sound sigils (b ∷ bs) = shown_sound (shows_line c' scene name recipe flag bound sigils) (b ∷ bs) (handing c' scene name recipe flag bound c'.dry_run sigils (b ∷ bs)) (handing_sound c'.dry_run sigils (b ∷ bs))

  others_sound : (others : Task (Unit {0})) → SoundTask Only others → (next : Next) → SoundTask Only (and_others c' scene name recipe flag bound others next)
  others_sound others h goes_on = h
  others_sound others h stops = tt

  lines_sound : (groups : List (List (List Piece))) → AllByRecursion (AllByRecursion ClearLine) groups → SoundTask Only (lines_task c' scene name recipe flag bound groups)
  lines_sound [] h = tt
  lines_sound (command ∷ others) h =
      then_task Only (one_command c' scene name recipe flag bound command) _
      (then_task Only (lift (command_text c' scene name recipe flag bound false command)) _ (lift_sound Only Any _ (command_sound false command h.0)) (λ t. running_sound (marks_of c' scene name recipe flag bound command) (drop (sigil_count (marks_of c' scene name recipe flag bound command)) t)))
      (λ next. others_sound (lines_task c' scene name recipe flag bound others) (lines_sound others h.1) next)

  interpreter_sound : (o : Option (Option InterpreterShape)) (texts : List (List ℕ)) → AllByRecursion Clear (in_interpreter o) → Sound Only Any (interpreter c' scene name recipe flag bound o texts)
  interpreter_sound (Some (Some shape)) texts h =
      let ds = map (valued c' scene name recipe flag bound) (shape.command ∷ shape.arguments) in
      then_sound Only Any Any (interpreter_dialogue (codes "script") ds) _ (then_sound Only (λ vs. length vs ≡ length ds) Any (row ds) _ (row_sound Only ds (values_sound (shape.command ∷ shape.arguments) h)) (λ vs e. ends_sound Only _)) (λ words u. tt)
  interpreter_sound (Some None) texts h = tt
  interpreter_sound None texts h = tt

  handed_sound : (dry : Bool) (texts : List (List ℕ)) → AllByRecursion Clear (in_interpreter recipe.script) → SoundTask Only (script_handed c' scene name recipe flag bound dry texts)
  handed_sound true texts h = tt
  handed_sound false texts h = then_task Only (lift (interpreter c' scene name recipe flag bound recipe.script texts)) _ (lift_sound Only Any _ (interpreter_sound recipe.script texts h)) (λ words status. tt)

  body_by_sound : (script : Bool) → AllByRecursion Clear (in_interpreter recipe.script) → AllByRecursion ClearLine recipe.body → SoundTask Only (body_by c' scene name recipe flag bound script)
  body_by_sound true h k =
      then_task Only (lift (script_texts c' scene name recipe flag bound)) _
      (lift_sound Only Any _ (each_sound (map (line_text c' scene name recipe flag bound false) recipe.body) (all_map _ (line_text c' scene name recipe flag bound false) recipe.body (all_more ClearLine _ (λ line. line_sound false line) recipe.body k))))
      (λ texts. shown_sound (shows_script c' scene name recipe flag bound) (in_lines texts) (script_handed c' scene name recipe flag bound c'.dry_run texts) (handed_sound c'.dry_run texts h))
  body_by_sound false h k = lines_sound (commands scene.row.ignore_comments recipe.body) (cut_all scene.row.ignore_comments false recipe.body k)

  -- The body reads only these.
  pub body_sound : AllByRecursion Clear (in_interpreter recipe.script) → AllByRecursion Clear (flat_map (flat_map in_piece) recipe.body) → SoundTask Only (body_task c' scene name recipe flag bound)
  body_sound h k = body_by_sound (is_script c' scene name recipe flag bound) h (all_flat_back Clear (flat_map in_piece) recipe.body k)

  -- ---- the confirmation

  prompt_sound : (o : Option Shape) → AllByRecursion Clear (shapes_of o) → SoundTask Only (prompt_text c' scene name recipe flag bound o)
  prompt_sound None h = tt
  prompt_sound (Some e) h = then_task Only (lift (valued c' scene name recipe flag bound e)) _ (lift_sound Only Any _ (value_sound e h.0)) (λ texts. tt)

  -- The confirmation reads only these.
  pub confirming_sound : (yes : Bool) (o : Option (Option Shape)) → AllByRecursion Clear (in_prompt o) → SoundTask Only (confirming c' scene name recipe flag yes o bound)
  confirming_sound true o h = tt
  confirming_sound false None h = tt
  confirming_sound false (Some prompt) h = then_task Only (prompt_text c' scene name recipe flag bound prompt) _ (prompt_sound prompt h) (λ t answer. tt)

  -- ---- blocks

  arguments_sound : (as' : List ArgumentShape) → AllByRecursion Clear (map (λ argument. argument.expression) as') → AllSound Only (map (λ argument. valued c' scene name recipe flag bound argument.expression) as')
  arguments_sound [] h = tt
  arguments_sound (a ∷ as') h = (value_sound a.expression h.0, arguments_sound as' h.1)

  abbrev argued : ArgumentShape → Dialogue Value
  argued argument = valued c' scene name recipe flag bound argument.expression

  brings_sound : (d : DependencyRow) → AllByRecursion Clear (map (λ argument. argument.expression) d.arguments) → Sound Only Any (brings g.defined argued d)
  brings_sound d h = then_sound Only (λ vs. length vs ≡ length (map argued d.arguments)) Any (row (map argued d.arguments)) _ (row_sound Only (map argued d.arguments) (arguments_sound d.arguments h)) (λ vs e. tt)

  block_by_sound : (leaves_out : Bool) (ds : List DependencyRow) → AllByRecursion Clear (in_dependencies ds) → Sound Only Any (block leaves_out g.defined argued ds)
  block_by_sound true ds h = tt
  block_by_sound false ds h =
      then_sound Only Any Any (each (map (brings g.defined argued) ds)) _
      (each_sound (map (brings g.defined argued) ds) (all_map _ (brings g.defined argued) ds (all_more _ _ brings_sound ds (all_flat_back Clear (λ d. map (λ argument. argument.expression) d.arguments) ds h))))
      (λ calls u. tt)

  -- A block reads only these.
  pub block_sound : (ds : List DependencyRow) → AllByRecursion Clear (in_dependencies ds) → Sound Only Any (block_calls c' scene name recipe flag g.defined bound ds)
  block_sound ds h = block_by_sound c'.no_dependencies ds h
