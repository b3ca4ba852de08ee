-- A call's body, its confirmation and its blocks don't end with `internal`, and blocks give calls of the kind with a group for each parameter.
use Rattle.std.proofs.Common.{◌≡◌, ℕ, zero, suc, List, [], ◌∷◌, ◌++◌, map, Bool, true, false, not, ◌&&◌, cond, codes, Option, Some, None, Result, Ok, Err, drop, length, refl, ap}
use Rattle.std.specs.List.{AllByRecursion, flat_map, onto_first}
use Rattle.tree_expressions.specs.Shape.{Shape}
use Rattle.tree_attributes.specs.Settings.{InterpreterShape}
use Rattle.tree_items.specs.Lines.{Piece, no_sigils, sigil_count, is_comment, text, interpolation}
use Rattle.tree_items.specs.Recipes.{is_variadic, ArgumentShape}
use Rattle.tree_items.specs.declared.line.Sigils.{Sigils}
use Rattle.just_host.specs.declared.host.Status.{Status}
use Rattle.just_host.specs.declared.host.Status.TheVariants.{Code, Signal, NotStarted}
use Rattle.just_host.specs.declared.host.Confirmation.{Confirmation}
use Rattle.just_host.specs.declared.host.Confirmation.TheVariants.{Yes, No, Failed as NoAnswer}
use Rattle.meaning_dialogues.specs.Dialogue.{Dialogue, Lookup, Variable}
use Rattle.meaning_dialogues.specs.Evaluation.{Value, dialogue, row, interpreter_dialogue}
use Rattle.meaning_dialogues.specs.Written.{numbered}
use Rattle.meaning_dialogues.proofs.Soundness.{Any}
use Rattle.meaning_evaluation.specs.Stages.Lines.{piece_dialogue, line_dialogue}
use Rattle.meaning_evaluation.specs.Stages.Parameters.{Bound}
use Rattle.meaning_runs.specs.Failures.{Failure, Next, goes_on, stops, next_by, confirmed, by_code}
use Rattle.meaning_runs.specs.Task.{Task, lift}
use Rattle.meaning_evaluation.specs.Named.{RecipeName, Call, ParameterRow, DependencyRow, RecipeRow, ModuleRow}
use Rattle.meaning_evaluation.specs.Scopes.{Configuration, Scene, piece_in, parameter_names, frame_of, body_stage, term, valued}
use Rattle.meaning_evaluation.specs.Groups.{first_value, values_behind, grouped, parameters_of, call_of, rows_of, each, brings, block}
use Rattle.meaning_evaluation.specs.Bodies.{first_of, goes_on_below, closed_if, cut, commands, in_lines, line_text, command_text, script_texts, interpreter, is_script, shows_line, shows_script, marks_of}
use Rattle.meaning_evaluation.specs.Calling.{Ground, scene_of, shown_if, without_next, prompt_text, confirming, handing, running, one_command, and_others, lines_task, script_handed, body_by, body_task, block_calls}
use Rattle.just_meaning.specs.Reading.{in_prompt, in_dependencies, in_piece, in_interpreter, shapes_of}
use Rattle.laws_agreement.proofs.Agreement.Lists.{all_left, all_right, all_map, all_more, all_of, all_flat, all_flat_back}
use Rattle.laws_agreement.proofs.Agreement.Under.{IsSeen}
use Rattle.laws_evaluation.proofs.Soundness.Endings.{AllProper, row_proper}
use Rattle.laws_evaluation.proofs.Soundness.Terms.{interpreter_proper}
use Rattle.laws_agreement.specs.Certain.Certain.{IsCertainCall}
use Rattle.laws_agreement.proofs.Certain.Dialogues.{EndsWell, then_well, each_well}
use Rattle.laws_agreement.proofs.Certain.Tasks.{ResultsIn, Certain, lift_certain, then_certain}
use Rattle.laws_agreement.proofs.Certain.Binding.{Fine, Q, FitsRow, under_well, body_seen, valued_well}

-- ---- results

-- one of two results
cond_results : (b : Bool) (r s : Result Next Failure) → ResultsIn Any r → ResultsIn Any s → ResultsIn Any (cond b r s)
cond_results true r s h k = h
cond_results false r s h k = k

-- what follows a command is no `internal`
next_results : (name : List ℕ) (s : Sigils) (status : Status) → ResultsIn Any (next_by name s status)
next_results name s (Code zero) = tt
next_results name s (Code (suc zero)) = cond_results s.guard (Ok stops) (cond s.infallible (Ok goes_on) (Err (by_code name 1))) tt (cond_results s.infallible (Ok goes_on) (Err (by_code name 1)) tt tt)
next_results name s (Code (suc (suc n))) = cond_results s.infallible (Ok goes_on) _ tt tt
next_results name s (Signal n) = cond_results s.infallible (Ok goes_on) _ tt tt
next_results name s NotStarted = tt

-- nor what follows a script
script_results : (r : Result Next Failure) → ResultsIn Any r → ResultsIn Any (without_next r)
script_results (Ok next) h = tt
script_results (Err failure) h = h

-- nor what a confirmation gives
confirmed_results : (name : List ℕ) (answer : Confirmation) → ResultsIn Any (confirmed name answer)
confirmed_results name Yes = tt
confirmed_results name No = tt
confirmed_results name NoAnswer = tt

-- ---- groups

-- one of two lists of this length
cond_length : (b : Bool) (n : ℕ) (xs ys : List Value) → length xs ≡ n → length ys ≡ n → length (cond b xs ys) ≡ n
cond_length true n xs ys h k = h
cond_length false n xs ys h k = k

-- a group for each parameter
grouped_length : (ps : List ParameterRow) (values : List Value) → length (grouped ps values) ≡ length ps
grouped_length [] values = refl
grouped_length (p ∷ ps) values =
    cond_length (is_variadic p.kind) (suc (length ps)) (flat_map (λ value. value) values ∷ grouped ps []) (first_value values ∷ grouped ps (values_behind values)) (ap suc (grouped_length ps [])) (ap suc (grouped_length ps (values_behind values)))

module _ (g : Ground) (path : List (List ℕ)) (row' : ModuleRow) (name : List ℕ) (recipe : RecipeRow) (flag : Bool) (Named : List ℕ → Type 0) (P : Variable → Type 0)
    (meant : (x : List ℕ) (number : Option ℕ) → Named x → P (record { name = x; number = number })) (bound : Bound) (fits : FitsRow g path row' name recipe flag Named P meant bound) where
  abbrev c' : Configuration
  c' = g.configuration

  abbrev scene : Scene
  scene = scene_of g path row'

  abbrev Only : Lookup → Variable → Type 0
  Only = Q g path row' name recipe flag Named P meant

  -- its names stand for something where all parameters are seen
  abbrev pub Clear : Shape → Type 0
  Clear e = Fine g path row' name recipe flag Named P meant e (parameter_names recipe)

  -- so ends such an expression
  value_well : (e : Shape) → Clear e → EndsWell Only Any (valued c' scene name recipe flag bound e)
  value_well e h = valued_well g path row' name recipe flag Named P meant bound fits e h

  -- so end such expressions
  values_well : (es : List Shape) → AllByRecursion Clear es → AllProper Only (map (valued c' scene name recipe flag bound) es)
  values_well [] h = tt
  values_well (e ∷ es) h = (value_well e h.0, values_well es h.1)

  -- ---- lines

  -- what is seen in a line
  abbrev Seen : Lookup → Variable → Type 0
  Seen = IsSeen (frame_of c' scene name recipe flag bound) P

  -- so ends a part of a line
  piece_well : (continued : Bool) (piece : Piece) → AllByRecursion Clear (in_piece piece)
      → EndsWell Seen Any (piece_dialogue (body_stage c' scene name recipe flag bound) continued (piece_in c'.expansion recipe.file (numbered (parameter_names recipe)) piece))
  piece_well continued (text t) h = tt
  piece_well continued (interpolation e) h =
      then_well Seen Any Any (dialogue (body_stage c' scene name recipe flag bound) (term c' scene name recipe flag e)) _ (body_seen g path row' name recipe flag Named P meant bound fits e h.0) (λ v u. tt)

  -- so end the parts of a line
  pieces_well : (continued : Bool) (so_far : List ℕ) (line : List Piece) → AllByRecursion Clear (flat_map in_piece line)
      → EndsWell Seen Any (line_dialogue (body_stage c' scene name recipe flag bound) continued so_far (map (piece_in c'.expansion recipe.file (numbered (parameter_names recipe))) line))
  pieces_well continued so_far [] h = tt
  pieces_well continued so_far (piece ∷ line) h =
      then_well Seen Any Any (piece_dialogue (body_stage c' scene name recipe flag bound) continued (piece_in c'.expansion recipe.file (numbered (parameter_names recipe)) piece)) _
      (piece_well continued piece (all_left Clear (in_piece piece) (flat_map in_piece line) h))
      (λ more u. pieces_well false (so_far ++ more) line (all_right Clear (in_piece piece) (flat_map in_piece line) h))

  -- a line of such expressions
  abbrev pub ClearLine : List Piece → Type 0
  ClearLine line = AllByRecursion Clear (flat_map in_piece line)

  -- so ends a line
  line_well : (continued : Bool) (line : List Piece) → ClearLine line → EndsWell Only Any (line_text c' scene name recipe flag bound continued line)
  line_well continued line h = under_well g path row' name recipe flag Named P meant Any (frame_of c' scene name recipe flag bound) _ (pieces_well continued [] line h)

  -- so ends a command
  command_well : (continued : Bool) (lines : List (List Piece)) → AllByRecursion ClearLine lines → EndsWell Only Any (command_text c' scene name recipe flag bound continued lines)
  command_well continued [] h = tt
  command_well continued (line ∷ lines) h =
      then_well Only Any Any (line_text c' scene name recipe flag bound continued line) _ (line_well continued line h.0)
      (λ t u. then_well Only Any Any (command_text c' scene name recipe flag bound true lines) _ (command_well true lines h.1) (λ more w. tt))

  -- ---- the lines of commands are the body's

  closed_all : (b : Bool) (others : List (List (List Piece))) → AllByRecursion (AllByRecursion ClearLine) others → AllByRecursion (AllByRecursion ClearLine) (closed_if b others)
  closed_all true others h = (tt, h)
  closed_all false others h = h

  onto_all : (line : List Piece) (groups : List (List (List Piece))) → ClearLine line → AllByRecursion (AllByRecursion ClearLine) groups → AllByRecursion (AllByRecursion ClearLine) (onto_first line groups)
  onto_all line [] h k = ((h, tt), tt)
  onto_all line (group ∷ groups) h k = ((h, k.0), k.1)

  cond_all : (b : Bool) (xs ys : List (List (List Piece))) → AllByRecursion (AllByRecursion ClearLine) xs → AllByRecursion (AllByRecursion ClearLine) ys → AllByRecursion (AllByRecursion ClearLine) (cond b xs ys)
  cond_all true xs ys h k = h
  cond_all false xs ys h k = k

  cut_all : (skips inside : Bool) (lines : List (List Piece)) → AllByRecursion ClearLine lines → AllByRecursion (AllByRecursion ClearLine) (cut skips inside lines)
  cut_all skips inside [] h = closed_all inside [] tt
  cut_all skips inside (line ∷ lines) h =
      cond_all (not inside && (skips && is_comment (first_of line))) (cut skips false lines) (onto_first line (closed_if (not (goes_on_below line)) (cut skips (goes_on_below line) lines))) (cut_all skips false lines h.1)
      (onto_all line (closed_if (not (goes_on_below line)) (cut skips (goes_on_below line) lines)) h.0 (closed_all (not (goes_on_below line)) (cut skips (goes_on_below line) lines) (cut_all skips (goes_on_below line) lines h.1)))

  -- ---- tasks

  -- so ends what is shown first
  shown_certain : {A : Type 0} (R : A → Type 0) (b : Bool) (t : List ℕ) (task : Task A) → Certain Only R task → Certain Only R (shown_if b t task)
  shown_certain R true t task h = h
  shown_certain R false t task h = h

  -- so ends a command that is handed over
  handing_certain : (dry : Bool) (sigils : Sigils) (command : List ℕ) → Certain Only Any (handing c' scene name recipe flag bound dry sigils command)
  handing_certain true sigils command = tt
  handing_certain false sigils command = λ status. next_results name sigils status

  -- so ends a command that is run
  running_certain : (sigils : Sigils) (t : List ℕ) → Certain Only Any (running c' scene name recipe flag bound sigils t)
  running_certain sigils [] = tt
  running_certain sigils (b ∷ bs) = shown_certain Any (shows_line c' scene name recipe flag bound sigils) (b ∷ bs) (handing c' scene name recipe flag bound c'.dry_run sigils (b ∷ bs)) (handing_certain c'.dry_run sigils (b ∷ bs))

  -- so end the commands after it
  others_certain : (others : Task (Unit {0})) → Certain Only Any others → (next : Next) → Certain Only Any (and_others c' scene name recipe flag bound others next)
  others_certain others h goes_on = h
  others_certain others h stops = tt

  -- so end commands in order
  lines_certain : (groups : List (List (List Piece))) → AllByRecursion (AllByRecursion ClearLine) groups → Certain Only Any (lines_task c' scene name recipe flag bound groups)
  lines_certain [] h = tt
  lines_certain (command ∷ others) h =
      then_certain Only Any Any (one_command c' scene name recipe flag bound command) _
      (then_certain Only Any Any (lift (command_text c' scene name recipe flag bound false command)) _ (lift_certain Only Any _ (command_well false command h.0))
      (λ t u. running_certain (marks_of c' scene name recipe flag bound command) (drop (sigil_count (marks_of c' scene name recipe flag bound command)) t)))
      (λ next u. others_certain (lines_task c' scene name recipe flag bound others) (lines_certain others h.1) next)

  -- so ends the interpreter of a script
  interpreter_well : (o : Option (Option InterpreterShape)) (texts : List (List ℕ)) → AllByRecursion Clear (in_interpreter o) → EndsWell Only Any (interpreter c' scene name recipe flag bound o texts)
  interpreter_well (Some (Some shape)) texts h =
      let ds = map (valued c' scene name recipe flag bound) (shape.command ∷ shape.arguments) in
      then_well Only Any Any (interpreter_dialogue (codes "script") ds) _ (interpreter_proper Only (codes "script") ds (values_well (shape.command ∷ shape.arguments) h)) (λ words u. tt)
  interpreter_well (Some None) texts h = tt
  interpreter_well None texts h = tt

  -- so ends a script that is handed over
  handed_certain : (dry : Bool) (texts : List (List ℕ)) → AllByRecursion Clear (in_interpreter recipe.script) → Certain Only Any (script_handed c' scene name recipe flag bound dry texts)
  handed_certain true texts h = tt
  handed_certain false texts h =
      then_certain Only Any Any (lift (interpreter c' scene name recipe flag bound recipe.script texts)) _ (lift_certain Only Any _ (interpreter_well recipe.script texts h))
      (λ words u status. script_results (next_by name no_sigils status) (next_results name no_sigils status))

  -- so ends a body, by whether it is a script
  body_by_certain : (script : Bool) → AllByRecursion Clear (in_interpreter recipe.script) → AllByRecursion ClearLine recipe.body → Certain Only Any (body_by c' scene name recipe flag bound script)
  body_by_certain true h k =
      then_certain Only (AllByRecursion Any) Any (lift (script_texts c' scene name recipe flag bound)) _
      (lift_certain Only (AllByRecursion Any) _ (each_well Only Any (map (line_text c' scene name recipe flag bound false) recipe.body)
      (all_map _ (line_text c' scene name recipe flag bound false) recipe.body (all_more ClearLine _ (λ line. line_well false line) recipe.body k))))
      (λ texts u. shown_certain Any (shows_script c' scene name recipe flag bound) (in_lines texts) (script_handed c' scene name recipe flag bound c'.dry_run texts) (handed_certain c'.dry_run texts h))
  body_by_certain false h k = lines_certain (commands scene.row.ignore_comments recipe.body) (cut_all scene.row.ignore_comments false recipe.body k)

  -- The body ends so.
  pub body_certain : AllByRecursion Clear (in_interpreter recipe.script) → AllByRecursion Clear (flat_map (flat_map in_piece) recipe.body) → Certain Only Any (body_task c' scene name recipe flag bound)
  body_certain h k = body_by_certain (is_script c' scene name recipe flag bound) h (all_flat_back Clear (flat_map in_piece) recipe.body k)

  -- ---- the confirmation

  -- so ends the prompt
  prompt_certain : (o : Option Shape) → AllByRecursion Clear (shapes_of o) → Certain Only Any (prompt_text c' scene name recipe flag bound o)
  prompt_certain None h = tt
  prompt_certain (Some e) h = then_certain Only Any Any (lift (valued c' scene name recipe flag bound e)) _ (lift_certain Only Any _ (value_well e h.0)) (λ texts u. tt)

  -- The confirmation ends so.
  pub confirming_certain : (yes : Bool) (o : Option (Option Shape)) → AllByRecursion Clear (in_prompt o) → Certain Only Any (confirming c' scene name recipe flag yes o bound)
  confirming_certain true o h = tt
  confirming_certain false None h = tt
  confirming_certain false (Some prompt) h = then_certain Only Any Any (prompt_text c' scene name recipe flag bound prompt) _ (prompt_certain prompt h) (λ t u answer. confirmed_results name answer)

  -- ---- blocks

  module _ (Of : RecipeName → Type 0) where
    -- calls of the kind
    abbrev Kind : Call → Type 0
    Kind = IsCertainCall g.defined Of

    -- so end the arguments of a dependency
    arguments_well : (as' : List ArgumentShape) → AllByRecursion Clear (map (λ argument. argument.expression) as') → AllProper Only (map (λ argument. valued c' scene name recipe flag bound argument.expression) as')
    arguments_well [] h = tt
    arguments_well (a ∷ as') h = (value_well a.expression h.0, arguments_well as' h.1)

    -- the value of an argument
    abbrev argued : ArgumentShape → Dialogue Value
    argued argument = valued c' scene name recipe flag bound argument.expression

    -- each call of a dependency is of the kind
    called : (d : DependencyRow) → Of d.on → (values : List Value) → Kind (call_of g.defined d.on values)
    called d of values = record { of = of; groups = grouped_length (parameters_of (g.defined.recipe d.on)) values }

    -- so ends a dependency
    brings_well : (d : DependencyRow) → Of d.on → AllByRecursion Clear (map (λ argument. argument.expression) d.arguments) → EndsWell Only (AllByRecursion Kind) (brings g.defined argued d)
    brings_well d of h =
        then_well Only (λ vs. length vs ≡ length (map argued d.arguments)) (AllByRecursion Kind) (row (map argued d.arguments)) _ (row_proper Only (map argued d.arguments) (arguments_well d.arguments h))
        (λ values e. all_map Kind (call_of g.defined d.on) (rows_of d.arguments values) (all_of _ (called d of) (rows_of d.arguments values)))

    -- so end dependencies
    all_bring : (ds : List DependencyRow) → AllByRecursion (λ d. Of d.on) ds → AllByRecursion (λ d. AllByRecursion Clear (map (λ argument. argument.expression) d.arguments)) ds
        → AllByRecursion (EndsWell Only (AllByRecursion Kind)) (map (brings g.defined argued) ds)
    all_bring [] k h = tt
    all_bring (d ∷ ds) k h = (brings_well d k.0 h.0, all_bring ds k.1 h.1)

    -- so ends a block, by whether dependencies are left out
    block_by_well : (leaves_out : Bool) (ds : List DependencyRow) → (leaves_out ≡ false → AllByRecursion (λ d. Of d.on) ds) → AllByRecursion Clear (in_dependencies ds) → EndsWell Only (AllByRecursion Kind) (block leaves_out g.defined argued ds)
    block_by_well true ds k h = tt
    block_by_well false ds k h =
        then_well Only (AllByRecursion (AllByRecursion Kind)) (AllByRecursion Kind) (each (map (brings g.defined argued) ds)) _
        (each_well Only (AllByRecursion Kind) (map (brings g.defined argued) ds) (all_bring ds (k refl) (all_flat_back Clear (λ d. map (λ argument. argument.expression) d.arguments) ds h)))
        (λ calls h'. all_flat Kind calls h')

    -- A block ends so, with calls of what its dependencies name, each with a group for each parameter.
    pub block_well : (ds : List DependencyRow) → (c'.no_dependencies ≡ false → AllByRecursion (λ d. Of d.on) ds) → AllByRecursion Clear (in_dependencies ds)
        → EndsWell Only (AllByRecursion Kind) (block_calls c' scene name recipe flag g.defined bound ds)
    block_well ds k h = block_by_well c'.no_dependencies ds k h
