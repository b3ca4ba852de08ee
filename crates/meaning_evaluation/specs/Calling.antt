-- What one call of a recipe does, as tasks: its head, its body, and the calls around it.
use Rattle.std.specs.Prelude.{ℕ, List, [], ◌∷◌, ◌++◌, Bool, true, false, map, Option, Some, None, Result, Ok, Err, drop, codes}
use Rattle.tree_expressions.specs.Shape.{Shape}
use Rattle.just_host.specs.declared.job.Pair.{Pair}
use Rattle.tree_items.specs.Lines.{Piece, no_sigils, sigil_count}
use Rattle.tree_items.specs.declared.line.Sigils.{Sigils}
use Rattle.just_value.specs.Values.{joined}
use Rattle.meaning_dialogues.specs.Faults.{internal}
use Rattle.meaning_dialogues.specs.Dialogue.{Dialogue, Ends}
use Rattle.meaning_evaluation.specs.Stages.Parameters.{Bound}
use Rattle.meaning_runs.specs.Failures.{Failure, evaluation, Next, goes_on, stops, next_by, confirmed}
use Rattle.meaning_evaluation.specs.Named.{Call, RecipeRow, ModuleRow, DependencyRow, Definitions, same_call}
use Rattle.meaning_evaluation.specs.Scopes.{defined_in, Configuration, Scene, binding, valued}
use Rattle.meaning_evaluation.specs.Groups.{block}
use Rattle.meaning_evaluation.specs.Bodies.{commands, in_lines, line_job, script_job, command_text, script_texts, interpreter, is_script, shows_line, shows_script, marks_of}
use Rattle.meaning_runs.specs.Task.{Task, ends, shows, hands, confirms, line, script, lift, ◌>>=◌}
use Rattle.meaning_runs.specs.Acts.{Acts}

abbrev pub shown_if : {A : Type 0} → Bool → List ℕ → Task A → Task A
shown_if true text task = shows text task
shown_if false text task = task

-- a script ends as its status says
abbrev pub without_next : Result Next Failure → Result (Unit {0}) Failure
without_next (Ok next) = Ok tt
without_next (Err failure) = Err failure

module _ (c : Configuration) (scene : Scene) (name : List ℕ) (recipe : RecipeRow) (flag : Bool) where
  -- the prompt: what is written, joined, or the usual words
  abbrev pub prompt_text : Bound → Option Shape → Task (List ℕ)
  prompt_text bound (Some prompt) = do
    texts ← lift (valued c scene name recipe flag bound prompt)
    ends (Ok (joined texts))
  prompt_text bound None = ends (Ok (codes "Run recipe `" ++ (name ++ codes "`?")))

  -- the confirmation, where there is one to ask; under `yes` its prompt isn't evaluated
  abbrev pub confirming : Bool → Option (Option Shape) → Bound → Task (Unit {0})
  confirming true confirm bound = ends (Ok tt)
  confirming false None bound = ends (Ok tt)
  confirming false (Some prompt) bound = do
    text ← prompt_text bound prompt
    confirms text (λ answer. ends (confirmed name answer))

  -- the head: what the recipe is bound to, and its confirmation
  abbrev pub head_task : List (List (List ℕ)) → Task Bound
  head_task groups = do
    bound ← lift (binding c scene name recipe flag groups)
    u ← confirming c.yes recipe.confirm bound
    ends (Ok bound)

  abbrev pub block_calls : Definitions → Bound → List DependencyRow → Dialogue (List Call)
  block_calls defined bound dependencies = block c.no_dependencies defined (λ argument. valued c scene name recipe flag bound argument.expression) dependencies

  module _ (bound : Bound) where
    -- a command is handed over; in a dry run it is not
    abbrev pub handing : Bool → Sigils → List ℕ → Task Next
    handing true sigils command = ends (Ok goes_on)
    handing false sigils command = hands (line (line_job c scene name recipe flag bound command)) (λ status. ends (next_by name sigils status))

    -- a command without its marks: an empty one does nothing; another is shown, then handed over
    abbrev pub running : Sigils → List ℕ → Task Next
    running sigils [] = ends (Ok goes_on)
    running sigils (b ∷ bs) = shown_if (shows_line c scene name recipe flag bound sigils) (b ∷ bs) (handing c.dry_run sigils (b ∷ bs))

    abbrev pub one_command : List (List Piece) → Task Next
    one_command command = do
      text ← lift (command_text c scene name recipe flag bound false command)
      running (marks_of c scene name recipe flag bound command) (drop (sigil_count (marks_of c scene name recipe flag bound command)) text)

    -- commands in order, up to the first that fails or a guard that ends the body
    abbrev pub and_others : Task (Unit {0}) → Next → Task (Unit {0})
    and_others others goes_on = others
    and_others others stops = ends (Ok tt)

    abbrev pub lines_task : List (List (List Piece)) → Task (Unit {0})
    lines_task [] = ends (Ok tt)
    lines_task (command ∷ others) = one_command command >>= and_others (lines_task others)

    -- all lines are evaluated, shown as one text, and handed over whole; in a dry run they are not
    abbrev pub script_handed : Bool → List (List ℕ) → Task (Unit {0})
    script_handed true texts = ends (Ok tt)
    script_handed false texts = do
      words ← lift (interpreter c scene name recipe flag bound recipe.script texts)
      hands (script (script_job c scene name recipe flag bound words texts)) (λ status. ends (without_next (next_by name no_sigils status)))

    abbrev pub script_task : Task (Unit {0})
    script_task = do
      texts ← lift (script_texts c scene name recipe flag bound)
      shown_if (shows_script c scene name recipe flag bound) (in_lines texts) (script_handed c.dry_run texts)

    abbrev pub body_by : Bool → Task (Unit {0})
    body_by true = script_task
    body_by false = lines_task (commands scene.row.ignore_comments recipe.body)

    abbrev pub body_task : Task (Unit {0})
    body_task = body_by (is_script c scene name recipe flag bound)

-- ---- calls by name

-- What a run rests on: the configuration, what is defined, the pairs that modules asked for, and the exported bindings of their frames, by name.
pub record Ground : Type 0 where
  pub configuration : Configuration
  pub defined : Definitions
  pub dotenv : List (List ℕ) → List Pair
  pub exported : List (List ℕ) → List Pair

module _ (g : Ground) where
  abbrev pub scene_of : List (List ℕ) → ModuleRow → Scene
  scene_of path row = record {
    path = path;
    row = row;
    functions = map (defined_in g.configuration.expansion) (g.defined.functions path);
    dotenv = g.dotenv path;
    exported = g.exported path;
  }

  -- a recipe that is there, and its module; no other is ever met
  abbrev pub met : {X : Type 0} → X → Option RecipeRow → Option ModuleRow → (RecipeRow → ModuleRow → X) → X
  met unknown (Some recipe) (Some row) known = known recipe row
  met unknown (Some recipe) None known = unknown
  met unknown None row known = unknown

  abbrev pub at : {X : Type 0} → X → Call → (RecipeRow → ModuleRow → X) → X
  at unknown call known = met unknown (g.defined.recipe call.recipe) (g.defined.inside call.recipe.path) known

  abbrev pub no_task : {A : Type 0} → Task A
  no_task = ends (Err (evaluation (internal (codes "unknown recipe"))))

  abbrev pub no_dialogue : {A : Type 0} → Dialogue A
  no_dialogue = Ends (Err (internal (codes "unknown recipe")))

  abbrev pub acts : Acts Call Bound
  acts = record {
    same = same_call;
    shares = λ call. at false call (λ recipe row. row.shares);
    head = λ call flag. at no_task call (λ recipe row. head_task g.configuration (scene_of call.recipe.path row) call.recipe.recipe recipe flag call.groups);
    priors = λ call flag bound. at no_dialogue call (λ recipe row. block_calls g.configuration (scene_of call.recipe.path row) call.recipe.recipe recipe flag g.defined bound recipe.priors);
    body = λ call flag bound. at no_task call (λ recipe row. body_task g.configuration (scene_of call.recipe.path row) call.recipe.recipe recipe flag bound);
    subsequents = λ call flag bound. at no_dialogue call (λ recipe row. block_calls g.configuration (scene_of call.recipe.path row) call.recipe.recipe recipe flag g.defined bound recipe.subsequents);
  }
