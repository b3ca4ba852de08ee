-- A body that is run is that of a recipe by name.
use Rattle.std.specs.Prelude.{◌≡◌, ℕ, Bool, true, not, ◌&&◌, All, List, [], ◌∷◌, map, find, codes, Some, Result}
use Rattle.std.specs.Option.{option_map}
use Rattle.std.specs.String.{string_bytes}
use Rattle.just_text.specs.Tokens.{lexeme}
use Rattle.tree_expressions.specs.declared.expression.Expression.{Expression}
use Rattle.tree_attributes.specs.Settings.{InterpreterShape, interpreter_shape}
use Rattle.tree_attributes.specs.declared.attribute.AttributeKind.TheVariants.{NoCd, Script as ScriptKind}
use Rattle.tree_attributes.specs.declared.setting.Interpreter.{Interpreter}
use Rattle.tree_attributes.specs.Sets.Sets.{is_of, items_of}
use Rattle.tree_attributes.specs.declared.attribute_item.AttributeItem.{AttributeItem}
use Rattle.tree_attributes.specs.declared.attribute_set.AttributeSet.{AttributeSet}
use Rattle.tree_items.specs.Lines.{pieces_of}
use Rattle.tree_items.specs.declared.line.Line.{Line}
use Rattle.just_host.specs.declared.entry.Entry.{Entry}
use Rattle.evaluate_context.specs.Surroundings.{by_name, given, removed, surroundings_of}
use Rattle.evaluate_expressions.specs.Situations.{reading_at, stage_at}
use Rattle.evaluate_expressions.specs.declared.evaluator.Evaluator.{Evaluator}
use Rattle.meaning_dialogues.specs.Dialogue.{Dialogue, Evaluates, Reading}
use Rattle.meaning_dialogues.specs.Evaluation.{dialogues, interpreter_dialogue}
use Rattle.meaning_dialogues.specs.Faults.{Fault}
use Rattle.meaning_dialogues.specs.Terms.{terms_of}
use Rattle.meaning_evaluation.specs.Stages.Lines.{line_dialogue, piece_of}
use Rattle.meaning_evaluation.specs.Stages.Parameters.{Bound}
use Rattle.meaning_evaluation.specs.Parameters.Bindings.{words_for}
use Rattle.meaning_runs.specs.Task.{Task}
use Rattle.meaning_evaluation.specs.Named.{RecipeRow}
use Rattle.meaning_evaluation.specs.Scopes.{Configuration, Scene, around, body_standing, formals, valued}
use Rattle.meaning_evaluation.specs.Bodies.{commands, has_shebang, is_script, line_text}
use Rattle.meaning_evaluation.specs.Calling.{body_task, lines_task, script_task}
use Rattle.justfile_evaluator.specs.Sites.{extension_in, has_attribute, interpreter_in, own_folder, script_in, standing_at}
use Rattle.justfile_evaluator.specs.declared.site.Site.{Site}

-- a recipe's body by name: the configuration, the module, the recipe's name and row, whether it runs as a dependency, what it is bound to, and what variables give
pub record NamedBody : Type 0 where
  pub configuration : Configuration
  pub scene : Scene
  pub name : List ℕ
  pub recipe : RecipeRow
  pub flag : Bool
  pub bound : Bound
  pub reading : Reading

module _ (b : NamedBody) where
  -- what it does: as lines, as a script, and as it says
  abbrev pub lines_of : Task (Unit {0})
  lines_of = lines_task b.configuration b.scene b.name b.recipe b.flag b.bound (commands b.scene.row.ignore_comments b.recipe.body)

  abbrev pub script_of : Task (Unit {0})
  script_of = script_task b.configuration b.scene b.name b.recipe b.flag b.bound

  abbrev pub task_of : Task (Unit {0})
  task_of = body_task b.configuration b.scene b.name b.recipe b.flag b.bound

  -- the settings of the module where it runs are those of the module's row
  pub record HasSettings (site : Site) : Type 0 where
    pub guards : site.context.now.module.now.settings.now.guards ≡ b.scene.row.guards
    pub ignore_comments : site.context.now.module.now.settings.now.ignore_comments ≡ b.scene.row.ignore_comments
    pub no_cd : site.context.now.module.now.settings.now.no_cd ≡ b.scene.row.no_cd
    pub script_interpreter : option_map (λ i. i.command ∷ i.arguments.items) site.context.now.module.now.settings.now.script_interpreter ≡ b.scene.row.script_interpreter

  -- the configuration is the same in what bodies look at
  pub record HasConfiguration (site : Site) : Type 0 where
    pub dry_run : site.context.now.config.now.dry_run ≡ b.configuration.dry_run
    pub loquacious : site.context.now.config.now.loquacious ≡ b.configuration.loquacious
    pub quiet : site.context.now.config.now.quiet ≡ b.configuration.quiet

  -- the recipe's name, its attributes and its manner say what its row says
  pub record HasRecipe (site : Site) : Type 0 where
    pub name : lexeme site.name.token ≡ b.name
    pub no_cd : has_attribute NoCd site.attributes.now ≡ b.recipe.no_cd
    pub folder : own_folder site.attributes.now ≡ b.recipe.folder
    pub extension : extension_in site.attributes.now ≡ b.recipe.extension
    pub script : script_in site.attributes.now ≡ b.recipe.script
    pub passes_words : site.manner.passes_words ≡ b.recipe.passes_words
    pub is_quiet : site.manner.is_quiet ≡ b.recipe.quiet
    pub hides_lines : site.manner.hides_lines ≡ (b.scene.row.quiet && not b.recipe.no_quiet)
    pub has_shebang : site.manner.has_shebang ≡ has_shebang b.configuration b.scene b.name b.recipe b.flag b.bound b.recipe.body
    pub is_script : site.manner.is_script ≡ is_script b.configuration b.scene b.name b.recipe b.flag b.bound

  -- commands are given the same shell, folder, environment and words
  pub record HasEnvironment (site : Site) : Type 0 where
    pub shell : (surroundings_of site.context.now).shell ≡ (around b.configuration b.scene b.name b.recipe b.flag).shell
    pub folder : (surroundings_of site.context.now).folder ≡ b.scene.row.folder
    pub pairs : by_name (given (surroundings_of site.context.now) (standing_at site)) ≡ by_name (given (around b.configuration b.scene b.name b.recipe b.flag) (body_standing b.configuration b.scene b.name b.recipe b.flag b.bound))
    pub removed : removed (surroundings_of site.context.now) (standing_at site) ≡ removed (around b.configuration b.scene b.name b.recipe b.flag) (body_standing b.configuration b.scene b.name b.recipe b.flag b.bound)
    pub words : b.recipe.passes_words ≡ true → map string_bytes site.positional.now ≡ words_for (formals b.configuration b.scene b.name b.recipe b.flag) b.bound.values

  -- the site is that of the body by name
  pub record IsSiteOf (site : Site) : Type 0 where
    pub settings : HasSettings site
    pub configuration : HasConfiguration site
    pub recipe : HasRecipe site
    pub environment : HasEnvironment site

  -- whatever a line is evaluated to where its variables have numbers, it is evaluated to by name
  pub record MeansLine (evaluator : Evaluator) (line : Line) : Type 0 where
    pub by_name : (continued : Bool) (old new : List Entry) (result : Result (List ℕ) Fault) → Evaluates (reading_at evaluator) (line_dialogue (stage_at evaluator) continued [] (map piece_of line.fragments.items)) old new result
        → Evaluates b.reading (line_text b.configuration b.scene b.name b.recipe b.flag b.bound continued (pieces_of line)) old new result

  -- the words of an interpreter by name
  abbrev pub interpreter_of : InterpreterShape → Dialogue (List ℕ × List (List ℕ))
  interpreter_of shape = interpreter_dialogue (codes "script") (valued b.configuration b.scene b.name b.recipe b.flag b.bound shape.command ∷ map (valued b.configuration b.scene b.name b.recipe b.flag b.bound) shape.arguments)

  -- The attribute `script` has its name, and whatever the interpreter that it names is evaluated to where its variables have numbers, it is evaluated to by name.
  pub record MeansInterpreter (evaluator : Evaluator) (attributes : AttributeSet) : Type 0 where
    pub written : (item : AttributeItem) → find (is_of ScriptKind) (items_of attributes) ≡ Some item → lexeme item.name.token ≡ codes "script"
    pub by_name : (i : Interpreter Expression) → interpreter_in attributes ≡ Some i → (old new : List Entry) (result : Result (List ℕ × List (List ℕ)) Fault)
        → Evaluates (reading_at evaluator) (interpreter_dialogue (codes "script") (dialogues (stage_at evaluator) (terms_of (i.command ∷ i.arguments.items)))) old new result → Evaluates b.reading (interpreter_of (interpreter_shape i)) old new result

  -- site, evaluator and lines are those of the body by name
  pub record IsBodyOf (here : Site) (evaluator : Evaluator) (read : List Line) : Type 0 where
    pub site : IsSiteOf here
    pub body : map pieces_of read ≡ b.recipe.body
    pub lines : All (MeansLine evaluator) read
    pub interpreter : MeansInterpreter evaluator here.attributes.now
