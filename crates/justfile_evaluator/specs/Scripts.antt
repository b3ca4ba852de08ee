-- Bodies that are one script: what is handed over, and what its words and texts come to.
use Rattle.std.specs.Prelude.{◌≡◌, ℕ, Bool, true, false, ◌||◌, if◌then◌else◌, List, [], ◌∷◌, map, find, Option, Some, None, Result, Ok, Err, unwrap_or}
use Rattle.std.specs.Option.{option_map}
use Rattle.std.specs.String.{string_bytes}
use Rattle.just_text.specs.declared.name.Name.{Name}
use Rattle.tree_attributes.specs.declared.attribute.AttributeKind.TheVariants.{Script as ScriptKind}
use Rattle.tree_attributes.specs.Sets.Sets.{is_of, items_of}
use Rattle.tree_attributes.specs.declared.attribute_set.AttributeSet.{AttributeSet}
use Rattle.just_host.specs.declared.entry.Entry.{Entry}
use Rattle.just_host.specs.declared.job.ScriptJob.{ScriptJob}
use Rattle.evaluate_context.specs.Refusals.{fault_of}
use Rattle.evaluate_context.specs.Shells.{script_words}
use Rattle.evaluate_context.specs.Surroundings.{by_name, given, removed, surroundings_of}
use Rattle.evaluate_context.specs.declared.error.Error.{Error}
use Rattle.evaluate_expressions.specs.declared.evaluator.Evaluator.{Evaluator}
use Rattle.meaning_dialogues.specs.Dialogue.{Dialogue, Evaluates, Reading}
use Rattle.meaning_runs.specs.Task.{Task}
use Rattle.meaning_evaluation.specs.Bodies.{has_shebang, interpreter, script_texts, shebang_words}
use Rattle.meaning_evaluation.specs.Calling.{script_handed}
use Rattle.laws_evaluation.specs.Bodies.Marked.{BeginsAs}
use Rattle.justfile_evaluator.specs.Bodies.{IsSiteOf, MeansInterpreter, NamedBody}
use Rattle.justfile_evaluator.specs.Sites.{extension_in, folder_in, standing_at}
use Rattle.justfile_evaluator.specs.declared.site.Site.{Site}

-- where the attribute `script` is written, else the recipe's name
abbrev pub script_name : AttributeSet → Name → Name
script_name attributes recipe = unwrap_or (option_map (λ item. item.name) (find (is_of ScriptKind) (items_of attributes))) recipe

-- the words where no attribute names an interpreter: those of the first text where the body begins `#!`, else those that are set
abbrev pub plain_words : Bool → Option (List (List ℕ)) → List (List ℕ) → List (List ℕ)
plain_words true set (text ∷ texts) = shebang_words text
plain_words true set [] = script_words set
plain_words false set texts = script_words set

abbrev pub set_interpreter : Site → Option (List (List ℕ))
set_interpreter site = option_map (λ i. i.command ∷ i.arguments.items) site.context.now.module.now.settings.now.script_interpreter

-- the words after a script's path
abbrev pub positional_in : Site → List (List ℕ)
positional_in site = if site.manner.passes_words then map string_bytes site.positional.now else []

-- what is handed over
abbrev pub script_job_in : Site → List (List ℕ) → List (List ℕ) → ScriptJob
script_job_in site words texts = record {
  interpreter = words;
  lines = texts;
  positional = positional_in site;
  extension = extension_in site.attributes.now;
  pairs = by_name (given (surroundings_of site.context.now) (standing_at site));
  removed = removed (surroundings_of site.context.now) (standing_at site);
  folder = folder_in site.context.now site.attributes.now;
}

-- whether a script is shown
abbrev pub shows_script_in : Site → Bool
shows_script_in site = (site.context.now.config.now.dry_run || site.context.now.config.now.loquacious) || site.manner.is_quiet

-- the words are an interpreter's command and its arguments, as they are evaluated; or the fault of one of them
abbrev pub GivesWords : Reading → Dialogue (List ℕ × List (List ℕ)) → List Entry → List Entry → Result (List (List ℕ)) Error → Type 0
GivesWords reading dialogue old new (Ok words) = (w : List ℕ × List (List ℕ)) × Evaluates reading dialogue old new (Ok w) × (words ≡ w.0 ∷ w.1)
GivesWords reading dialogue old new (Err error) = Evaluates reading dialogue old new (Err (fault_of error))

module _ (b : NamedBody) where
  -- the texts of all lines by name, the words of the interpreter of these, and the handing over
  abbrev pub texts_of : Dialogue (List (List ℕ))
  texts_of = script_texts b.configuration b.scene b.name b.recipe b.flag b.bound

  abbrev pub words_of : List (List ℕ) → Dialogue (List (List ℕ))
  words_of texts = interpreter b.configuration b.scene b.name b.recipe b.flag b.bound b.recipe.script texts

  abbrev pub handed_of : Bool → List (List ℕ) → Task (Unit {0})
  handed_of dry texts = script_handed b.configuration b.scene b.name b.recipe b.flag b.bound dry texts

  -- site, evaluator and texts are those of the script by name
  pub record IsScriptOf (here : Site) (evaluator : Evaluator) (texts : List (List ℕ)) : Type 0 where
    pub site : IsSiteOf b here
    pub interpreter : MeansInterpreter b evaluator here.attributes.now
    pub begins : BeginsAs (has_shebang b.configuration b.scene b.name b.recipe b.flag b.bound b.recipe.body) texts
