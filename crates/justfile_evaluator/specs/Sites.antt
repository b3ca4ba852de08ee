-- Where a body runs and how, by its module's settings and its recipe's attributes.
use Rattle.std.specs.Prelude.{ℕ, Bool, true, false, not, ◌&&◌, ◌||◌, cond, if◌then◌else◌, is_some, find, List, [], ◌∷◌, map, Option, Some, None, slice_get}
use Rattle.std.specs.List.{list_any}
use Rattle.std.specs.Option.{option_map}
use Rattle.std.specs.String.{string_bytes}
use Rattle.just_text.specs.Tokens.{lexeme}
use Rattle.tree_attributes.specs.declared.attribute.Attribute.{Attribute}
use Rattle.tree_attributes.specs.declared.attribute.Attribute.TheVariants.{Extension, Script, WorkingDirectory}
use Rattle.tree_attributes.specs.declared.attribute.AttributeKind.{AttributeKind}
use Rattle.tree_attributes.specs.declared.attribute.AttributeKind.TheVariants.{ExitMessage, Extension as ExtensionKind, NoCd, NoExitMessage, NoQuiet, Script as ScriptKind, WorkingDirectory as WorkingDirectoryKind}
use Rattle.tree_expressions.specs.declared.expression.Expression.{Expression}
use Rattle.tree_attributes.specs.Settings.{InterpreterShape, interpreter_shape}
use Rattle.tree_attributes.specs.declared.setting.Interpreter.{Interpreter}
use Rattle.tree_attributes.specs.Sets.Sets.{is_of, items_of}
use Rattle.tree_attributes.specs.declared.attribute_set.AttributeSet.{AttributeSet}
use Rattle.tree_items.specs.Lines.{first_piece, is_shebang}
use Rattle.tree_items.specs.declared.line.Line.{Line}
use Rattle.just_host.specs.declared.config.Config.{Config}
use Rattle.just_host.specs.declared.job.CommandJob.{CommandJob}
use Rattle.just_host.specs.declared.job.JobTemplate.{JobTemplate}
use Rattle.evaluate_context.specs.Folders.{folder_below}
use Rattle.evaluate_context.specs.Surroundings.{Standing, by_name, given, removed, standing_in, surroundings_of}
use Rattle.evaluate_context.specs.declared.context.ExecutionContext.{ExecutionContext}
use Rattle.evaluate_context.specs.declared.settings.Settings.{Settings}
use Rattle.meaning_evaluation.specs.Bodies.{differs}
use Rattle.evaluate_variables.specs.Given.{passes_in}
use Rattle.justfile_evaluator.specs.declared.site.Manner.{Manner}
use Rattle.justfile_evaluator.specs.declared.site.Site.{Site}

-- the first attribute of a kind, and whether there is one
abbrev pub attribute_in : AttributeKind → AttributeSet → Option Attribute
attribute_in kind attributes = option_map (λ item. item.attribute) (find (is_of kind) (items_of attributes))

abbrev pub has_attribute : AttributeKind → AttributeSet → Bool
has_attribute kind attributes = list_any (is_of kind) (items_of attributes)

-- the folder that an attribute names
abbrev pub folder_text : Option Attribute → Option (List ℕ)
folder_text (Some (WorkingDirectory text)) = Some text.cooked
folder_text (Some other) = None
folder_text None = None

abbrev pub own_folder : AttributeSet → Option (List ℕ)
own_folder attributes = folder_text (attribute_in WorkingDirectoryKind attributes)

-- the end of a script's name that an attribute names
abbrev pub extension_text : Option Attribute → Option (List ℕ)
extension_text (Some (Extension text)) = Some text.cooked
extension_text (Some other) = None
extension_text None = None

abbrev pub extension_in : AttributeSet → Option (List ℕ)
extension_in attributes = extension_text (attribute_in ExtensionKind attributes)

-- what an attribute says of a script: whether it is one, and which interpreter it names
abbrev pub script_shape : Option Attribute → Option (Option InterpreterShape)
script_shape (Some (Script given)) = Some (option_map (λ i. interpreter_shape i.value) given)
script_shape (Some other) = None
script_shape None = None

abbrev pub script_in : AttributeSet → Option (Option InterpreterShape)
script_in attributes = script_shape (attribute_in ScriptKind attributes)

-- the interpreter that an attribute names
abbrev pub interpreter_at : Option Attribute → Option (Interpreter Expression)
interpreter_at (Some (Script given)) = option_map (λ i. i.value) given
interpreter_at (Some other) = None
interpreter_at None = None

abbrev pub interpreter_in : AttributeSet → Option (Interpreter Expression)
interpreter_in attributes = interpreter_at (attribute_in ScriptKind attributes)

-- whether commands run where the program was started, by whether a folder is named
abbrev pub stays : Settings → AttributeSet → Bool → Bool
stays settings attributes is_named = has_attribute NoCd attributes || (settings.no_cd && not is_named)

-- the folder of commands; none where they run where the program was started
abbrev pub folder_in : ExecutionContext → AttributeSet → Option (List ℕ)
folder_in context attributes = cond (stays context.module.now.settings.now attributes (is_some (own_folder attributes))) None (Some (folder_below (surroundings_of context).folder (own_folder attributes)))

-- whether a body begins `#!`, by its first line
abbrev pub is_shebang_at : Option Line → Bool
is_shebang_at None = false
is_shebang_at (Some line) = is_shebang (first_piece line)

abbrev pub begins_shebang : List Line → Bool
begins_shebang body = is_shebang_at (slice_get body 0)

-- whether nothing is said of a command that fails
abbrev pub is_silent : Settings → AttributeSet → Bool
is_silent settings attributes = (settings.no_exit_message || has_attribute NoExitMessage attributes) && not (has_attribute ExitMessage attributes)

-- how a body with these lines runs, whose recipe is quiet or not
abbrev pub manner_of : Settings → AttributeSet → Bool → List Line → Manner
manner_of settings attributes is_quiet body = record {
  passes_words = passes_in settings attributes;
  is_silent = is_silent settings attributes;
  is_quiet = is_quiet;
  hides_lines = settings.quiet && not (has_attribute NoQuiet attributes);
  has_shebang = begins_shebang body;
  is_script = (has_attribute ScriptKind attributes || settings.default_script) || begins_shebang body;
}

-- whether a line with this mark of quiet is shown
abbrev pub shows_in : Manner → Config → Bool → Bool
shows_in manner config is_quiet = (config.dry_run || config.loquacious) || not ((differs is_quiet manner.is_quiet || manner.hides_lines) || config.quiet)

-- the words after a line's command: the recipe's name and the parameters' values, where they are passed
abbrev pub words_in : Site → List (List ℕ)
words_in site = if site.manner.passes_words then lexeme site.name.token ∷ map string_bytes site.positional.now else []

-- where commands stand; which recipe stands there makes no difference
abbrev pub standing_at : Site → Standing
standing_at site = standing_in site.context.now site.env.now site.scope.now false None

-- what the commands of a body have in common
abbrev pub template_in : Site → JobTemplate
template_in site = record {
  shell = (surroundings_of site.context.now).shell;
  positional = words_in site;
  pairs = by_name (given (surroundings_of site.context.now) (standing_at site));
  removed = removed (surroundings_of site.context.now) (standing_at site);
  folder = folder_in site.context.now site.attributes.now;
  quiet = site.context.now.config.now.quiet;
}

-- a command with what all have in common
abbrev pub job_by : JobTemplate → List ℕ → CommandJob
job_by template command = record {
  shell = template.shell;
  command = command;
  positional = template.positional;
  pairs = template.pairs;
  removed = template.removed;
  folder = template.folder;
  quiet = template.quiet;
}
