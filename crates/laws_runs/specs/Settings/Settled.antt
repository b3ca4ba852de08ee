-- What the settings of modules are set to is what stands for their expressions by names.
use Rattle.std.specs.Prelude.{◌≡◌, ◌↔◌, ℕ, List, ◌∷◌, Some, String, Contains, codes, slice_get}
use Rattle.std.specs.BTreeMap.{BTreeMap}
use Rattle.std.specs.Option.{option_map}
use Rattle.tree_attributes.specs.Settings.{SetShape}
use Rattle.tree_expressions.specs.Shape.{Shape}
use Rattle.evaluate_context.specs.declared.settings.Settings.{Settings}
use Rattle.just_value.specs.declared.positional.Override.{Override}
use Rattle.modules_compilation.specs.declared.compilation.Compilation.{Compilation}
use Rattle.modules_compilation.specs.declared.module_node.ModuleNode.{ModuleNode}
use Rattle.resolve_analysis.specs.declared.variables.ModuleVariables.{ModuleVariables}
use Rattle.just_resolve.specs.Overrides.{AreGiven}
use Rattle.just_resolve.specs.Settling.{AreConstantly}
use Rattle.just_resolve.specs.Variables.{AreVariables}
use Rattle.meaning_dialogues.specs.Evaluation.{Value}
use Rattle.meaning_rules.specs.Worlds.Compiled.{HasPath}
use Rattle.meaning_rules.specs.Worlds.Given.{Overrides, Text, World}
use Rattle.meaning_rules.specs.Constants.{HasSetting, HasValue, IsPartOf}
use Rattle.meaning_rules.specs.Naming.{Part}
use Rattle.laws_modules.specs.Names.Names.{HasNode, nodes, views}
use Rattle.meaning_rules.specs.Overrides.{overrides_of}
use Rattle.laws_names.specs.Reading.Meant.{IsNumberedWorld}
use Rattle.just_meaning.specs.Rows.{settled_text, settled_words, setting_named, truth_set, value_set}
use Rattle.laws_runs.specs.Resolved.Definitions.{sets_of}

-- settings have what these items set, whose expressions settle so
pub record AreSettledAs (settle : Shape → Value) (sets : List SetShape) (settings : Settings) : Type 0 where
  pub shell : settled_words settle (setting_named (codes "shell") sets) ≡ option_map (λ i. i.command ∷ i.arguments.items) settings.shell
  pub script_interpreter : settled_words settle (setting_named (codes "script-interpreter") sets) ≡ option_map (λ i. i.command ∷ i.arguments.items) settings.script_interpreter
  pub working_directory : settled_text settle (setting_named (codes "working-directory") sets) ≡ settings.working_directory
  pub dotenv_command : value_set settle sets (codes "dotenv-command") ≡ settings.dotenv_command
  pub dotenv_filename : value_set settle sets (codes "dotenv-filename") ≡ settings.dotenv_filename
  pub dotenv_path : value_set settle sets (codes "dotenv-path") ≡ settings.dotenv_path
  pub dotenv_load : truth_set settle sets (codes "dotenv-load") ≡ settings.dotenv_load
  pub dotenv_override : truth_set settle sets (codes "dotenv-override") ≡ settings.dotenv_override
  pub dotenv_required : truth_set settle sets (codes "dotenv-required") ≡ settings.dotenv_required
  pub default_list : truth_set settle sets (codes "default-list") ≡ settings.default_list
  pub default_script : truth_set settle sets (codes "default-script") ≡ settings.default_script
  pub export : truth_set settle sets (codes "export") ≡ settings.export
  pub guards : truth_set settle sets (codes "guards") ≡ settings.guards
  pub ignore_comments : truth_set settle sets (codes "ignore-comments") ≡ settings.ignore_comments
  pub lazy : truth_set settle sets (codes "lazy") ≡ settings.lazy
  pub lists : truth_set settle sets (codes "lists") ≡ settings.lists
  pub no_cd : truth_set settle sets (codes "no-cd") ≡ settings.no_cd
  pub positional_arguments : truth_set settle sets (codes "positional-arguments") ≡ settings.positional_arguments
  pub quiet : truth_set settle sets (codes "quiet") ≡ settings.quiet
  pub share_subsequents : truth_set settle sets (codes "share-subsequents") ≡ settings.share_subsequents

-- the settings of a module are those of the world, each part of them has the value that stands for it there, and they have what these set
pub record AreOfWorld (w : World) (o : Overrides) (compilation : Compilation) (path : List Text) (node : ModuleNode) (settle : Shape → Value) (settings : Settings) : Type 0 where
  pub sets : (s : SetShape) → Contains (sets_of compilation node) s ↔ HasSetting w o path node.source.now s
  pub values : (s : SetShape) (p : Part) → Contains (sets_of compilation node) s → IsPartOf w o path node.source.now s p → HasValue w o path node.source.now p.said (settle p.said)
  pub settled : AreSettledAs settle (sets_of compilation node) settings

-- what the expressions of the settings of each module settle to
pub record AllSettle (w : World) (o : Overrides) (compilation : Compilation) (all : List Settings) : Type 0 where
  pub settle : ℕ → Shape → Value
  pub each : (k : ℕ) (node : ModuleNode) (path : List Text) (settings : Settings) → HasNode w compilation k node → HasPath w (views w compilation) (nodes w compilation) k path → slice_get all k ≡ Some settings
      → AreOfWorld w o compilation path node (settle k) settings

-- where settings are known by the constants of the modules, with the texts that words give
abbrev pub SettingsStand : {A : Type 0} → BTreeMap ℕ (String A) → Type 0
SettingsStand overrides = (w : World) (compilation : Compilation) → IsNumberedWorld w compilation → (words : List Override) → AreGiven compilation words overrides
    → (variables : ModuleVariables) → AreVariables overrides compilation variables
    → (all : List Settings) → AreConstantly compilation variables.lists.items variables.reads.items variables.orders.items overrides all
    → AllSettle w (overrides_of words) compilation all
