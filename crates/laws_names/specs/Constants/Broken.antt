-- Where the rule on constants is broken.
use Rattle.std.specs.Prelude.{ℕ, Bool, List, Ok, String, Contains}
use Rattle.std.specs.BTreeMap.{BTreeMap}
use Rattle.just_text.specs.Tokens.{lexeme}
use Rattle.tree_items.specs.Items.{set_shape}
use Rattle.tree_items.specs.declared.set.Set.{Set}
use Rattle.just_value.specs.Frames.{Frames}
use Rattle.just_value.specs.declared.positional.Override.{Override}
use Rattle.evaluate_context.specs.declared.context.AssignmentRef.{AssignmentRef}
use Rattle.evaluate_context.specs.declared.settings.Settings.{Settings}
use Rattle.evaluate_variables.specs.Opened.{ordered}
use Rattle.evaluate_variables.specs.SettingValues.{IsRefusedFor, IsSet}
use Rattle.evaluate_variables.specs.Settled.{FailsIn, FindsConstants, reading_in}
use Rattle.evaluate_variables.specs.declared.const_evaluator.ConstEvaluator.{ConstEvaluator}
use Rattle.modules_compilation.specs.declared.compilation.Compilation.{Compilation}
use Rattle.modules_compilation.specs.declared.module_node.ModuleNode.{ModuleNode}
use Rattle.meaning_dialogues.specs.Faults.{Fault}
use Rattle.meaning_rules.specs.Worlds.Given.{Text, World}
use Rattle.meaning_rules.specs.Constants.{AreLists, BreaksConstants, HasSetting, LacksAnswer}
use Rattle.meaning_rules.specs.Overrides.{overrides_of}
use Rattle.laws_names.specs.Constants.Sought.{AreOfLanguage, AreSought, IsSettledModule}

-- ---- one setting

module _ {A : Type 0} (w : World) (compilation : Compilation) (k : ℕ) (node : ModuleNode) (path : List Text) (words : List Override) (overrides : BTreeMap ℕ (String A)) (variables : List AssignmentRef) (order : List ℕ) (sets : List Set)
    (is_read : ℕ → Bool) (constants : Frames) (lists : Bool) where
  -- how constants of a module are found
  pub record AreFoundIn : Type 0 where
    pub module' : IsSettledModule w compilation k node path
    pub sought : AreSought compilation node words overrides variables order sets is_read
    pub language : AreOfLanguage constants
    pub lists_are : AreLists w (overrides_of words) path node.source.now lists

  abbrev pub Finds : ConstEvaluator → Type 0
  Finds known = FindsConstants lists constants overrides is_read (ordered variables order) (Ok known)

  abbrev pub SetsOne : ConstEvaluator → Set → Type 0
  SetsOne known s = (old : Settings) × (new : Settings) × IsSet (reading_in known) known.lists (lexeme s.name.token) s.value old new

  abbrev pub RefusesOne : ConstEvaluator → Set → Type 0
  RefusesOne known s = (fault : Fault) × IsRefusedFor (reading_in known) known.lists (lexeme s.name.token) s.value fault

  -- a setting that is set, once constants are found, lacks no answer; one that is refused does
  pub record SettingsAnswer : Type 0 where
    pub set : (known : ConstEvaluator) → Finds known → (s : Set) → Contains sets s → SetsOne known s → LacksAnswer w (overrides_of words) path node.source.now (set_shape s) → ⊥
    pub refused : (known : ConstEvaluator) → Finds known → (s : Set) → Contains sets s → RefusesOne known s
        → HasSetting w (overrides_of words) path node.source.now (set_shape s) × LacksAnswer w (overrides_of words) path node.source.now (set_shape s)

  -- Where constants are found and all settings are set, the rule is not broken; it is where a variable fails or a setting is refused.
  pub record ConstantsAreTold : Type 0 where
    pub clear : (known : ConstEvaluator) → Finds known → ((s : Set) → Contains sets s → SetsOne known s) → BreaksConstants w (overrides_of words) path node.source.now → ⊥
    pub failed : (fault : Fault) → FailsIn lists constants overrides is_read (ordered variables order) fault → BreaksConstants w (overrides_of words) path node.source.now
    pub refused : (known : ConstEvaluator) → Finds known → (s : Set) → Contains sets s → RefusesOne known s → BreaksConstants w (overrides_of words) path node.source.now

abbrev pub FoundSettingsAnswer : {A : Type 0} → BTreeMap ℕ (String A) → Type 0
FoundSettingsAnswer overrides = (w : World) (compilation : Compilation) (k : ℕ) (node : ModuleNode) (path : List Text) (words : List Override) (variables : List AssignmentRef) (order : List ℕ) (sets : List Set)
    (is_read : ℕ → Bool) (constants : Frames) (lists : Bool) → AreFoundIn w compilation k node path words overrides variables order sets is_read constants lists
    → SettingsAnswer w compilation k node path words overrides variables order sets is_read constants lists

abbrev pub FoundConstantsAreTold : {A : Type 0} → BTreeMap ℕ (String A) → Type 0
FoundConstantsAreTold overrides = (w : World) (compilation : Compilation) (k : ℕ) (node : ModuleNode) (path : List Text) (words : List Override) (variables : List AssignmentRef) (order : List ℕ) (sets : List Set)
    (is_read : ℕ → Bool) (constants : Frames) (lists : Bool) → AreFoundIn w compilation k node path words overrides variables order sets is_read constants lists
    → ConstantsAreTold w compilation k node path words overrides variables order sets is_read constants lists
