-- What modules keep, and why they are refused.
use Rattle.std.specs.Prelude.{◌≡◌, ◌≢◌, ◌⊎◌, ◌<◌, ℕ, Bool, List, [], Some, None, drop, take, length, slice_get}
use Rattle.std.specs.BTreeMap.{BTreeMap}
use Rattle.std.specs.declared.string.String.{String}
use Rattle.just_text.specs.Numbers.{Numbers}
use Rattle.just_text.specs.declared.os.Os.{Os}
use Rattle.parse_expressions.specs.Literals.{Expansion}
use Rattle.semver.specs.declared.Version.{Version}
use Rattle.modules_compilation.specs.declared.compilation.Compilation.{Compilation}
use Rattle.modules_compilation.specs.declared.error.Error.{Error}
use Rattle.modules_compilation.specs.declared.error.Error.TheVariants.{OutOfMemory}
use Rattle.modules_compilation.specs.declared.module_node.File.{File}
use Rattle.modules_compilation.specs.declared.module_node.ModuleNode.{ModuleNode}
use Rattle.modules_definitions.specs.Defining.{AreDefinitions, Stands}
use Rattle.modules_definitions.specs.Gathering.{AreApart, HaveOwnItems}
use Rattle.modules_definitions.specs.Keeping.{AreInOrder, AreKept, IsDuplicate, refusal_of}
use Rattle.modules_definitions.specs.Lists.{Gains}
use Rattle.modules_definitions.specs.declared.definition.Definition.{Definition}
use Rattle.modules_definitions.specs.declared.file_range.FileRange.{FileRange}
use Rattle.modules_definitions.specs.declared.keep.Allowed.{Allowed}
use Rattle.modules_sources.specs.Loaded.{AreLoaded}
use Rattle.just_modules.specs.Exports.{export_refusal, first_unexported}
use Rattle.just_modules.specs.ItemRules.{BreaksFiles}
use Rattle.meaning_rules.specs.Told.{IsNamedBy}
use Rattle.just_modules.specs.Settings.{allowed_by, truths_of}
use Rattle.just_modules.specs.declared.truths.Truths.{Truths}
use Rattle.meaning_rules.specs.Worlds.Given.{World}
use Rattle.meaning_rules.specs.Rules.{Rule}

-- memory ran out, or this is so
abbrev pub OrMemory : (Error → Type 0) → Error → Type 0
OrMemory IsSo error = (error ≡ OutOfMemory) ⊎ IsSo error

-- the files of the range, as far as there are such
abbrev pub files_of : List File → FileRange → List File
files_of files range = drop range.first (take range.end files)

-- those that a module takes
abbrev pub range_of : ModuleNode → FileRange
range_of node = record { first = node.first_file; end = node.end_file }

module _ (files : List File) (allowed : Allowed) (definitions : List Definition) where
  -- no variable is exported although its name is not to be, and no name has a second definition that may have one
  pub record AreClear : Type 0 where
    pub exported : first_unexported files definitions ≡ None
    pub single : (second : Definition) → IsDuplicate allowed definitions second → ⊥

  -- the first variable that is exported although its name is not to be is refused, or else a second definition
  pub data AreRefused : Error → Type 0 where
    export : {d : Definition} → first_unexported files definitions ≡ Some d → AreRefused (export_refusal d)
    duplicate : {second : Definition} → first_unexported files definitions ≡ None → IsDuplicate allowed definitions second → AreRefused (refusal_of second)

module _ (os : Os) (unstable : Bool) (files : List File) where
  module _ (range : FileRange) where
    -- what the settings in the files of the range say
    abbrev pub truths_in : Truths
    truths_in = truths_of os unstable (files_of files range)

    -- an item of these files breaks the rule
    abbrev pub BreaksRange : World → Rule → Type 0
    BreaksRange w rule = BreaksFiles w truths_in (files_of files range) rule

    -- none does
    abbrev pub IsWhole : Type 0
    IsWhole = (w : World) (rule : Rule) → w.os ≡ os → BreaksRange w rule → ⊥

    -- of these definitions those are kept; no rule is broken, neither by an item nor by a definition
    pub record AreKeptOf (definitions kept : List Definition) : Type 0 where
      pub whole : IsWhole
      pub clear : AreClear files (allowed_by truths_in) definitions
      pub are : AreKept definitions kept

    -- the refusal names a rule that an item breaks, or else a definition
    pub data AreRefusedIn (definitions : List Definition) : Error → Type 0 where
      by_item : {error : Error} → ((w : World) → w.os ≡ os → IsNamedBy (BreaksRange w) error) → AreRefusedIn definitions error
      by_definition : {error : Error} → IsWhole → AreRefused files (allowed_by truths_in) definitions error → AreRefusedIn definitions error

  module _ (modules : List ModuleNode) where
    -- these are the definitions of the module, in order, and apart where its submodules have items of their own
    pub record AreDefinitionsOf (node : ModuleNode) (definitions : List Definition) : Type 0 where
      pub each : AreDefinitions (Stands os files (range_of node) modules node.submodules.items) definitions
      pub order : AreInOrder definitions
      pub apart : HaveOwnItems files modules node.submodules.items → AreApart definitions

    -- the module keeps these
    pub record Keeps (node : ModuleNode) (kept : List Definition) : Type 0 where
      pub definitions : List Definition
      pub are : AreDefinitionsOf node definitions
      pub keeps : AreKeptOf (range_of node) definitions kept

    -- the module is refused
    pub record IsRefused (node : ModuleNode) (error : Error) : Type 0 where
      pub definitions : List Definition
      pub are : AreDefinitionsOf node definitions
      pub refused : AreRefusedIn (range_of node) definitions error

    -- the module's lists gain what it keeps; that of its submodules begins anew
    pub record IsFilled (before after : ModuleNode) : Type 0 where
      pub kept : List Definition
      pub keeps : Keeps before kept
      pub gains : Gains [] before after kept

-- the modules but for the one at the place are as they were, and that is so
pub record IsChangedAt (place : ℕ) (IsSo : ModuleNode → ModuleNode → Type 0) (before after : List ModuleNode) : Type 0 where
  pub count : length after ≡ length before
  pub others : (k : ℕ) → k ≢ place → slice_get after k ≡ slice_get before k
  pub changed : (node : ModuleNode) → slice_get before place ≡ Some node → (new : ModuleNode) × (slice_get after place ≡ Some new) × IsSo node new

module _ (os : Os) (unstable : Bool) where
  -- the module at a place is refused, and each before it keeps what it defines
  pub record IsFirstRefused (compilation : Compilation) (error : Error) : Type 0 where
    pub place : ℕ
    pub node : ModuleNode
    pub found : slice_get compilation.modules.items place ≡ Some node
    pub earlier : (k : ℕ) (other : ModuleNode) → k < place → slice_get compilation.modules.items k ≡ Some other → (kept : List Definition) × Keeps os unstable compilation.files.items compilation.modules.items other kept
    pub refused : IsRefused os unstable compilation.files.items compilation.modules.items node error

  -- the files are as they were, and each module's lists gain what it keeps
  pub record AreFilled (before after : Compilation) : Type 0 where
    pub files : after.files.items ≡ before.files.items
    pub count : length after.modules.items ≡ length before.modules.items
    pub each : (k : ℕ) (node : ModuleNode) → slice_get before.modules.items k ≡ Some node
        → (filled : ModuleNode) × (slice_get after.modules.items k ≡ Some filled) × IsFilled os unstable before.files.items before.modules.items node filled

  -- the compilation comes of one that was loaded
  abbrev pub IsSettled : {Y Z : Type 0} → BTreeMap (String Y) (String Z) → Expansion → Version → Numbers → Bool → List ℕ → Compilation → Type 0
  IsSettled sources expansion version start is_read root compilation = (loaded : Compilation) × AreLoaded sources expansion version os start is_read root loaded × AreFilled loaded compilation

  -- no rule on items is broken in a module
  abbrev pub AreWhole : Compilation → Type 0
  AreWhole compilation = (k : ℕ) (node : ModuleNode) → slice_get compilation.modules.items k ≡ Some node → IsWhole os unstable compilation.files.items (range_of node)
