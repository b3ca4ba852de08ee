-- The values of modules' settings, and the folders of their files.
use Rattle.std.specs.Prelude.{◌≡◌, ◌≢◌, ◌↔◌, ℕ, Bool, false, List, [], ◌∷◌, Option, Some, None, Ok, Err, String, flat_map, length, map, slice_get}
use Rattle.std.specs.Global.{Vec}
use Rattle.std.specs.BTreeMap.{BTreeMap}
use Rattle.std.specs.BTreeSet.{BTreeSet, contains}
use Rattle.std.specs.List.{filter_map}
use Rattle.std.specs.Option.{option_and_then, unwrap_or}
use Rattle.std.specs.Ordering.{nat_cmp}
use Rattle.just_text.specs.Tokens.{lexeme}
use Rattle.tree_attributes.specs.declared.setting.Setting.{Setting}
use Rattle.tree_attributes.specs.declared.setting.Setting.TheVariants.{Truth}
use Rattle.tree_attributes.specs.declared.truth_setting.TruthSetting.TheVariants.{Lists}
use Rattle.tree_items.specs.declared.ast.Item.{Item}
use Rattle.tree_items.specs.declared.ast.Item.TheVariants as items
use Rattle.tree_items.specs.declared.set.Set.{Set}
use Rattle.just_value.specs.Constants.{constant_rows}
use Rattle.just_value.specs.Frames.{BindsRows, Frames}
use Rattle.just_value.specs.Paths.{join, parent}
use Rattle.evaluate_context.specs.Refusals.{fault_of}
use Rattle.evaluate_context.specs.Defaults.{defaults}
use Rattle.evaluate_context.specs.declared.context.AssignmentRef.{AssignmentRef}
use Rattle.evaluate_context.specs.declared.error.Error as evaluations
use Rattle.evaluate_context.specs.declared.settings.Settings.{Settings}
use Rattle.meaning_dialogues.specs.Dialogue.{Reading}
use Rattle.meaning_dialogues.specs.Faults.{Fault, memory}
use Rattle.evaluate_variables.specs.Opened.{ordered}
use Rattle.evaluate_variables.specs.SettingValues.{IsRefusedFor, IsSet}
use Rattle.evaluate_variables.specs.Settled.{FailsIn, FindsConstants, reading_in}
use Rattle.evaluate_variables.specs.declared.const_evaluator.ConstEvaluator.{ConstEvaluator}
use Rattle.modules_compilation.specs.Places.{item_at}
use Rattle.modules_compilation.specs.declared.compilation.Compilation.{Compilation}
use Rattle.modules_compilation.specs.declared.module_node.ModuleNode.{ModuleNode}
use Rattle.modules_compilation.specs.declared.place.Place.{Place}
use Rattle.resolve_order.specs.Flooded.{AreReached}
use Rattle.resolve_order.specs.Needs.{rows}
use Rattle.resolve_references.specs.ItemReferences.{references_of_set}
use Rattle.resolve_references.specs.Places.{places_of}
use Rattle.resolve_references.specs.declared.read_fault.ReadFault.{ReadFault}
use Rattle.resolve_analysis.specs.Lists.{numbers_in}
use Rattle.resolve_analysis.specs.Unions.{Has, IsMarkedNumber}
use Rattle.resolve_analysis.specs.declared.known_values.KnownValues.{KnownValues}
use Rattle.resolve_analysis.specs.declared.module_lists.ModuleLists.{ModuleLists}
use Rattle.resolve_analysis.specs.declared.module_reads.ModuleReads.{ModuleReads}
use Rattle.just_resolve.specs.Faults.{constant_error, reading_error}
use Rattle.just_resolve.specs.Table.{first_of}
use Rattle.just_resolve.specs.Variables.{AreEach}
use Rattle.just_resolve.specs.declared.error.Error.{Error}

abbrev pub set_of : Option Item → Option Set
set_of (Some (items.Set set)) = Some set
set_of _ = None

abbrev pub set_at : Compilation → Place → Option Set
set_at compilation place = set_of (item_at compilation place)

-- the settings that stand at these places
abbrev pub sets_at : Compilation → List Place → List Set
sets_at compilation places = filter_map (set_at compilation) places

abbrev pub lists_of : Setting → Option Bool
lists_of (Truth Lists value) = Some value
lists_of setting = None

abbrev pub lists_at : Compilation → Place → Option Bool
lists_at compilation place = option_and_then (λ (set : Set). lists_of set.value) (set_at compilation place)

-- whether the first setting of lists at these places sets them
abbrev pub set_lists : Compilation → List Place → Bool
set_lists compilation places = unwrap_or (first_of (lists_at compilation) places) false

-- the numbers of the variables that the settings read, directly or through others; overridden ones are not looked into
pub record AreConstants (lists : ModuleLists) (reads : ModuleReads) (sets : List Set) (numbers : BTreeSet ℕ) : Type 0 where
  pub places : List ℕ
  pub read : places_of reads.resolver (flat_map references_of_set sets) ≡ Ok places
  pub marks : List (Option ℕ)
  pub reached : AreReached (rows reads.graph.items) reads.overridden.items places marks
  pub are : (number : ℕ) → Has numbers number ↔ IsMarkedNumber (numbers_in lists.assignments.items) marks number

module _ (reading : Reading) (lists : Bool) where
  -- the settings are set in order, from these values to those
  pub data AreSet : List Set → Settings → Settings → Type 0 where
    all_set : {settings : Settings} → AreSet [] settings settings
    one_set : {set : Set} {sets : List Set} {old between new : Settings} → IsSet reading lists (lexeme set.name.token) set.value old between → AreSet sets between new → AreSet (set ∷ sets) old new

  -- one of them is refused, all before it being set
  pub data AreNotSet : List Set → Settings → Fault → Type 0 where
    refused : {set : Set} {sets : List Set} {old : Settings} {fault : Fault} → IsRefusedFor reading lists (lexeme set.name.token) set.value fault → AreNotSet (set ∷ sets) old fault
    later : {set : Set} {sets : List Set} {old between : Settings} {fault : Fault} → IsSet reading lists (lexeme set.name.token) set.value old between → AreNotSet sets between fault → AreNotSet (set ∷ sets) old fault

module _ {A : Type 0} (constants : Frames) (overrides : BTreeMap ℕ (String A)) (compilation : Compilation) (places : List Place) where
  module _ (variables : List AssignmentRef) (order : List ℕ) (numbers : BTreeSet ℕ) where
    -- the variables of these numbers, as far as they are constants, are known, and with them the settings
    pub record AreSettledBy (settings : Settings) : Type 0 where
      pub known : ConstEvaluator
      pub found : FindsConstants (set_lists compilation places) constants overrides (contains nat_cmp numbers) (ordered variables order) (Ok known)
      pub set : AreSet (reading_in known) known.lists (sets_at compilation places) defaults settings

    -- such a variable means a fault, or a setting is no constant or has no value of its form
    pub data AreUnsettledBy (fault : Fault) : Type 0 where
      variable : FailsIn (set_lists compilation places) constants overrides (contains nat_cmp numbers) (ordered variables order) fault → AreUnsettledBy fault
      setting : (known : ConstEvaluator) → FindsConstants (set_lists compilation places) constants overrides (contains nat_cmp numbers) (ordered variables order) (Ok known)
          → AreNotSet (reading_in known) known.lists (sets_at compilation places) defaults fault → AreUnsettledBy fault

  module _ (lists : ModuleLists) (reads : ModuleReads) (order : List ℕ) where
    -- the settings by constants alone
    pub record AreSettled (settings : Settings) : Type 0 where
      pub numbers : BTreeSet ℕ
      pub read : AreConstants lists reads (sets_at compilation places) numbers
      pub settled : AreSettledBy lists.assignments.items order numbers settings

    -- a setting reads or calls what is not there, or settings are refused for want of memory or for a fault
    pub data AreUnsettled (error : Error) : Type 0 where
      reading : (fault : ReadFault) → places_of reads.resolver (flat_map references_of_set (sets_at compilation places)) ≡ Err fault → error ≡ reading_error fault → AreUnsettled error
      evaluated : (numbers : BTreeSet ℕ) (refusal : evaluations.Error) → AreConstants lists reads (sets_at compilation places) numbers → (fault_of refusal ≢ memory → AreUnsettledBy lists.assignments.items order numbers (fault_of refusal))
          → error ≡ constant_error refusal → AreUnsettled error

-- the folder of the file with a key: the parent of its path below the base
abbrev pub or_empty : Option (List ℕ) → List ℕ
or_empty (Some folder) = folder
or_empty None = []

abbrev pub folder_of : List ℕ → List ℕ → List ℕ
folder_of base key = or_empty (parent (join base key))

-- the constants of the language alone
pub record AreConstantFrames (constants : Frames) : Type 0 where
  pub bound : BindsRows constant_rows constants.own
  pub outer : constants.outer ≡ []

-- ---- of all modules

module _ {A : Type 0} (compilation : Compilation) (all_lists : List ModuleLists) (all_reads : List ModuleReads) (orders : List (Vec ℕ)) (overrides : BTreeMap ℕ (String A)) where
  -- the module at a place, what it keeps and reads, and the order of its variables
  pub record IsModuleAt (place : ℕ) (node : ModuleNode) (lists : ModuleLists) (reads : ModuleReads) (order : Vec ℕ) : Type 0 where
    pub node_there : slice_get compilation.modules.items place ≡ Some node
    pub lists_there : slice_get all_lists place ≡ Some lists
    pub reads_there : slice_get all_reads place ≡ Some reads
    pub order_there : slice_get orders place ≡ Some order

  abbrev pub AreSettledAt : Frames → ℕ → Settings → Type 0
  AreSettledAt constants place settings = (node : ModuleNode) (lists : ModuleLists) (reads : ModuleReads) (order : Vec ℕ) → IsModuleAt place node lists reads order
      → AreSettled constants overrides compilation node.sets.items lists reads order.items settings

  -- the settings of each module
  abbrev pub AllSettled : Frames → List Settings → Type 0
  AllSettled constants settings = AreEach (length compilation.modules.items) (AreSettledAt constants) settings

  -- those of one of the modules are refused
  pub record NotSettled (constants : Frames) (error : Error) : Type 0 where
    pub place : ℕ
    pub node : ModuleNode
    pub lists : ModuleLists
    pub reads : ModuleReads
    pub order : Vec ℕ
    pub at : IsModuleAt place node lists reads order
    pub unsettled : AreUnsettled constants overrides compilation node.sets.items lists reads order.items error

  -- as many as there are modules
  pub record AreMany : Type 0 where
    pub many_lists : length all_lists ≡ length compilation.modules.items
    pub many_reads : length all_reads ≡ length compilation.modules.items
    pub many_orders : length orders ≡ length compilation.modules.items

  -- the settings of each module by the constants of the language
  pub record AreConstantly (settings : List Settings) : Type 0 where
    pub constants : Frames
    pub language : AreConstantFrames constants
    pub settled : AllSettled constants settings

  -- those of one of the modules are refused
  pub record AreUnknown (error : Error) : Type 0 where
    pub constants : Frames
    pub language : AreConstantFrames constants
    pub refused : NotSettled constants error

-- the texts that words give, the settings of each module, and the folders of their files below the base
pub record AreKnown {A : Type 0} (compilation : Compilation) (lists : List ModuleLists) (reads : List ModuleReads) (orders : List (Vec ℕ)) (overrides : BTreeMap ℕ (String A)) (base : List ℕ) (known : KnownValues) : Type 0 where
  pub settings : AreConstantly compilation lists reads orders overrides known.settings.items
  pub folders : known.folders.items ≡ map (λ (node : ModuleNode). folder_of base node.source.now) compilation.modules.items
