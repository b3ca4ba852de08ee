-- What the constants of a module mean that are found one after another.
use Rattle.std.specs.Prelude.{◌∷◌, ℕ, Bool, false, List, Option, Some, None, Err, String}
use Rattle.std.specs.BTreeMap.{BTreeMap}
use Rattle.tree_items.specs.declared.set.Set.{Set}
use Rattle.just_value.specs.Frames.{BoundRow, Frames}
use Rattle.just_value.specs.declared.positional.Override.{Override}
use Rattle.evaluate_context.specs.declared.context.AssignmentRef.{AssignmentRef}
use Rattle.evaluate_variables.specs.Opened.{ordered, overridden}
use Rattle.evaluate_variables.specs.Settled.{const_reading}
use Rattle.modules_compilation.specs.declared.compilation.Compilation.{Compilation}
use Rattle.modules_compilation.specs.declared.module_node.ModuleNode.{ModuleNode}
use Rattle.resolve_analysis.specs.Bound.{bindings_of}
use Rattle.meaning_dialogues.specs.Calls.{Frame, empty}
use Rattle.meaning_dialogues.specs.Faults.{Fault}
use Rattle.meaning_evaluation.specs.Stages.Assigned.{Settles}
use Rattle.meaning_rules.specs.Worlds.Given.{Text, World}
use Rattle.meaning_rules.specs.Constants.{AreLists, IsReadBySettings, Means}
use Rattle.meaning_rules.specs.Overrides.{overrides_of}
use Rattle.laws_names.specs.Constants.Expressions.{known}
use Rattle.laws_names.specs.Constants.Sought.{AreOfLanguage, AreSought, IsSettledModule}

module _ {A : Type 0} (w : World) (compilation : Compilation) (node : ModuleNode) (path : List Text) (words : List Override) (overrides : BTreeMap ℕ (String A)) (variables : List AssignmentRef) (order : List ℕ) (is_read : ℕ → Bool)
    (constants : Frames) (lists : Bool) where
  abbrev pub around_constants : List (List BoundRow)
  around_constants = constants.own ∷ constants.outer

  -- the variables settle in the order, in a frame inside the constants of the language
  abbrev pub SettlesAll : Frame → (ℕ → Bool) → Option Fault → Type 0
  SettlesAll frame excluded fault = Settles lists (const_reading around_constants) (overridden overrides) is_read (ordered variables order) empty (λ number. false) frame excluded fault

  abbrev pub IsReadThere : Text → Type 0
  IsReadThere name = IsReadBySettings w (overrides_of words) path node.source.now name

  -- each variable that the settings read means what is found for its name, and no fault
  pub record AreMeant (frame : Frame) (excluded : ℕ → Bool) : Type 0 where
    pub means : (name : Text) → IsReadThere name → Means w (overrides_of words) path node.source.now name (known (const_reading around_constants frame excluded) (bindings_of compilation node) name)
    pub faultless : (name : Text) (fault : Fault) → IsReadThere name → Means w (overrides_of words) path node.source.now name (Some (Err fault)) → ⊥

  -- the fault is what a variable means that the settings read
  abbrev pub IsMeant : Fault → Type 0
  IsMeant fault = (name : Text) × IsReadThere name × Means w (overrides_of words) path node.source.now name (Some (Err fault))

-- where they settle without a fault, they mean what is found; and a fault is that of one of them
pub record VariablesMean {A : Type 0} (w : World) (compilation : Compilation) (node : ModuleNode) (path : List Text) (words : List Override) (overrides : BTreeMap ℕ (String A)) (variables : List AssignmentRef) (order : List ℕ) (is_read : ℕ → Bool)
    (constants : Frames) (lists : Bool) : Type 0 where
  pub settled : (frame : Frame) (excluded : ℕ → Bool) → SettlesAll w compilation node path words overrides variables order is_read constants lists frame excluded None
      → AreMeant w compilation node path words overrides variables order is_read constants lists frame excluded
  pub failed : (frame : Frame) (excluded : ℕ → Bool) (fault : Fault) → SettlesAll w compilation node path words overrides variables order is_read constants lists frame excluded (Some fault)
      → IsMeant w compilation node path words overrides variables order is_read constants lists fault

abbrev pub ConstantsMean : {A : Type 0} → BTreeMap ℕ (String A) → Type 0
ConstantsMean overrides = (w : World) (compilation : Compilation) (k : ℕ) (node : ModuleNode) (path : List Text) → IsSettledModule w compilation k node path
    → (words : List Override) (variables : List AssignmentRef) (order : List ℕ) (sets : List Set) (is_read : ℕ → Bool) → AreSought compilation node words overrides variables order sets is_read
    → (constants : Frames) → AreOfLanguage constants → (lists : Bool) → AreLists w (overrides_of words) path node.source.now lists
    → VariablesMean w compilation node path words overrides variables order is_read constants lists
