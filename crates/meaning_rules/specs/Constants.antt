-- The rule on constants: what variables and settings mean before anything runs.
use Rattle.std.specs.Prelude.{◌≡◌, ◌↔◌, ◌⊎◌, ℕ, Bool, true, List, ◌∷◌, map, Option, Some, None, Result, Ok, Err, codes, cond, Contains, bytes_eq, []}
use Rattle.tree_attributes.specs.Attributes.{AttributeShape}
use Rattle.tree_attributes.specs.Settings.{SetShape, ValueShape, expression, interpreter}
use Rattle.tree_expressions.specs.Cooking.{command}
use Rattle.tree_expressions.specs.Shape.{Shape}
use Rattle.parse_expressions.specs.Literals.{Expansion}
use Rattle.just_value.specs.Constants.{constant_rows}
use Rattle.modules_compilation.specs.Tables.{at}
use Rattle.tree_items.specs.Files.{assignment_item, set_item}
use Rattle.tree_items.specs.Items.{AssignmentShape}
use Rattle.meaning_dialogues.specs.Faults.{Fault, not_constant, setting_of}
use Rattle.meaning_dialogues.specs.Faults as faults
use Rattle.meaning_dialogues.specs.Dialogue.{Dialogue, Reading}
use Rattle.meaning_dialogues.specs.Evaluation.{Value, dialogue, text_dialogue, interpreter_dialogue}
use Rattle.meaning_dialogues.specs.Calls.{const_stage}
use Rattle.meaning_dialogues.specs.Constants.{settled, constant}
use Rattle.meaning_dialogues.specs.Meaning.{Meaning}
use Rattle.meaning_dialogues.specs.Written.{term_in, unnumbered}
use Rattle.meaning_rules.specs.Worlds.Given.{Text, World, Overrides}
use Rattle.meaning_rules.specs.Fixed.{value_of}
use Rattle.meaning_rules.specs.Worlds.Keeping.{a_setting, a_variable, Defines, IsDefined, IsOn, Keeps}
use Rattle.meaning_rules.specs.Naming.{Part, occurrences}
use Rattle.meaning_rules.specs.Naming as naming
use Rattle.meaning_rules.specs.Overriding.{IsOverriddenBy}
use Rattle.meaning_rules.specs.Reading as reading

-- ---- what variables and expressions mean

-- what a variable gives by what it means: a value, a fault, or none, which is not constant
abbrev pub as_read : Text → Meaning Value → Result Value Fault
as_read name None = Err (not_constant (faults.a_variable name))
as_read name (Some result) = result

abbrev pub reading_of : (Text → Meaning Value) → Reading
reading_of variables place variable = as_read variable.name (variables variable.name)

module _ (expansion : Expansion) (lists : Bool) (variables : Text → Meaning Value) where
  -- what a dialogue means
  abbrev pub meant : {A : Type 0} → Dialogue A → Option (Result A Fault)
  meant d = constant (settled (reading_of variables) d)

  -- what an expression says; no constant looks at a number, or at the file of a call
  abbrev pub said_by : Shape → Dialogue Value
  said_by e = dialogue (const_stage lists) (term_in expansion [] unnumbered e)

-- of the module at a path, which has this file as its own
module _ (w : World) (overrides : Overrides) (path : List Text) (own : Text) where
  -- whether lists are on
  abbrev pub AreLists : Bool → Type 0
  AreLists lists = (lists ≡ true) ↔ IsOn w own (codes "lists")

  -- What a variable means: its override as one element, else what its right side means, where the variables that this names mean what they mean; a constant its text.
  pub data Means : Text → Meaning Value → Type 0 where
    by_override : {name text : Text} → IsOverriddenBy w overrides path own name text → Means name (Some (Ok (text ∷ [])))
    by_side : {name : Text} {attributes : List AttributeShape} {a : AssignmentShape} {lists : Bool}
        → ((text : Text) → IsOverriddenBy w overrides path own name text → ⊥) → Keeps w own a_variable name (assignment_item attributes a) → AreLists lists
        → (variables : Text → Meaning Value) → ((other : Text) → Contains (occurrences a.value) (naming.a_variable other) → Means other (variables other))
        → Means name (meant w.expansion lists variables (said_by w.expansion lists variables a.value))
    by_constant : {name text : Text} → (IsDefined w own a_variable name → ⊥) → at constant_rows name ≡ Some text → Means name (Some (Ok (text ∷ [])))

  -- a setting of the module that is not dropped
  pub record HasSetting (s : SetShape) : Type 0 where
    pub key : Text
    pub place : ℕ
    pub attributes : List AttributeShape
    pub defines : Defines w own a_setting s.name key place (set_item attributes s)

  abbrev pub IsPartOf : SetShape → Part → Type 0
  IsPartOf s p = Contains (naming.parts_of_value (value_of w.expansion) s.value) p

  -- these settings are one text
  abbrev pub is_one_text : Text → Bool
  is_one_text name = cond (bytes_eq name (codes "tempdir")) true (bytes_eq name (codes "working-directory"))

  abbrev pub IsGood : {A : Type 0} → Option (Result A Fault) → Type 0
  IsGood (Some (Ok value)) = Unit {0}
  IsGood other = ⊥

  -- an expression is a value, and in some settings one text; an interpreter has a first element
  abbrev pub HasAnswer : Bool → (Text → Meaning Value) → Text → ValueShape → Type 0
  HasAnswer lists variables name (expression e) =
      cond (is_one_text name)
      (IsGood (meant w.expansion lists variables (text_dialogue (setting_of name) (said_by w.expansion lists variables e))))
      (IsGood (meant w.expansion lists variables (said_by w.expansion lists variables e)))
  HasAnswer lists variables name (interpreter i) =
      IsGood (meant w.expansion lists variables (interpreter_dialogue name (map (said_by w.expansion lists variables) (i.command ∷ i.arguments))))
  HasAnswer lists variables name other = Unit {0}

  -- an expression of a setting has this value, where the variables that it names mean what they mean
  pub record HasValue (e : Shape) (value : Value) : Type 0 where
    pub lists : Bool
    pub are_lists : AreLists lists
    pub variables : Text → Meaning Value
    pub mean : (other : Text) → Contains (occurrences e) (naming.a_variable other) → Means other (variables other)
    pub is : meant w.expansion lists variables (said_by w.expansion lists variables e) ≡ Some (Ok value)

  -- The setting's answer is no value (a fault, or not constant), or not of its form. What variables that it names mean counts where it is reached.
  pub record LacksAnswer (s : SetShape) : Type 0 where
    pub lists : Bool
    pub are_lists : AreLists lists
    pub variables : Text → Meaning Value
    pub mean : (p : Part) (other : Text) → IsPartOf s p → Contains (occurrences p.said) (naming.a_variable other) → Means other (variables other)
    pub bad : HasAnswer lists variables s.name s.value → ⊥

  -- the settings read a variable, directly, through functions or through others; those that are overridden are not looked into
  pub data IsReadBySettings : Text → Type 0 where
    directly : {s : SetShape} {p : Part} {name : Text} → HasSetting s → IsPartOf s p → reading.PartReads w own p name → IsReadBySettings name
    through : {name other : Text} → IsReadBySettings name → ((text : Text) → IsOverriddenBy w overrides path own name text → ⊥) → reading.KeptReads w own name other → IsReadBySettings other

  -- a setting has no answer, or a variable that the settings read means a fault
  abbrev pub BreaksConstants : Type 0
  BreaksConstants = ((s : SetShape) × HasSetting s × LacksAnswer s) ⊎ ((name : Text) × (fault : Fault) × IsReadBySettings name × Means name (Some (Err fault)))
