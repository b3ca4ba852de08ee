-- What settings are set to by numbers, and what they answer by names.
use Rattle.std.specs.Prelude.{◌≡◌, ℕ, Bool, List, Option, Contains}
use Rattle.tree_attributes.specs.Settings.{value_shape}
use Rattle.tree_attributes.specs.declared.setting.Setting.{Setting}
use Rattle.tree_expressions.specs.Shape.{shape_of}
use Rattle.parse_expressions.specs.Literals.{from_file}
use Rattle.parse_items.specs.Names.{setting_name}
use Rattle.resolve_references.specs.Seen.{Seen, seen_in_setting}
use Rattle.evaluate_context.specs.declared.settings.Settings.{Settings}
use Rattle.evaluate_variables.specs.SettingValues.{IsRefusedFor, IsSet}
use Rattle.meaning_dialogues.specs.Dialogue.{Reading}
use Rattle.meaning_dialogues.specs.Evaluation.{Value}
use Rattle.meaning_dialogues.specs.Faults.{Fault}
use Rattle.meaning_dialogues.specs.Meaning.{Meaning}
use Rattle.laws_evaluation.specs.Terms.Own.{IsWrittenIn}
use Rattle.meaning_rules.specs.Worlds.Given.{Overrides, Text, World}
use Rattle.meaning_rules.specs.Constants.{HasAnswer}
use Rattle.meaning_rules.specs.Naming.{a_variable, occurrences}
use Rattle.laws_names.specs.Constants.Expressions.{TellsNames, known}

-- each expression of the setting is written in a file, with these numbers, which give for each name in it what the variable of the name means
pub record IsKnown (w : World) (file : Text) (number : Text → Option ℕ) (reading : Reading) (variables : Text → Meaning Value) (setting : Setting) : Type 0 where
  pub tells : TellsNames reading
  pub written : (s : Seen) → Contains (seen_in_setting setting) s → IsWrittenIn (from_file file w.expansion) number s.expression
  pub named : (s : Seen) → Contains (seen_in_setting setting) s → (name : Text) → Contains (occurrences (shape_of s.expression)) (a_variable name) → known reading number name ≡ variables name

-- a setting that is set has an answer
abbrev pub SetOnesAnswer : Type 0
SetOnesAnswer = (w : World) (o : Overrides) (path : List Text) (own file : Text) (number : Text → Option ℕ) (reading : Reading) (lists : Bool) (variables : Text → Meaning Value) (setting : Setting)
    → IsKnown w file number reading variables setting → (old new : Settings) → IsSet reading lists (setting_name setting) setting old new
    → HasAnswer w o path own lists variables (setting_name setting) (value_shape setting)

-- one that is refused has none
abbrev pub RefusedOnesLack : Type 0
RefusedOnesLack = (w : World) (o : Overrides) (path : List Text) (own file : Text) (number : Text → Option ℕ) (reading : Reading) (lists : Bool) (variables : Text → Meaning Value) (setting : Setting)
    → IsKnown w file number reading variables setting → (fault : Fault) → IsRefusedFor reading lists (setting_name setting) setting fault
    → HasAnswer w o path own lists variables (setting_name setting) (value_shape setting) → ⊥
