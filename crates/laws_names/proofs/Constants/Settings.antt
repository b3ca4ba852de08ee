-- A setting that is set has an answer, and one that is refused has none.
use Rattle.std.proofs.Common.{◌≡◌, ℕ, List, [], ◌∷◌, map, Bool, Option, Some, Result, Ok, Err, sym, subst, ◌∙◌}
use Rattle.std.specs.Prelude.{Contains}
use Rattle.parse_expressions.specs.Literals.{from_file}
use Rattle.tree_attributes.specs.declared.setting.Interpreter.{Interpreter}
use Rattle.tree_attributes.specs.declared.setting.Setting.{Setting}
use Rattle.tree_attributes.specs.declared.setting.Setting.TheVariants.{DotenvCommand, DotenvFilename, DotenvPath, Indentation, MinimumVersion, ScriptInterpreter, Shell, Tempdir, Truth, WindowsShell, WorkingDirectory}
use Rattle.tree_expressions.specs.declared.expression.Expression.{Expression}
use Rattle.tree_expressions.specs.Shape.{shape_of}
use Rattle.parse_items.specs.Names.{setting_name}
use Rattle.resolve_references.specs.Seen.{Seen, seeing, seen_in_setting}
use Rattle.evaluate_variables.specs.SettingValues.{text_of, value_of, words_in}
use Rattle.meaning_dialogues.specs.Calls.{const_stage}
use Rattle.meaning_dialogues.specs.Constants.{constant, settled}
use Rattle.meaning_dialogues.specs.Dialogue.{Dialogue, Reading}
use Rattle.meaning_dialogues.specs.Evaluation.{Value, dialogue, dialogues, interpreter_dialogue, text_dialogue}
use Rattle.meaning_dialogues.specs.Faults.{Fault, memory, assertion_failed, not_constant, empty_interpreter, list_in_text_place, list_operation, pattern_left_out, command_failed, function_failed, too_deep, empty_argument, value_count, no_parent, internal, setting_of}
use Rattle.meaning_dialogues.specs.Meaning.{Meaning}
use Rattle.meaning_dialogues.specs.Terms.{term_of, terms_of}
use Rattle.meaning_rules.specs.Worlds.Given.{Overrides, Text, World}
use Rattle.meaning_rules.proofs.Worlds.Places.{contains_first, contains_later}
use Rattle.meaning_rules.specs.Constants.{IsGood, reading_of, said_by}
use Rattle.laws_names.specs.Constants.Settings.{IsKnown, RefusedOnesLack, SetOnesAnswer}
use Rattle.laws_names.proofs.Constants.Expressions.{expressions_settle}
use Rattle.laws_names.proofs.Constants.Forms.{AreSame, text_settled, words_settled}

module _ (w : World) (o : Overrides) (path : List Text) (own : Text) where
  no_good : (A : Type 0) (fault : Fault) → IsGood w o path own {A = A} (constant (Some (Err fault))) → ⊥
  no_good A memory h = h
  no_good A (assertion_failed a) h = h
  no_good A (not_constant a) h = h
  no_good A (empty_interpreter a) h = h
  no_good A (list_in_text_place a b) h = h
  no_good A (list_operation a b c) h = h
  no_good A (pattern_left_out a) h = h
  no_good A (command_failed a b) h = h
  no_good A (function_failed a b) h = h
  no_good A (too_deep a) h = h
  no_good A (empty_argument a b) h = h
  no_good A (value_count a b c) h = h
  no_good A (no_parent a) h = h
  no_good A (internal a) h = h

  -- what settles to a value is good, and what settles to a fault isn't
  good : {A : Type 0} (x y : Option (Result A Fault)) (a : A) → x ≡ y → x ≡ Some (Ok a) → IsGood w o path own (constant y)
  good x y a same is = subst (λ z. IsGood w o path own (constant z)) (sym is ∙ same) tt

  bad : {A : Type 0} (x y : Option (Result A Fault)) (fault : Fault) → x ≡ y → x ≡ Some (Err fault) → IsGood w o path own (constant y) → ⊥
  bad {A} x y fault same is h = no_good A fault (subst (λ z. IsGood w o path own (constant z)) (sym same ∙ is) h)

  module _ (file : Text) (number : Text → Option ℕ) (reading : Reading) (lists : Bool) (variables : Text → Meaning Value) (setting : Setting) (k : IsKnown w file number reading variables setting) where
    abbrev said : Expression → Dialogue Value
    said e = said_by w.expansion lists variables (shape_of e)

    abbrev by_number : Expression → Dialogue Value
    by_number e = dialogue (const_stage lists) (term_of e)

    value_same : (e : Expression) → Contains (seen_in_setting setting) (seeing [] e) → value_of reading lists e ≡ settled (reading_of variables) (said e)
    value_same e c = expressions_settle (from_file file w.expansion) number reading k.tells lists variables e (k.written (seeing [] e) c) (k.named (seeing [] e) c)

    text_same : (name : Text) (e : Expression) → Contains (seen_in_setting setting) (seeing [] e) → text_of reading lists name e ≡ settled (reading_of variables) (text_dialogue (setting_of name) (said e))
    text_same name e c = text_settled reading (reading_of variables) (setting_of name) (by_number e) (said e) (value_same e c)

    row_same : (es : List Expression) → ((s : Seen) → Contains (map (seeing []) es) s → Contains (seen_in_setting setting) s)
        → AreSame reading (reading_of variables) (dialogues (const_stage lists) (terms_of es)) (map (said_by w.expansion lists variables) (map shape_of es))
    row_same [] into = tt
    row_same (e ∷ es) into = (value_same e (into (seeing [] e) (contains_first (seeing [] e) (map (seeing []) es))), row_same es (λ s c. into s (contains_later (seeing [] e) (map (seeing []) es) s c)))

    words_same : (name : Text) (i : Interpreter Expression) → ((s : Seen) → Contains (map (seeing []) (i.command ∷ i.arguments.items)) s → Contains (seen_in_setting setting) s)
        → words_in reading lists name i ≡ settled (reading_of variables) (interpreter_dialogue name (map (said_by w.expansion lists variables) (map shape_of (i.command ∷ i.arguments.items))))
    words_same name i into = words_settled reading (reading_of variables) name (dialogues (const_stage lists) (terms_of (i.command ∷ i.arguments.items)))
        (map (said_by w.expansion lists variables) (map shape_of (i.command ∷ i.arguments.items))) (row_same (i.command ∷ i.arguments.items) into)

pub set_ones_answer : SetOnesAnswer
set_ones_answer w o path own file number reading lists variables (Truth which b) k old new h = tt
set_ones_answer w o path own file number reading lists variables (DotenvCommand e) k old new h = good w o path own _ _ h.0 (value_same w o path own file number reading lists variables (DotenvCommand e) k e (contains_first (seeing [] e) [])) h.1
set_ones_answer w o path own file number reading lists variables (DotenvFilename e) k old new h = good w o path own _ _ h.0 (value_same w o path own file number reading lists variables (DotenvFilename e) k e (contains_first (seeing [] e) [])) h.1
set_ones_answer w o path own file number reading lists variables (DotenvPath e) k old new h = good w o path own _ _ h.0 (value_same w o path own file number reading lists variables (DotenvPath e) k e (contains_first (seeing [] e) [])) h.1
set_ones_answer w o path own file number reading lists variables (Indentation s) k old new h = tt
set_ones_answer w o path own file number reading lists variables (MinimumVersion s) k old new h = tt
set_ones_answer w o path own file number reading lists variables (ScriptInterpreter i) k old new h = good w o path own _ _ _ (words_same w o path own file number reading lists variables (ScriptInterpreter i) k (setting_name (ScriptInterpreter i)) i (λ s c. c)) h.1
set_ones_answer w o path own file number reading lists variables (Shell i) k old new h = good w o path own _ _ _ (words_same w o path own file number reading lists variables (Shell i) k (setting_name (Shell i)) i (λ s c. c)) h.1
set_ones_answer w o path own file number reading lists variables (Tempdir e) k old new h = good w o path own _ _ h.0 (text_same w o path own file number reading lists variables (Tempdir e) k (setting_name (Tempdir e)) e (contains_first (seeing [] e) [])) h.1
set_ones_answer w o path own file number reading lists variables (WindowsShell i) k old new h = good w o path own _ _ _ (words_same w o path own file number reading lists variables (WindowsShell i) k (setting_name (WindowsShell i)) i (λ s c. c)) h.1
set_ones_answer w o path own file number reading lists variables (WorkingDirectory e) k old new h = good w o path own _ _ h.0 (text_same w o path own file number reading lists variables (WorkingDirectory e) k (setting_name (WorkingDirectory e)) e (contains_first (seeing [] e) [])) h.1

pub refused_ones_lack : RefusedOnesLack
refused_ones_lack w o path own file number reading lists variables (Truth which b) k fault h g = h
refused_ones_lack w o path own file number reading lists variables (DotenvCommand e) k fault h g = bad w o path own _ _ fault (value_same w o path own file number reading lists variables (DotenvCommand e) k e (contains_first (seeing [] e) [])) h g
refused_ones_lack w o path own file number reading lists variables (DotenvFilename e) k fault h g = bad w o path own _ _ fault (value_same w o path own file number reading lists variables (DotenvFilename e) k e (contains_first (seeing [] e) [])) h g
refused_ones_lack w o path own file number reading lists variables (DotenvPath e) k fault h g = bad w o path own _ _ fault (value_same w o path own file number reading lists variables (DotenvPath e) k e (contains_first (seeing [] e) [])) h g
refused_ones_lack w o path own file number reading lists variables (Indentation s) k fault h g = h
refused_ones_lack w o path own file number reading lists variables (MinimumVersion s) k fault h g = h
refused_ones_lack w o path own file number reading lists variables (ScriptInterpreter i) k fault h g = bad w o path own _ _ fault (words_same w o path own file number reading lists variables (ScriptInterpreter i) k (setting_name (ScriptInterpreter i)) i (λ s c. c)) h g
refused_ones_lack w o path own file number reading lists variables (Shell i) k fault h g = bad w o path own _ _ fault (words_same w o path own file number reading lists variables (Shell i) k (setting_name (Shell i)) i (λ s c. c)) h g
refused_ones_lack w o path own file number reading lists variables (Tempdir e) k fault h g = bad w o path own _ _ fault (text_same w o path own file number reading lists variables (Tempdir e) k (setting_name (Tempdir e)) e (contains_first (seeing [] e) [])) h g
refused_ones_lack w o path own file number reading lists variables (WindowsShell i) k fault h g = bad w o path own _ _ fault (words_same w o path own file number reading lists variables (WindowsShell i) k (setting_name (WindowsShell i)) i (λ s c. c)) h g
refused_ones_lack w o path own file number reading lists variables (WorkingDirectory e) k fault h g = bad w o path own _ _ fault (text_same w o path own file number reading lists variables (WorkingDirectory e) k (setting_name (WorkingDirectory e)) e (contains_first (seeing [] e) [])) h g
