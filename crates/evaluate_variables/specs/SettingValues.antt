-- What settings are set to.
use Rattle.std.specs.Prelude.{◌≡◌, ◌≢◌, ℕ, false, Bool, List, ◌∷◌, MatchOption, Option, Some, Result, Ok, Err}
use Rattle.tree_expressions.specs.declared.expression.Expression.{Expression}
use Rattle.tree_attributes.specs.declared.setting.Interpreter.{Interpreter}
use Rattle.tree_attributes.specs.declared.setting.Setting.{Setting}
use Rattle.tree_attributes.specs.declared.setting.Setting.TheVariants.{DotenvCommand, DotenvFilename, DotenvPath, Indentation, MinimumVersion, ScriptInterpreter, Shell, Tempdir, Truth, WindowsShell, WorkingDirectory}
use Rattle.tree_attributes.specs.declared.truth_setting.TruthSetting.{TruthSetting}
use Rattle.tree_attributes.specs.declared.truth_setting.TruthSetting.TheVariants.{AllowDuplicateRecipes, AllowDuplicateVariables, DefaultList, DefaultScript, DotenvLoad, DotenvOverride, DotenvRequired, Export, Fallback, Guards, IgnoreComments, Lazy, Lists, NoCd, NoExitMessage, PositionalArguments, Quiet, ShareSubsequents, Unstable, WindowsPowershell}
use Rattle.tree_attributes.specs.Sets.Indentations.{is_indentation}
use Rattle.evaluate_context.specs.Refusals.{fault_of}
use Rattle.evaluate_context.specs.declared.error.Error.{Error}
use Rattle.evaluate_context.specs.declared.settings.Settings.{Settings}
use Rattle.evaluate_expressions.specs.Interpreters.{words_of}
use Rattle.meaning_dialogues.specs.Calls.{const_stage}
use Rattle.meaning_dialogues.specs.Constants.{settled}
use Rattle.meaning_dialogues.specs.Dialogue.{Reading}
use Rattle.meaning_dialogues.specs.Evaluation.{Value, dialogue, dialogues, interpreter_dialogue, text_dialogue}
use Rattle.meaning_dialogues.specs.Faults.{Fault, memory, setting_of}
use Rattle.meaning_dialogues.specs.Terms.{term_of, terms_of}

-- the settings with a truth value
abbrev pub with_truth : TruthSetting → Bool → Settings → Settings
with_truth AllowDuplicateRecipes b s = record s { allow_duplicate_recipes = b }
with_truth AllowDuplicateVariables b s = record s { allow_duplicate_variables = b }
with_truth DefaultList b s = record s { default_list = b }
with_truth DefaultScript b s = record s { default_script = b }
with_truth DotenvLoad b s = record s { dotenv_load = b }
with_truth DotenvOverride b s = record s { dotenv_override = b }
with_truth DotenvRequired b s = record s { dotenv_required = b }
with_truth Export b s = record s { export = b }
with_truth Fallback b s = record s { fallback = b }
with_truth Guards b s = record s { guards = b }
with_truth IgnoreComments b s = record s { ignore_comments = b }
with_truth Lazy b s = record s { lazy = b }
with_truth Lists b s = record s { lists = b }
with_truth NoCd b s = record s { no_cd = b }
with_truth NoExitMessage b s = record s { no_exit_message = b }
with_truth PositionalArguments b s = record s { positional_arguments = b }
with_truth Quiet b s = record s { quiet = b }
with_truth ShareSubsequents b s = record s { share_subsequents = b }
with_truth Unstable b s = record s { unstable = b }
with_truth WindowsPowershell b s = record s { windows_powershell = b }

module _ (reading : Reading) (lists : Bool) where
  -- what an expression settles to
  abbrev pub value_of : Expression → Option (Result Value Fault)
  value_of e = settled reading (dialogue (const_stage lists) (term_of e))

  -- a value is set, or refused for what it is refused for, or for want of memory; then nothing changes
  abbrev pub ValueSets : Expression → Value → Value → Result (Unit {0}) Error → Type 0
  ValueSets e old new (Ok done) = value_of e ≡ Some (Ok new)
  ValueSets e old new (Err error) = (new ≡ old) × (fault_of error ≢ memory → value_of e ≡ Some (Err (fault_of error)))

-- of the setting with a name: what its one text and its words settle to
module _ (reading : Reading) (lists : Bool) (name : List ℕ) where
  abbrev pub text_of : Expression → Option (Result (List ℕ) Fault)
  text_of e = settled reading (text_dialogue (setting_of name) (dialogue (const_stage lists) (term_of e)))

  abbrev pub words_in : Interpreter Expression → Option (Result (List ℕ × List (List ℕ)) Fault)
  words_in i = settled reading (interpreter_dialogue name (dialogues (const_stage lists) (terms_of (i.command ∷ i.arguments.items))))

  -- the new settings are the old ones with what the item says
  abbrev pub IsSet : Setting → Settings → Settings → Type 0
  IsSet (Truth which b) old new = new ≡ with_truth which b old
  IsSet (DotenvCommand e) old new = (value : Value) × (value_of reading lists e ≡ Some (Ok value)) × (new ≡ record old { dotenv_command = value })
  IsSet (DotenvFilename e) old new = (value : Value) × (value_of reading lists e ≡ Some (Ok value)) × (new ≡ record old { dotenv_filename = value })
  IsSet (DotenvPath e) old new = (value : Value) × (value_of reading lists e ≡ Some (Ok value)) × (new ≡ record old { dotenv_path = value })
  IsSet (ScriptInterpreter i) old new = (words : Interpreter (List ℕ)) × (words_in i ≡ Some (Ok (words_of words))) × (new ≡ record old { script_interpreter = Some words })
  IsSet (Shell i) old new = (words : Interpreter (List ℕ)) × (words_in i ≡ Some (Ok (words_of words))) × (new ≡ record old { shell = Some words })
  IsSet (WindowsShell i) old new = (words : Interpreter (List ℕ)) × (words_in i ≡ Some (Ok (words_of words))) × (new ≡ record old { windows_shell = Some words })
  IsSet (Tempdir e) old new = (text : List ℕ) × (text_of e ≡ Some (Ok text)) × (new ≡ record old { tempdir = Some text })
  IsSet (WorkingDirectory e) old new = (text : List ℕ) × (text_of e ≡ Some (Ok text)) × (new ≡ record old { working_directory = Some text })
  IsSet (Indentation s) old new = MatchOption new.indentation (is_indentation s.cooked ≡ false) (λ i. i.text.now ≡ s.cooked) × (new ≡ record old { indentation = new.indentation })
  IsSet (MinimumVersion s) old new = new ≡ old

  -- what the item says is refused for this
  abbrev pub IsRefusedFor : Setting → Fault → Type 0
  IsRefusedFor (Truth which b) fault = ⊥
  IsRefusedFor (DotenvCommand e) fault = value_of reading lists e ≡ Some (Err fault)
  IsRefusedFor (DotenvFilename e) fault = value_of reading lists e ≡ Some (Err fault)
  IsRefusedFor (DotenvPath e) fault = value_of reading lists e ≡ Some (Err fault)
  IsRefusedFor (ScriptInterpreter i) fault = words_in i ≡ Some (Err fault)
  IsRefusedFor (Shell i) fault = words_in i ≡ Some (Err fault)
  IsRefusedFor (WindowsShell i) fault = words_in i ≡ Some (Err fault)
  IsRefusedFor (Tempdir e) fault = text_of e ≡ Some (Err fault)
  IsRefusedFor (WorkingDirectory e) fault = text_of e ≡ Some (Err fault)
  IsRefusedFor (Indentation s) fault = ⊥
  IsRefusedFor (MinimumVersion s) fault = ⊥

  -- an item is set, or refused for what its value is refused for, or for want of memory; then nothing changes
  abbrev pub SetsTo : Setting → Settings → Settings → Result (Unit {0}) Error → Type 0
  SetsTo setting old new (Ok done) = IsSet setting old new
  SetsTo setting old new (Err error) = (new ≡ old) × (fault_of error ≢ memory → IsRefusedFor setting (fault_of error))

  -- of words
  pub record IsGiven (i : Interpreter Expression) (new : Option (Interpreter (List ℕ))) : Type 0 where
    pub words : Interpreter (List ℕ)
    pub settles : words_in i ≡ Some (Ok (words_of words))
    pub is : new ≡ Some words

  abbrev pub WordsSet : Interpreter Expression → Option (Interpreter (List ℕ)) → Option (Interpreter (List ℕ)) → Result (Unit {0}) Error → Type 0
  WordsSet i old new (Ok done) = IsGiven i new
  WordsSet i old new (Err error) = (new ≡ old) × (fault_of error ≢ memory → words_in i ≡ Some (Err (fault_of error)))

  -- of a text
  pub record IsText (e : Expression) (new : Option (List ℕ)) : Type 0 where
    pub text : List ℕ
    pub settles : text_of e ≡ Some (Ok text)
    pub is : new ≡ Some text

  abbrev pub TextSets : Expression → Option (List ℕ) → Option (List ℕ) → Result (Unit {0}) Error → Type 0
  TextSets e old new (Ok done) = IsText e new
  TextSets e old new (Err error) = (new ≡ old) × (fault_of error ≢ memory → text_of e ≡ Some (Err (fault_of error)))
