-- The names of settings, and the forms of their values.
use Rattle.std.specs.Prelude.{ℕ, List, [], ◌∷◌, Option, Some, None, codes, if◌then◌else◌}
use Rattle.std.specs.Str.{bytes_eq}
use Rattle.tree_attributes.specs.declared.setting.Setting.{Setting}
use Rattle.tree_attributes.specs.declared.setting.Setting.TheVariants.{DotenvCommand, DotenvFilename, DotenvPath, Indentation as IndentationSetting, MinimumVersion, ScriptInterpreter, Shell, Tempdir, Truth, WindowsShell, WorkingDirectory}
use Rattle.tree_attributes.specs.declared.truth_setting.TruthSetting.{TruthSetting}
use Rattle.tree_attributes.specs.declared.truth_setting.TruthSetting.TheVariants.{AllowDuplicateRecipes, AllowDuplicateVariables, DefaultList, DefaultScript, DotenvLoad, DotenvOverride, DotenvRequired, Export, Fallback, Guards, IgnoreComments, Lazy, Lists, NoCd, NoExitMessage, PositionalArguments, Quiet, ShareSubsequents, Unstable, WindowsPowershell}
use Rattle.parse_items.specs.declared.form.Form.{Form}
use Rattle.parse_items.specs.declared.form.Form.TheVariants.{Indentation, Interpreter, Truth as TruthForm, Value, Version}

-- the name of a setting that is true or false
abbrev pub truth_name : TruthSetting → List ℕ
truth_name AllowDuplicateRecipes = codes "allow-duplicate-recipes"
truth_name AllowDuplicateVariables = codes "allow-duplicate-variables"
truth_name DefaultList = codes "default-list"
truth_name DefaultScript = codes "default-script"
truth_name DotenvLoad = codes "dotenv-load"
truth_name DotenvOverride = codes "dotenv-override"
truth_name DotenvRequired = codes "dotenv-required"
truth_name Export = codes "export"
truth_name Fallback = codes "fallback"
truth_name Guards = codes "guards"
truth_name IgnoreComments = codes "ignore-comments"
truth_name Lazy = codes "lazy"
truth_name Lists = codes "lists"
truth_name NoCd = codes "no-cd"
truth_name NoExitMessage = codes "no-exit-message"
truth_name PositionalArguments = codes "positional-arguments"
truth_name Quiet = codes "quiet"
truth_name ShareSubsequents = codes "share-subsequents"
truth_name Unstable = codes "unstable"
truth_name WindowsPowershell = codes "windows-powershell"

-- the name of a setting
abbrev pub setting_name : Setting → List ℕ
setting_name (DotenvCommand value) = codes "dotenv-command"
setting_name (DotenvFilename value) = codes "dotenv-filename"
setting_name (DotenvPath value) = codes "dotenv-path"
setting_name (IndentationSetting value) = codes "indentation"
setting_name (MinimumVersion value) = codes "minimum-version"
setting_name (ScriptInterpreter value) = codes "script-interpreter"
setting_name (Shell value) = codes "shell"
setting_name (Truth which value) = truth_name which
setting_name (Tempdir value) = codes "tempdir"
setting_name (WindowsShell value) = codes "windows-shell"
setting_name (WorkingDirectory value) = codes "working-directory"

-- the form of each setting's value, by its name
abbrev pub forms : List (List ℕ × Form)
forms =
    (codes "allow-duplicate-recipes", TruthForm) ∷
    (codes "allow-duplicate-variables", TruthForm) ∷
    (codes "default-list", TruthForm) ∷
    (codes "default-script", TruthForm) ∷
    (codes "dotenv-command", Value) ∷
    (codes "dotenv-filename", Value) ∷
    (codes "dotenv-load", TruthForm) ∷
    (codes "dotenv-override", TruthForm) ∷
    (codes "dotenv-path", Value) ∷
    (codes "dotenv-required", TruthForm) ∷
    (codes "export", TruthForm) ∷
    (codes "fallback", TruthForm) ∷
    (codes "guards", TruthForm) ∷
    (codes "ignore-comments", TruthForm) ∷
    (codes "indentation", Indentation) ∷
    (codes "lazy", TruthForm) ∷
    (codes "lists", TruthForm) ∷
    (codes "minimum-version", Version) ∷
    (codes "no-cd", TruthForm) ∷
    (codes "no-exit-message", TruthForm) ∷
    (codes "positional-arguments", TruthForm) ∷
    (codes "quiet", TruthForm) ∷
    (codes "script-interpreter", Interpreter) ∷
    (codes "share-subsequents", TruthForm) ∷
    (codes "shell", Interpreter) ∷
    (codes "tempdir", Value) ∷
    (codes "unstable", TruthForm) ∷
    (codes "windows-powershell", TruthForm) ∷
    (codes "windows-shell", Interpreter) ∷
    (codes "working-directory", Value) ∷
    []

-- what stands after that name in a table
abbrev pub looked_up : List ℕ → List (List ℕ × Form) → Option Form
looked_up name [] = None
looked_up name ((n, form) ∷ rows) = if bytes_eq name n then Some form else looked_up name rows

-- the form of the value of the setting with that name, if there is one
abbrev pub form_named : List ℕ → Option Form
form_named name = looked_up name forms
