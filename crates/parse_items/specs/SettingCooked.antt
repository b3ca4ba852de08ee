-- The cooked texts of settings.
use Rattle.tree_expressions.specs.declared.expression.Expression.{Expression}
use Rattle.tree_attributes.specs.declared.setting.Interpreter.{Interpreter}
use Rattle.tree_attributes.specs.declared.setting.Setting.{Setting}
use Rattle.tree_attributes.specs.declared.setting.Setting.TheVariants.{DotenvCommand, DotenvFilename, DotenvPath, Indentation, MinimumVersion, ScriptInterpreter, Shell, Tempdir, WindowsShell, WorkingDirectory}
use Rattle.parse_expressions.specs.Literals.{Origin, IsCooked, AreCooked}
use Rattle.parse_expressions.specs.Strings.{IsCookedString}

-- the command and its arguments hold what their strings stand for
pub record IsCookedInterpreter (origin : Origin) (i : Interpreter Expression) : Type 0 where
  pub command : IsCooked origin i.command
  pub arguments : AreCooked origin i.arguments.items

-- the setting's value holds what its strings stand for
abbrev pub IsCookedSetting : Origin → Setting → Type 0
IsCookedSetting origin (DotenvCommand value) = IsCooked origin value
IsCookedSetting origin (DotenvFilename value) = IsCooked origin value
IsCookedSetting origin (DotenvPath value) = IsCooked origin value
IsCookedSetting origin (Indentation value) = IsCookedString origin.expansion value
IsCookedSetting origin (MinimumVersion value) = IsCookedString origin.expansion value
IsCookedSetting origin (ScriptInterpreter value) = IsCookedInterpreter origin value
IsCookedSetting origin (Shell value) = IsCookedInterpreter origin value
IsCookedSetting origin (Tempdir value) = IsCooked origin value
IsCookedSetting origin (WindowsShell value) = IsCookedInterpreter origin value
IsCookedSetting origin (WorkingDirectory value) = IsCooked origin value
IsCookedSetting origin other = Unit {0}
