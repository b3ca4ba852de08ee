-- The setting is the same, with another command and other arguments.
use Rattle.std.proofs.Common.{[], ap, ◌∙◌, refl, subst, sym}
use Rattle.tree_attributes.specs.declared.setting.Setting.TheVariants.{ScriptInterpreter, Shell, WindowsShell}
use Rattle.resolve_references.specs.Numbered.{IsSameSetting}
use Rattle.resolve_references.specs.Said.{said_by}
use Rattle.resolve_references.specs.Seen.{seen_in_setting}
use Rattle.resolve_references.proofs.numbering.number_setting.Goals as goal

pub returns-in-ScriptInterpreter-clause-same : goal.returns-in-ScriptInterpreter-clause-same
returns-in-ScriptInterpreter-clause-same c = subst (λ setting. IsSameSetting setting (ScriptInterpreter c.number_interpreter.new.interpreter)) (sym c.in-ScriptInterpreter.is) (c.number_interpreter.new.interpreter, refl)

pub returns-in-Shell-clause-same : goal.returns-in-Shell-clause-same
returns-in-Shell-clause-same c = subst (λ setting. IsSameSetting setting (Shell c.number_interpreter-in-Shell.new.interpreter)) (sym c.in-Shell.is) (c.number_interpreter-in-Shell.new.interpreter, refl)

pub returns-in-WindowsShell-clause-same : goal.returns-in-WindowsShell-clause-same
returns-in-WindowsShell-clause-same c = subst (λ setting. IsSameSetting setting (WindowsShell c.number_interpreter-in-WindowsShell.new.interpreter)) (sym c.in-WindowsShell.is) (c.number_interpreter-in-WindowsShell.new.interpreter, refl)

pub returns-in-DotenvCommand-clause-said : goal.returns-in-DotenvCommand-clause-said
returns-in-DotenvCommand-clause-said c = c.number_expression.ensures.said [] ∙ ap (λ setting. said_by (seen_in_setting setting)) (sym c.in-DotenvCommand.is)

pub returns-in-DotenvFilename-clause-said : goal.returns-in-DotenvFilename-clause-said
returns-in-DotenvFilename-clause-said c = c.number_expression-in-DotenvFilename.ensures.said [] ∙ ap (λ setting. said_by (seen_in_setting setting)) (sym c.in-DotenvFilename.is)

pub returns-in-DotenvPath-clause-said : goal.returns-in-DotenvPath-clause-said
returns-in-DotenvPath-clause-said c = c.number_expression-in-DotenvPath.ensures.said [] ∙ ap (λ setting. said_by (seen_in_setting setting)) (sym c.in-DotenvPath.is)

pub returns-in-Tempdir-clause-said : goal.returns-in-Tempdir-clause-said
returns-in-Tempdir-clause-said c = c.number_expression-in-Tempdir.ensures.said [] ∙ ap (λ setting. said_by (seen_in_setting setting)) (sym c.in-Tempdir.is)

pub returns-in-WorkingDirectory-clause-said : goal.returns-in-WorkingDirectory-clause-said
returns-in-WorkingDirectory-clause-said c = c.number_expression-in-WorkingDirectory.ensures.said [] ∙ ap (λ setting. said_by (seen_in_setting setting)) (sym c.in-WorkingDirectory.is)
