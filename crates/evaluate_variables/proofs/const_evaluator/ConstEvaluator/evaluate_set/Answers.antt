use Rattle.evaluate_variables.proofs.Interpreters.{script_words_set, shell_words_set, windows_words_set}
use Rattle.evaluate_variables.proofs.const_evaluator.ConstEvaluator.evaluate_set.Goals as goal

pub returns-in-ScriptInterpreter : goal.returns-in-ScriptInterpreter
returns-in-ScriptInterpreter c = rw c.in-ScriptInterpreter.is (script_words_set _ _ _ _ c.args.settings.now _ c.set_words.result c.set_words.ensures)

pub returns-in-Shell : goal.returns-in-Shell
returns-in-Shell c = rw c.in-Shell.is (shell_words_set _ _ _ _ c.args.settings.now _ c.set_words-in-Shell.result c.set_words-in-Shell.ensures)

pub returns-in-WindowsShell : goal.returns-in-WindowsShell
returns-in-WindowsShell c = rw c.in-WindowsShell.is (windows_words_set _ _ _ _ c.args.settings.now _ c.set_words-in-WindowsShell.result c.set_words-in-WindowsShell.ensures)
