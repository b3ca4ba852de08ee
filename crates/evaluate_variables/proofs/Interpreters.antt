-- Settings that hold the words of a shell or an interpreter.
use Rattle.std.proofs.Common.{ℕ, Bool, List, Option, Result, Ok, Err, ap}
use Rattle.tree_expressions.specs.declared.expression.Expression.{Expression}
use Rattle.tree_attributes.specs.declared.setting.Interpreter.{Interpreter}
use Rattle.tree_attributes.specs.declared.setting.Setting.TheVariants.{ScriptInterpreter, Shell, WindowsShell}
use Rattle.evaluate_context.specs.declared.error.Error.{Error}
use Rattle.evaluate_context.specs.declared.settings.Settings.{Settings}
use Rattle.meaning_dialogues.specs.Dialogue.{Reading}
use Rattle.evaluate_variables.specs.SettingValues.{SetsTo, WordsSet}

module _ (reading : Reading) (lists : Bool) (name : List ℕ) (i : Interpreter Expression) (old : Settings) (new : Option (Interpreter (List ℕ))) where
  pub script_words_set : (result : Result (Unit {0}) Error) → WordsSet reading lists name i old.script_interpreter new result → SetsTo reading lists name (ScriptInterpreter i) old (record old { script_interpreter = new }) result
  script_words_set (Ok done) h = (h.words, h.settles, ap (λ words. record old { script_interpreter = words }) h.is)
  script_words_set (Err error) h = (ap (λ words. record old { script_interpreter = words }) h.0, h.1)

  pub shell_words_set : (result : Result (Unit {0}) Error) → WordsSet reading lists name i old.shell new result → SetsTo reading lists name (Shell i) old (record old { shell = new }) result
  shell_words_set (Ok done) h = (h.words, h.settles, ap (λ words. record old { shell = words }) h.is)
  shell_words_set (Err error) h = (ap (λ words. record old { shell = words }) h.0, h.1)

  pub windows_words_set : (result : Result (Unit {0}) Error) → WordsSet reading lists name i old.windows_shell new result → SetsTo reading lists name (WindowsShell i) old (record old { windows_shell = new }) result
  windows_words_set (Ok done) h = (h.words, h.settles, ap (λ words. record old { windows_shell = words }) h.is)
  windows_words_set (Err error) h = (ap (λ words. record old { windows_shell = words }) h.0, h.1)
