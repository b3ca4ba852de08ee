-- The command and the arguments so far.
use Rattle.std.proofs.Common.{◌≡◌, ◌∷◌, take}
use Rattle.evaluate_context.proofs.settings.interpreter_words.Given as goal

abbrev pub invariant-loop-argument : goal.invariant-loop-argument
invariant-loop-argument l = l.words ≡ l.interpreter.command ∷ take l.argument-index l.argument-items
