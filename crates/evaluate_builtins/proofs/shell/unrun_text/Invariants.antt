-- The text so far, and after it what is left, is the whole call.
use Rattle.std.proofs.Common.{◌≡◌, ◌∷◌, ◌++◌, drop}
use Rattle.std.specs.String.{string_bytes}
use Rattle.evaluate_builtins.specs.Builtins.{more_printed, unrun_call}
use Rattle.evaluate_builtins.proofs.shell.unrun_text.Given as goal

abbrev pub invariant-loop-argument : goal.invariant-loop-argument
invariant-loop-argument l = string_bytes l.text ++ more_printed (drop l.argument-index l.others) ≡ unrun_call (l.first ∷ l.others)
