-- The texts so far are copied.
use Rattle.std.proofs.Common.{◌≡◌, map, take}
use Rattle.std.specs.String.{string_bytes}
use Rattle.evaluate_functions.specs.Functions.{first_text}
use Rattle.evaluate_builtins.proofs.shell.texts.Given as goal

abbrev pub invariant-loop-argument : goal.invariant-loop-argument
invariant-loop-argument l = map string_bytes l.texts.items ≡ map first_text (take l.argument-index l.arguments)
