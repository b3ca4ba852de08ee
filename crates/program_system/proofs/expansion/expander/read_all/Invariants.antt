-- What is left of the text, after what was read, stands for the same as the whole.
use Rattle.std.proofs.Common.{◌≡◌}
use Rattle.std.specs.Str.{IsUtf8, chars}
use Rattle.std.specs.String.{string_bytes}
use Rattle.program_system.specs.Expanded.{read, begun}
use Rattle.program_system.proofs.expansion.expander.read_all.Given as goal

abbrev pub invariant-loop-character : goal.invariant-loop-character
invariant-loop-character l =
    IsUtf8 l.rest.rest.now × (read l.environment l.reading (chars l.rest.rest.now) ≡ read l.environment (begun (string_bytes l.fn.before)) (chars l.text))
