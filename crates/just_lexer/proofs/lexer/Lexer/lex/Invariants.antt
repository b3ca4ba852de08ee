-- The tokens so far lead to the place, and each leaves less to read, or a later place of the line with the same rest.
use Rattle.std.proofs.Common.{length, ◌+◌, ◌*◌}
use Rattle.just_lexer.proofs.Steps.{weight}
use Rattle.just_lexer.proofs.Loop.{LexedSoFar}
use Rattle.just_lexer.proofs.lexer.Lexer.lex.Given as goal

abbrev pub invariant-loop-lexer : goal.invariant-loop-lexer
invariant-loop-lexer l = LexedSoFar l.path l.src l.tokens.items (record { line = l.lexer.line; opened = l.opened.items }) l.lexer.position l.lexer.rest.now

abbrev pub decreases-loop-lexer : goal.decreases-loop-lexer
decreases-loop-lexer l = 8 * length l.lexer.rest.now + weight l.lexer.line
