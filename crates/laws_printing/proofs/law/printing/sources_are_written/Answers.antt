use Rattle.laws_printing.specs.Printing.Held.{Held}
use Rattle.laws_printing.proofs.Printing.Held.{held}
use Rattle.laws_printing.proofs.Printing.Formats.{formats_stop}
use Rattle.laws_printing.proofs.Printing.Tokens.{all_held}
use Rattle.just_lexer.specs.Lexes.{start}
use Rattle.laws_printing.proofs.law.printing.sources_are_written.Goals as goal

pub returns-clause-expressions : goal.returns-clause-expressions
returns-clause-expressions c expansion e words rest opened i h = held Held (λ os w ws h s. h) expansion e words rest opened i h

pub returns-clause-tokens : goal.returns-clause-tokens
returns-clause-tokens c text ts l = all_held (start text) ts l.each

pub returns-clause-formats : goal.returns-clause-formats
returns-clause-formats c = formats_stop
