use Rattle.laws_printing.proofs.Printing.Lexed.{lexed}
use Rattle.laws_printing.proofs.law.printing.words_lex_back.Goals as goal

pub returns : goal.returns
returns c m to e after rest there w a l = lexed m to e after rest there w a l
