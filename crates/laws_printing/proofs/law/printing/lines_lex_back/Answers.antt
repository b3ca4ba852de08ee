use Rattle.laws_printing.proofs.Printing.LinesLexed.{alias_lexed, interpolation_fits}
use Rattle.laws_printing.proofs.law.printing.lines_lex_back.Goals as goal

pub returns-clause-aliases : goal.returns-clause-aliases
returns-clause-aliases c may to a after rest name target l = alias_lexed may to a after rest name target l

pub returns-clause-interpolations : goal.returns-clause-interpolations
returns-clause-interpolations c i e w = interpolation_fits i e w
