use Rattle.laws_printing.proofs.Formatting.BodiesLexed.{item_lexed}
use Rattle.laws_printing.proofs.law.formatting.items_lex_back.Goals as goal

pub returns : goal.returns
returns c indentation item n after rest to i w l o may = item_lexed indentation item n after rest to i w l o may
