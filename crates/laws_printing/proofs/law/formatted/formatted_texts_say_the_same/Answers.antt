use Rattle.laws_printing.proofs.Formatted.PrintedBack.{prints_back, equal_texts}
use Rattle.laws_printing.proofs.law.formatted.formatted_texts_say_the_same.Goals as goal

pub returns-clause-prints : goal.returns-clause-prints
returns-clause-prints c expansion version indentation text items i u r p = prints_back expansion version indentation text items i u r p

pub returns-clause-equal : goal.returns-clause-equal
returns-clause-equal c expansion version indentation text other xs ys i ux uy rx ry px py = equal_texts expansion version c.file_law.ensures.texts indentation text other xs ys i ux uy rx ry px py
