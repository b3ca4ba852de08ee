-- Two lists that lex one text are one, and a text that has tokens has no fault.
use Rattle.just_lexer.proofs.Loop.{these_are_all, faultless}
use Rattle.just_lexer.proofs.lexer.law.Goals as goal

pub returns-clause-one : goal.returns-clause-one
returns-clause-one c = λ text ts us a b. these_are_all text ts us a.each a.whole b

pub returns-clause-faultless : goal.returns-clause-faultless
returns-clause-faultless c = λ text ts kind at all fault. faultless text ts kind at all fault
