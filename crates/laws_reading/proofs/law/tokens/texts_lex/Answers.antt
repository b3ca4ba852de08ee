use Rattle.laws_reading.proofs.Tokens.Decidable.{texts_lex, faults_are_decidable}
use Rattle.laws_reading.proofs.law.tokens.texts_lex.Goals as goal

pub returns-clause-total : goal.returns-clause-total
returns-clause-total c = texts_lex

pub returns-clause-decidable : goal.returns-clause-decidable
returns-clause-decidable c = faults_are_decidable
