-- By their lemmas.
use Rattle.meaning_texts.proofs.Alike.{answers_stay_alike, dumps_stay_alike, listings_stay_alike}
use Rattle.meaning_texts.proofs.law.texts_stay_alike.Goals as goal

pub returns-clause-lists : goal.returns-clause-lists
returns-clause-lists c = listings_stay_alike

pub returns-clause-dumps : goal.returns-clause-dumps
returns-clause-dumps c = dumps_stay_alike

pub returns-clause-answers : goal.returns-clause-answers
returns-clause-answers c = answers_stay_alike
