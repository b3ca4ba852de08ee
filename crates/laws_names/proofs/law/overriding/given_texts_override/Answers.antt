use Rattle.laws_names.proofs.Overriding.Texts.{given_texts_override}
use Rattle.laws_names.proofs.law.overriding.given_texts_override.Goals as goal

pub returns : goal.returns
returns c = given_texts_override
