use Rattle.just_text.specs.Tokens.{Word, word_of}
use Rattle.parse_items.proofs.Exact.{sets_exactly}
use Rattle.parse_items.proofs.setting_law.setting_law.Goals as goal

pub returns-clause-sets : goal.returns-clause-sets
returns-clause-sets c expansion current = sets_exactly word_of expansion (c.law.ensures.exactly expansion 256 6) c.recipe_law.ensures.ends.tokens current

pub returns-clause-words : goal.returns-clause-words
returns-clause-words c expansion current = sets_exactly (λ (w : Word). w) expansion (c.law.ensures.words expansion 256 6) c.recipe_law.ensures.ends.words current
