-- The laws hold of whatever can be seen as words, where those of attributes, of recipes, of other items and of settings do.
use Rattle.just_text.specs.Tokens.{Word, word_of}
use Rattle.parse_attributed_items.proofs.AttributedLaw.{attributed_exactly}
use Rattle.parse_attributed_items.proofs.law.law.Goals as goal

pub returns-clause-items : goal.returns-clause-items
returns-clause-items c expansion current =
    attributed_exactly word_of expansion current (c.law.ensures.attributes expansion) (c.recipe_law.ensures.recipes expansion).tokens (c.law-2.ensures.items expansion) (c.setting_law.ensures.sets expansion current)

pub returns-clause-words : goal.returns-clause-words
returns-clause-words c expansion current =
    attributed_exactly (λ (w : Word). w) expansion current (c.law.ensures.words expansion) (c.recipe_law.ensures.recipes expansion).words (c.law-2.ensures.words expansion) (c.setting_law.ensures.words expansion current)
