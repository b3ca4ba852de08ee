-- The law holds of whatever can be seen as words, where that of expressions does.
use Rattle.just_text.specs.Tokens.{Word, word_of}
use Rattle.parse_attributes.proofs.AttributesExact.{attributes_exactly}
use Rattle.parse_attributes.proofs.law.law.Goals as goal

pub returns-clause-attributes : goal.returns-clause-attributes
returns-clause-attributes c expansion = attributes_exactly word_of expansion (c.law.ensures.exactly expansion 256 6)

pub returns-clause-words : goal.returns-clause-words
returns-clause-words c expansion = attributes_exactly (λ (w : Word). w) expansion (c.law.ensures.words expansion 256 6)
