-- What words give, and formatted texts.
use Rattle.std.proofs.Common.{refl}
use Rattle.meaning_rules.proofs.law.texts.Goals as goal

pub returns-clause-overrides : goal.returns-clause-overrides
returns-clause-overrides c given words = refl

pub returns-clause-formatted : goal.returns-clause-formatted
returns-clause-formatted c expansion version source other key formatted = (formatted.items, formatted.indentation, formatted.formatted)
