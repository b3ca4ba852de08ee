-- Constants.
use Rattle.meaning_rules.proofs.Kept.{overrides_are_unique}
use Rattle.meaning_rules.proofs.Meaning.{means_at_most_one, same_meant}
use Rattle.meaning_rules.proofs.law.meanings.Goals as goal

pub returns-clause-names : goal.returns-clause-names
returns-clause-names c expansion lists e f g h = same_meant f g expansion lists e h

pub returns-clause-once : goal.returns-clause-once
returns-clause-once c = means_at_most_one

pub returns-clause-overrides : goal.returns-clause-overrides
returns-clause-overrides c = overrides_are_unique
