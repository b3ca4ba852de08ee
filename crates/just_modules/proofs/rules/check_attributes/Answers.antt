-- The two things are named.
use Rattle.std.proofs.Common.{refl}
use Rattle.just_text.specs.Tokens.{lexeme}
use Rattle.meaning_rules.specs.Rules.{attribute_conflict}
use Rattle.just_modules.specs.ItemRules.{conflict}
use Rattle.just_modules.proofs.rules.check_attributes.Goals as goal

pub returns-in-Some-clause-broken : goal.returns-in-Some-clause-broken
returns-in-Some-clause-broken c w truths = (attribute_conflict (lexeme c.args.recipe.now.name.token) c.in-Some.field-0.one.now c.in-Some.field-0.other.now, refl, conflict c.in-Some.ensures.found)
