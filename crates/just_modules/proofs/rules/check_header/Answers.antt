-- The recipe is named.
use Rattle.std.proofs.Common.{refl, sym, ◌∙◌}
use Rattle.just_text.specs.Tokens.{lexeme}
use Rattle.meaning_rules.specs.Rules.{cache_left_out}
use Rattle.just_modules.specs.ItemRules.{cache}
use Rattle.just_modules.proofs.rules.check_header.Goals as goal

pub returns-then-has-clause-broken : goal.returns-then-has-clause-broken
returns-then-has-clause-broken c w truths = (cache_left_out (lexeme c.args.recipe.now.name.token), refl, cache (sym c.has.ensures ∙ c.if-has.true))
