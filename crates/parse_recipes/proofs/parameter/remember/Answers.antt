-- One more name was read.
use Rattle.std.proofs.Common.{ap, ◌∙◌}
use Rattle.std.specs.Prelude.{◌||◌}
use Rattle.std.specs.Str.{bytes_eq}
use Rattle.just_text.specs.Tokens.{lexeme}
use Rattle.parse_recipes.proofs.parameter.remember.Goals as goal

pub returns-clause-remembered : goal.returns-clause-remembered
returns-clause-remembered c = λ before has name. rw c.lexeme-2.ensures at (c.in_ok-add.ensures name) ∙ ap (λ b. bytes_eq name (lexeme c.args.name.now.token) || b) (has name)
