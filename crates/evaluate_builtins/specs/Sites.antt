-- Where a built-in function is called, and what it comes to there.
use Rattle.std.specs.Prelude.{List}
use Rattle.just_text.specs.Tokens.{lexeme}
use Rattle.evaluate_functions.specs.declared.function.Function.{Function}
use Rattle.evaluate_context.specs.Surroundings.{Standing, surroundings_of, standing_in}
use Rattle.evaluate_builtins.specs.declared.site.CallSite.{CallSite}
use Rattle.evaluate_builtins.specs.Builtins.{builtin}
use Rattle.meaning_dialogues.specs.Dialogue.{Dialogue}
use Rattle.meaning_dialogues.specs.Evaluation.{Value}

abbrev pub standing_of : CallSite → Standing
standing_of site = standing_in site.context.now site.env.now site.scope.now site.is_dependency site.recipe

abbrev pub called : CallSite → Function → List Value → Dialogue Value
called site function values = builtin (surroundings_of site.context.now) (standing_of site) (lexeme site.name.token) site.name.token.path.now function values
