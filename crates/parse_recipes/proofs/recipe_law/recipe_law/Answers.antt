use Rattle.just_text.specs.Tokens.{Word, word_of}
use Rattle.parse_recipes.proofs.RecipeExact.{recipes_exactly, paths_exactly, eols_exactly, one}
use Rattle.parse_recipes.proofs.recipe_law.recipe_law.Goals as goal

pub returns-clause-recipes : goal.returns-clause-recipes
returns-clause-recipes c expansion = record {
  tokens = recipes_exactly word_of expansion (c.law.ensures.exactly expansion);
  words = recipes_exactly (λ (w : Word). w) expansion (c.law.ensures.words expansion);
}

pub returns-clause-paths : goal.returns-clause-paths
returns-clause-paths c = record { tokens = paths_exactly word_of; words = paths_exactly (λ (w : Word). w) }

pub returns-clause-ends : goal.returns-clause-ends
returns-clause-ends c = record { tokens = eols_exactly word_of; words = eols_exactly (λ (w : Word). w) }

pub returns-clause-one : goal.returns-clause-one
returns-clause-one c = one c.law.ensures.words
