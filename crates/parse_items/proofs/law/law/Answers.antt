-- The laws hold of whatever can be seen as words, where those of expressions, of paths and of the ends of lines do.
use Rattle.just_text.specs.Tokens.{Word, word_of}
use Rattle.parse_expressions.specs.Literals.{Expansion}
use Rattle.parse_expressions.specs.Laws.{Exactly}
use Rattle.parse_recipes.specs.Laws.{EolsExactly, PathsExactly}
use Rattle.parse_items.specs.Laws.{ItemsExactly}
use Rattle.parse_items.proofs.Found.{found}
use Rattle.parse_items.proofs.Again.{again}
use Rattle.parse_items.proofs.RecipesTold.{recipe_told}
use Rattle.parse_items.proofs.law.law.Goals as goal

exactly : {T : Type 0} (word : T → Word) (expansion : Expansion) → Exactly word expansion 256 6 → PathsExactly word → EolsExactly word → ItemsExactly word expansion
exactly word expansion expressions paths ends = record {
  found = λ ts rest i h. found word expansion expressions paths ends ts (i, rest) h;
  only = λ ts rest i h. let r = again word expansion expressions paths ends i ts rest h in (r.rest, r.is, r.others);
  recipes = λ ts rest r blanks h. recipe_told expansion word ends ts rest r blanks h;
}

pub returns-clause-items : goal.returns-clause-items
returns-clause-items c expansion = exactly word_of expansion (c.law.ensures.exactly expansion 256 6) c.recipe_law.ensures.paths.tokens c.recipe_law.ensures.ends.tokens

pub returns-clause-words : goal.returns-clause-words
returns-clause-words c expansion = exactly (λ (w : Word). w) expansion (c.law.ensures.words expansion 256 6) c.recipe_law.ensures.paths.words c.recipe_law.ensures.ends.words
