-- The module's default, if it is there and needs no words.
use Rattle.std.proofs.Common.{◌∙◌, ap, refl, sym}
use Rattle.std.proofs.lemmas.Option.{slice_get_within}
use Rattle.analyze_words.specs.Broken.{rule_of}
use Rattle.meaning_runs.specs.Invokes as spec
use Rattle.analyze_words.proofs.Paths.{no_default, lost_default, default_needs, default_found}
use Rattle.analyze_words.proofs.parser.InvocationParser.default.Goals as goal

pub returns-in_default-clause-refused : goal.returns-in_default-clause-refused
returns-in_default-clause-refused c = λ some. (spec.no_recipes, (refl, no_default c.args.self.now.menus.now c.args.place (sym c.in_default.ensures)))

pub returns-in_default-recipe-clause-refused : goal.returns-in_default-recipe-clause-refused
returns-in_default-recipe-clause-refused c = λ some. (spec.no_recipes, (refl, lost_default c.args.self.now.menus.now c.args.place c.in-Some.recipe (sym c.in-Some.ensures) (sym c.in_default-recipe.ensures)))

pub returns-then-needs_words-clause-refused : goal.returns-then-needs_words-clause-refused
returns-then-needs_words-clause-refused c = λ some. (
  spec.default_needs_arguments c.in-Some-recipe.callable.now.name.now,
  (ap rule_of (c.default_needs_arguments.ensures some), default_needs c.args.self.now.menus.now c.args.place c.in-Some.recipe c.in-Some-recipe.callable.now (sym c.in-Some.ensures) (sym c.in-Some-recipe.ensures) (sym c.needs_words.ensures ∙ c.if-needs_words.true)),
)

pub returns-clause-found : goal.returns-clause-found
returns-clause-found c = default_found c.args.self.now.menus.now c.args.place c.in-Some.recipe c.in-Some-recipe.callable.now (sym c.in-Some.ensures) (sym c.in-Some-recipe.ensures) (sym c.needs_words.ensures ∙ c.if-needs_words.false)

pub returns-clause-there : goal.returns-clause-there
returns-clause-there c = slice_get_within c.args.self.now.menus.now.recipes.items c.in-Some.recipe c.in-Some-recipe.callable.now (sym c.in-Some-recipe.ensures)
