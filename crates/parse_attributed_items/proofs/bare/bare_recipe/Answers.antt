-- What is read is derived, so the names of the parameters differ.
use Rattle.tree_items.specs.Recipes.{parameter_shapes}
use Rattle.parse_expressions.specs.Reading.{ahead}
use Rattle.parse_attributed_items.specs.Rules.{names_of}
use Rattle.parse_attributed_items.proofs.Differ.{distinct_so}
use Rattle.parse_attributed_items.proofs.bare.bare_recipe.Goals as goal

pub returns-clause-plain : goal.returns-clause-plain
returns-clause-plain g c =
    let derived = (c.recipe_law.ensures.recipes (g.E.Expander.expansion c.args.context.now.expander.now)).tokens.found (ahead c.args.cursor.now) _ _ _ c.in_ok-read.ensures.gives in
    record {
      plain = c.in_ok-read.ensures.plain;
      distinct = distinct_so (names_of (parameter_shapes c.in_ok-read.read.recipe.parameters.items)) derived.distinct;
    }
