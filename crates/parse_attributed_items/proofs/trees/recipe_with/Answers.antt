-- A recipe is the same but for the options of its parameters.
use Rattle.std.proofs.Common.{refl}
use Rattle.parse_attributed_items.proofs.GivenOptions.{same_cooked, same_length, same_numbers, same_shapes}
use Rattle.parse_attributed_items.specs.Fitting.{options_among}
use Rattle.parse_attributed_items.proofs.Letters.{letters_ascii}
use Rattle.parse_attributed_items.proofs.Reordered.{distinct_if_fits, options_alike}
use Rattle.parse_attributed_items.proofs.trees.recipe_with.Goals as goal

pub returns-clause-shape : goal.returns-clause-shape
returns-clause-shape c = rw (same_shapes c.in_ok-parameters.parameters.items c.args.recipe.parameters.items c.in_ok-parameters.ensures.kept) refl

pub returns-clause-numbers : goal.returns-clause-numbers
returns-clause-numbers c old new h =
    let kept = c.in_ok-parameters.ensures.kept in
    let length' = same_length c.in_ok-parameters.parameters.items c.args.recipe.parameters.items kept in
    record {
      number = h.number;
      numbers = rw (same_numbers c.in_ok-parameters.parameters.items c.args.recipe.parameters.items kept, length') h.numbers;
      gone_on = rw length' h.gone_on;
    }

pub returns-clause-cooked : goal.returns-clause-cooked
returns-clause-cooked c origin h = record {
  parameters = same_cooked c.in_ok-parameters.parameters.items c.args.recipe.parameters.items c.in_ok-parameters.ensures.kept origin h.parameters;
  priors = h.priors;
  subsequents = h.subsequents;
  body = h.body;
}

-- the options are those of the `arg`s in whatever order they stand
pub returns-clause-options : goal.returns-clause-options
returns-clause-options c = λ x written whole arguments bare.
    let given = rw whole.again at (c.in_ok-parameters.ensures.options x whole.cooked_options bare.plain.parameters bare.distinct (rw whole.again arguments)) in
    let fits = rw whole.again at (c.in_ok-parameters.ensures.gives x whole.cooked_options) in
    rw whole.order (options_alike x.expansion written c.in_ok-parameters.parameters.items (distinct_if_fits x.expansion _ written _ fits) given)

-- and each has the form that it is asked for
pub returns-clause-letters : goal.returns-clause-letters
returns-clause-letters c = λ x written whole arguments bare.
    let given = rw whole.again at (c.in_ok-parameters.ensures.options x whole.cooked_options bare.plain.parameters bare.distinct (rw whole.again arguments)) in
    letters_ascii x.expansion (options_among written) c.in_ok-parameters.parameters.items given arguments
