use Rattle.std.proofs.Common.{◌≡◌, ℕ, suc, ◌+◌, ◌<◌, ◌≤◌, List, [], length}
use Rattle.just_text.specs.Tokens.{word_of}
use Rattle.tree_items.specs.Recipes.{parameter_shape}
use Rattle.parse_expressions.specs.Origins.{origin_of}
use Rattle.parse_expressions.specs.Reading.{ahead}
use Rattle.parse_recipes.specs.Numbering.{AreNumbered}
use Rattle.parse_recipes.specs.Cooked.{AreParametersCooked}
use Rattle.parse_recipes.specs.Plain.{ArePlain}
use Rattle.parse_recipes.specs.Reading.{parameters_at}
use Rattle.parse_recipes.specs.Seen.{HasRead}
use Rattle.parse_recipes.proofs.Turns.{before}
use Rattle.parse_recipes.proofs.parameter.parameters.Given as goal

abbrev pub invariant-loop-parameters : goal.invariant-loop-parameters
invariant-loop-parameters g l = record {
  turns : ℕ;
  taken : List (List ℕ);
  fuel : length (ahead l.cursor) < turns;
  names : HasRead l.names taken;
  so_far : before parameter_shape l.parameters.items (parameters_at word_of (g.E.Expander.expansion l.fn.context.expander.now) turns taken (ahead l.cursor))
      ≡ parameters_at word_of (g.E.Expander.expansion l.fn.context.expander.now) (suc (length (ahead l.fn.cursor))) [] (ahead l.fn.cursor);
  numbers : AreNumbered l.fn.numerator l.numerator l.parameters.items;
  room : length l.parameters.items + length (ahead l.cursor) ≤ length (ahead l.fn.cursor);
  plain : ArePlain l.parameters.items;
  cooked : AreParametersCooked (origin_of g.E.Expander.expansion l.fn.context) l.parameters.items;
}

abbrev pub decreases-loop-parameters : goal.decreases-loop-parameters
decreases-loop-parameters g l = length (ahead l.cursor)
