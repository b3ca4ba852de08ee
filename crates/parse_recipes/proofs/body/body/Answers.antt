-- The lines that are kept hold what the lines that were read hold.
use Rattle.std.proofs.Common.{length}
use Rattle.std.proofs.lemmas.List.Elements.{All-take}
use Rattle.parse_expressions.specs.Origins.{origin_of}
use Rattle.parse_recipes.specs.Cooked.{IsLineCooked}
use Rattle.parse_recipes.proofs.body.body.Goals as goal

pub returns-clause-cooked : goal.returns-clause-cooked
returns-clause-cooked g c =
    rw c.count_blank_end-blank_lines.ensures.front (All-take (IsLineCooked (origin_of g.E.Expander.expansion c.args.context.now)) (length c.count_blank_end-blank_lines.new.lines.items) c.in_ok-lines.lines.items c.in_ok-lines.ensures.cooked)
