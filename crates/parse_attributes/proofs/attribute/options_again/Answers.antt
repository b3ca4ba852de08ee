-- The options are those of the second reading.
use Rattle.parse_expressions.specs.Origins.{origin_of}
use Rattle.parse_expressions.specs.Reading.{ahead}
use Rattle.parse_attributes.specs.Held.{arguments_shape}
use Rattle.parse_attributes.proofs.Known.{again_so}
use Rattle.parse_attributes.proofs.attribute.options_again.Goals as goal

pub returns-in_ok-arguments-in-Arg-clause-gives : goal.returns-in_ok-arguments-in-Arg-clause-gives
returns-in_ok-arguments-in-Arg-clause-gives g c = λ a rest sort read.
    again_so (g.E.Expander.expansion c.args.context.now.expander.now) c.args.kind (ahead c.args.cursor) a (arguments_shape c.in_ok-arguments-in-Arg.arguments) rest (ahead c.arguments.new.cursor) _ c.in-Arg.is c.in_ok-arguments-in-Arg.ensures.gives
    (c.parameter_options.ensures.shape (origin_of g.E.Expander.expansion c.args.context.now) c.in_ok-arguments-in-Arg.ensures.cooked) read
