-- A call with its name in the file.
use Rattle.std.proofs.Common.{◌∙◌, ◌∷◌, ap}
use Rattle.std.specs.List.{flat_map}
use Rattle.parse_expressions.specs.Literals.{held_by, of_call}
use Rattle.parse_expressions.proofs.Cooked.{call_held}
use Rattle.parse_expressions.proofs.node.call.Goals as goal

pub returns-clause-held : goal.returns-clause-held
returns-clause-held c = call_held c.args.arguments c.named-name.result ∙ ap (λ path. of_call path ∷ flat_map held_by c.args.arguments.items) c.named-name.ensures.path
