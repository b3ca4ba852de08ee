-- What is found among those after has the attribute's name.
use Rattle.std.proofs.Common.{◌≡◌, false, arith}
use Rattle.tree_attributes.specs.Attributes.{kind_name}
use Rattle.parse_attributes.specs.Seen.{read_shape}
use Rattle.parse_attributed_items.specs.Refusals.{may_repeat}
use Rattle.parse_attributed_items.proofs.Named.{again_found, again_named}
use Rattle.parse_attributed_items.proofs.fit.again.Goals as goal

pub returns-clause-found : goal.returns-clause-found
returns-clause-found c =
    let once : may_repeat (read_shape c.args.read.now) ≡ false = grind (arith, c.in_ok-kind.ensures.single) in
    again_found c.args.behind.now (read_shape c.args.read.now) (kind_name c.in_ok-kind.kind) c.first_of.result c.in_ok-kind.ensures.kind c.first_of.ensures once

pub returns-clause-named : goal.returns-clause-named
returns-clause-named c = again_named c.args.behind.now (read_shape c.args.read.now) (kind_name c.in_ok-kind.kind) c.first_of.result c.in_ok-kind.ensures.kind c.first_of.ensures
