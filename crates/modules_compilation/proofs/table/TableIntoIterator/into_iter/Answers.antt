-- The entries and the order of their keys are the table's.
use Rattle.std.proofs.Common.{ap, ap₂, ◌∙◌}
use Rattle.std.specs.List.{zip}
use Rattle.std.specs.Vec.Iter.{into_iter_items}
use Rattle.modules_compilation.specs.Tables.{texts}
use Rattle.modules_compilation.proofs.Tabled.{ascending_view}
use Rattle.modules_compilation.proofs.table.TableIntoIterator.into_iter.Goals as goal

pub returns : goal.returns
returns g c = record {
  into_iter_gives = (
    ap₂ zip (ap texts (ap into_iter_items c.zip.ensures.first ∙ c.into_iter.ensures.rest)) c.zip.ensures.second.0 ∙ c.self.view_is,
    ascending_view c.self.inside.keys.items c.self.inside.values.items c.args.self c.self.view_is c.self.invariant,
  );
}
