-- An insertion into the map changes one name.
use Rattle.std.proofs.lemmas.Map.Text.{btree_map_updates_str}
use Rattle.resolve_references.specs.Functions.{function_in}
use Rattle.resolve_references.proofs.functions.FunctionNames.insert.Goals as goal

pub returns-in-Ok : goal.returns-in-Ok
unfolding function_in
returns-in-Ok c = btree_map_updates_str c.args.name.now c.args.self.now.functions c.insert.new.self _ c.in-Ok.ensures.updates
