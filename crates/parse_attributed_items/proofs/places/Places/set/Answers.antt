-- An insertion into the map changes one name.
use Rattle.std.proofs.lemmas.Map.Text.{btree_map_updates_str}
use Rattle.parse_attributed_items.specs.Places.{place_in}
use Rattle.parse_attributed_items.proofs.places.Places.set.Goals as goal

pub returns : goal.returns
unfolding place_in
returns c = btree_map_updates_str c.args.name.now c.args.self.now.places c.insert.new.self _ c.in_ok-insert.ensures.updates
