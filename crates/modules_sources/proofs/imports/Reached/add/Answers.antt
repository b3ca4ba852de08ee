-- The next place is the file's.
use Rattle.std.proofs.Common.{Some}
use Rattle.std.proofs.lemmas.Map.Text.{btree_map_updates_str}
use Rattle.modules_sources.proofs.Reaching.{added}
use Rattle.modules_sources.proofs.imports.Reached.add.Goals as goal

pub returns-clause-reached : goal.returns-clause-reached
returns-clause-reached c = λ keys h none.
    added keys c.args.self.now (record { places = c.insert.new.self; imports = c.args.self.now.imports }) c.args.key.now c.len-place.result _ none c.len-place.ensures.len c.in_ok-insert.ensures.old c.in_ok-insert.ensures.len
    (btree_map_updates_str c.args.key.now c.args.self.now.places c.insert.new.self (Some c.len-place.result) c.in_ok-insert.ensures.updates) h
