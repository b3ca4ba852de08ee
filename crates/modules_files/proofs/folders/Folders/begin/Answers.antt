-- The key is the only one of the folder.
use Rattle.std.proofs.Common.{Some, [], ◌∷◌, ◌++◌, ap, ◌∙◌}
use Rattle.std.proofs.lemmas.Map.Text.{btree_map_updates_str}
use Rattle.modules_files.specs.Found.{borrowed}
use Rattle.modules_files.proofs.Cuts.{rows_after}
use Rattle.modules_files.proofs.folders.Folders.begin.Goals as goal

pub returns : goal.returns
returns c =
    rows_after c.args.self.now.justfiles c.insert.new.self c.args.folder.now c.push.new.self (c.args.key.now ∷ [])
    (btree_map_updates_str c.args.folder.now c.args.self.now.justfiles c.insert.new.self (Some c.push.new.self) c.in_ok-insert.ensures.updates)
    (ap borrowed (c.in_ok-push.ensures.items ∙ ap (λ is. is ++ c.args.key ∷ []) c.new-keys.ensures.items))
