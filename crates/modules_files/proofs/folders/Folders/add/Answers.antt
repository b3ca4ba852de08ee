-- One more key stands at the folder.
use Rattle.std.proofs.Common.{Some, [], ◌∷◌, ◌++◌, ap, ◌∙◌, rules}
use Rattle.std.specs.Option.{option_map_or}
use Rattle.std.proofs.lemmas.List.{map-append}
use Rattle.std.proofs.lemmas.Map.Text.{btree_map_updates_str}
use Rattle.modules_files.specs.Found.{borrowed, keys_at}
use Rattle.modules_files.proofs.Cuts.{rows_after}
use Rattle.modules_files.proofs.folders.Folders.add.Goals as goal

pub returns-in_ok-push-in-Some : goal.returns-in_ok-push-in-Some
returns-in_ok-push-in-Some c =
    let m = c.args.self.now.justfiles in
    let w = c.push.new.self in
    rows_after m (c.get_mut.follows.lender w) c.args.folder.now w (keys_at m c.args.folder.now ++ c.args.key.now ∷ [])
    (btree_map_updates_str c.args.folder.now m (c.get_mut.follows.lender w) (Some w) ((c.get_mut.follows.holds w).3 (search rules)))
    (ap borrowed c.in_ok-push-in-Some.ensures.items ∙ map-append (λ key. key.now) c.in-Some.keys.now.items (c.args.key ∷ []) ∙ ap (λ o. option_map_or (λ keys. borrowed keys.items) o [] ++ c.args.key.now ∷ []) c.in-Some.ensures.value)
