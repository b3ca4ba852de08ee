-- The keys that stand at the folder are put with what was found, or there is none.
use Rattle.std.proofs.Common.{[], ◌||◌, ap, ◌∙◌}
use Rattle.std.specs.List.{list_any}
use Rattle.std.specs.Option.{option_map_or}
use Rattle.std.specs.Str.{bytes_eq}
use Rattle.modules_files.specs.Found.{borrowed, has_text}
use Rattle.modules_files.proofs.Sets.{on_ok, or_none}
use Rattle.modules_files.proofs.folders.Folders.find.Goals as goal

pub returns-in-Some : goal.returns-in-Some
returns-in-Some c =
    on_ok c.put_all.result c.put_all.ensures (λ put key.
    put key ∙ ap (λ ks. has_text c.args.found.now key || list_any (bytes_eq key) ks) (ap borrowed c.as_slice.ensures.value ∙ ap (λ o. option_map_or (λ keys. borrowed keys.items) o []) c.in-Some.ensures.value))

pub returns-in-None : goal.returns-in-None
returns-in-None c = λ key.
    or_none (has_text c.args.found.now key) ∙ ap (λ o. has_text c.args.found.now key || list_any (bytes_eq key) (option_map_or (λ keys. borrowed keys.items) o [])) c.in-None.ensures.value
