-- What the map finds is the file at the key.
use Rattle.std.proofs.Common.{Some, sym, ap, ◌∙◌, string_bytes}
use Rattle.std.specs.BTreeMap.{get_by_text}
use Rattle.modules_files.proofs.Sets.{found_file, with_key}
use Rattle.modules_files.proofs.search.file_at.Goals as goal

pub returns-in-Some : goal.returns-in-Some
returns-in-Some c =
    ap (λ k. Some (with_key k c.as_str-in-Some.result.now)) c.as_str.ensures.value
    ∙ found_file c.args.sources.now c.args.key.now (string_bytes c.in-Some.key.now) c.as_str-in-Some.result.now (get_by_text c.args.sources.now c.args.key.now) c.in-Some.text.now c.in-Some.ensures.same_key c.in-Some.ensures.value (sym c.as_str-in-Some.ensures.value)
