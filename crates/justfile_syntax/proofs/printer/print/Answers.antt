use Rattle.std.proofs.Common.{◌++◌, ℕ, List, IsOk, string_bytes, ap, ◌∙◌, rules}
use Rattle.std.proofs.lemmas.Fmt.{contents_after_writes}
use Rattle.tree_items.specs.Files.{file_text, item_shapes}
use Rattle.justfile_syntax.proofs.printer.print.Goals as goal

pub returns-in-Ok : goal.returns-in-Ok
returns-in-Ok c =
    let text : List ℕ = file_text c.args.indentation.now (item_shapes c.args.ast.now.items.items) in
    let ok : IsOk c.print.result = search rules in
    ap string_bytes c.into_inner.ensures ∙ contents_after_writes _ string_bytes (λ w l v t. t) _ text _ (c.print.ensures c.new-f.ensures.plain ok).wrote ∙ ap (λ l. l ++ text) (ap string_bytes c.new-f.ensures.writer ∙ c.new.ensures.bytes)
