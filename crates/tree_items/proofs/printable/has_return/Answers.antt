-- The last part of a line is the last of its parts.
use Rattle.std.proofs.Common.{◌-◌, length, map, slice_get, ap, sym, ◌∙◌}
use Rattle.std.proofs.lemmas.List.{length-map}
use Rattle.std.proofs.lemmas.Option.{slice_get-map}
use Rattle.tree_items.specs.Lines.{piece_of, ends_in_return}
use Rattle.tree_items.proofs.printable.has_return.Goals as goal

pub returns : goal.returns
returns c =
    let parts = c.args.line.now.fragments.items in
    c.ends_in_return.ensures
    ∙ ap ends_in_return (sym (slice_get-map piece_of parts (length parts - 1)))
    ∙ ap (λ n. ends_in_return (slice_get (map piece_of parts) (n - 1))) (sym (length-map parts piece_of))
