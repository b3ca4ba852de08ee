-- Each item is written after the blank lines that wait, and a blank line waits.
use Rattle.std.proofs.Common.{◌≡◌, ◌<◌, ◌≤◌, [], ◌++◌, length, arith, rules, refl, sym, ap, ◌∙◌}
use Rattle.std.proofs.Output.{has_written_append, has_written_of_eq}
use Rattle.tree_items.specs.Files.{item_shape, item_shapes, text_behind, file_text}
use Rattle.tree_items.proofs.Filed.{blank_waits, item_behind, file_end}
use Rattle.tree_items.proofs.ast.Ast.print.Goals as goal
use Rattle.tree_items.proofs.ast.Ast.print.Goals.{then-is_blank, else-is_blank+in_ok-print_behind}

pub loop-item-init : goal.loop-item-init
loop-item-init g c = (omega arith, λ plain. ([], record { wrote = record { parts = []; calls = refl; whole = refl }; plain = plain }, refl))

pub loop-item-preserved : goal.loop-item-preserved
loop-item-preserved g c =
    let items = c.deref-item-items.result.now in
    let i = c.loop-item.item-index in
    let item = c.item-item.result in
    let lt : i < length items = omega arith in
    let few : c.loop-item.blank ≤ i = c.loop-item.invariant.0 in
    elim c.if-is_blank.branch [
      | then-is_blank w ↦ (
        rw w.blank-is (omega arith),
        λ plain.
            let (done, wrote, more) = c.loop-item.invariant.1 plain in
            let empty = sym c.is_blank.ensures ∙ w.if-is_blank.true in
            (done, rw w.f-is wrote, rw w.blank-is (blank_waits c.args.indentation.now items i c.loop-item.blank item done _ lt c.item-item.is empty more)),
      )
      | else-is_blank+in_ok-print_behind w ↦ (
        rw w.blank-is (omega arith),
        λ plain.
            let (done, wrote, more) = c.loop-item.invariant.1 plain in
            let full = sym c.is_blank.ensures ∙ w.if-is_blank.false in
            let next = w.print_behind.ensures wrote.plain (search rules) in (
              done ++ text_behind c.args.indentation.now c.loop-item.blank (item_shape item),
              rw w.f-is (has_written_append _ _ _ _ _ _ wrote next),
              rw w.blank-is (item_behind c.args.indentation.now items i c.loop-item.blank item done _ lt c.item-item.is full more),
            ),
      )
    ]

pub returns : goal.returns
returns g c plain ok =
    let (done, wrote, more) = c.loop-item.invariant.1 plain in
    let items = c.deref-item-items.result.now in
    let le : length items ≤ c.loop-item.item-index = omega arith in
    let same : items ≡ c.args.self.now.items.items = c.deref-item-items.ensures.value in
    has_written_of_eq _ _ _ _ _ (file_end c.args.indentation.now items c.loop-item.item-index c.loop-item.blank done _ le more ∙ ap (λ xs. file_text c.args.indentation.now (item_shapes xs)) same) wrote
