-- Items that are written as others are in their order.
use Rattle.std.proofs.Common.{◌≡◌, ℕ, ◌+◌, List, length, map, get_or, sym, ap, ◌∙◌, arith}
use Rattle.std.proofs.Math.ListN.{get_or-map}
use Rattle.std.proofs.lemmas.List.{length-map}
use Rattle.std.specs.List.Sorted.{IsSorted}
use Rattle.tree_attributes.specs.declared.attribute_item.AttributeItem.{AttributeItem}
use Rattle.tree_attributes.specs.Sets.Order.{item_cmp, item_shape}
use Rattle.tree_attributes.specs.Sets.Sets.{written_item}

shape_at : (old new : List AttributeItem) (k : ℕ) (d : AttributeItem) → map written_item new ≡ map written_item old → item_shape (get_or new k d) ≡ item_shape (get_or old k d)
shape_at old new k d same =
    ap (λ w. w.1) (sym (get_or-map written_item new k d) ∙ ap (λ l. get_or l k (written_item d)) same ∙ get_or-map written_item old k d)

pub stays_in_order : (old new : List AttributeItem) → map written_item new ≡ map written_item old → IsSorted item_cmp old → IsSorted item_cmp new
stays_in_order old new same up = λ k d low lt.
    let long : length new ≡ length old = sym (length-map new written_item) ∙ ap length same ∙ length-map old written_item in
    rw (shape_at old new (k + 1) d same, shape_at old new k d same) (up k d low (omega (arith, lt, long)))
