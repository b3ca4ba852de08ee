-- Attributes in order fit where they fit as they are written.
use Rattle.std.specs.Prelude.{◌≡◌, List}
use Rattle.tree_attributes.specs.Attributes.{AttributeShape}
use Rattle.tree_attributes.specs.Sets.Order.{in_order}
use Rattle.tree_items.specs.Files.{ItemShape}
use Rattle.parse_expressions.specs.Literals.{Expansion}
use Rattle.parse_attributed_items.specs.Fitting.{Fit}
use Rattle.laws_printing.specs.Printing.Attributes.{AllOf, IsSpelled}

-- attributes before an item that break no rule break none in their order
abbrev pub FitInOrder : Type 0
FitInOrder = (expansion : Expansion) (as' : List AttributeShape) (item : ItemShape) → Fit expansion as' item → Fit expansion (in_order as') item

-- in order they stay as they are
abbrev pub OrderStays : Type 0
OrderStays = (as' : List AttributeShape) → in_order (in_order as') ≡ in_order as'

-- and each is spelled that was spelled
abbrev pub SpelledInOrder : Type 0
SpelledInOrder = (expansion : Expansion) (as' : List AttributeShape) → AllOf (IsSpelled expansion) as' → AllOf (IsSpelled expansion) (in_order as')
