-- The cooked texts of items but recipes and settings.
use Rattle.std.specs.Prelude.{IfSome}
use Rattle.tree_items.specs.declared.ast.Item.{Item}
use Rattle.tree_items.specs.declared.ast.Item.TheVariants.{Assignment, Function, Import, Module}
use Rattle.parse_expressions.specs.Literals.{Origin, IsCooked}
use Rattle.parse_expressions.specs.Strings.{IsCookedString}

-- the expression or the string of the item, if it has one, holds what its strings stand for
abbrev pub IsCookedItem : Origin → Item → Type 0
IsCookedItem origin (Assignment a) = IsCooked origin a.value
IsCookedItem origin (Function f) = IsCooked origin f.body
IsCookedItem origin (Import i) = IsCookedString origin.expansion i.path
IsCookedItem origin (Module m) = IfSome m.path (IsCookedString origin.expansion)
IsCookedItem origin other = Unit {0}
