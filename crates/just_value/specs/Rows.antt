-- Elements in an order, in one vector or in blocks.
use Rattle.std.specs.Prelude.{List}
use Rattle.just_value.specs.declared.row.Elements.{Elements}
use Rattle.just_value.specs.declared.row.Elements.TheVariants.{Few, Many}

abbrev pub elements_of : {T : Type 0} → Elements T → List T
elements_of (Few elements) = elements.items
elements_of (Many blocks) = blocks.value
