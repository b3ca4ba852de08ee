-- The calls that a dependency brings about, as contracts see them.
use Rattle.std.specs.Prelude.{List, [], ◌∷◌}
use Rattle.analyze_calls.specs.Calls.{CallRow, row_of, rows}
use Rattle.analyze_calls.specs.declared.block.Brought.{Brought}
use Rattle.analyze_calls.specs.declared.block.Brought.TheVariants.{One, Each}

abbrev pub brought_rows : Brought → List CallRow
brought_rows (One call) = row_of call ∷ []
brought_rows (Each calls) = rows calls.items
