-- The run of the lines so far narrows over the rest to the run of all.
use Rattle.std.proofs.Common.{◌≡◌, length}
use Rattle.std.specs.Prelude.{fold}
use Rattle.std.specs.Option.{option_copied}
use denote.Text.{Utf8}
use denote.Shadow.{shadow}
use Rattle.tree_expressions.specs.Indentation.{narrowed, lines_of, indentation}
use Rattle.tree_expressions.proofs.indentation.indentation.Given as goal

abbrev pub invariant-loop-rest : goal.invariant-loop-rest
invariant-loop-rest l = shadow (Utf8 l.rest) × (fold narrowed (option_copied l.run) (lines_of l.rest) ≡ indentation (lines_of l.text))

abbrev pub decreases-loop-rest : goal.decreases-loop-rest
decreases-loop-rest l = length l.rest
