-- With the recipes to come, each row has what all marked ones read.
use Rattle.std.proofs.Common.{◌≡◌, ℕ, ◌++◌, drop}
use Rattle.std.specs.Prelude.{slice_get, option_map}
use Rattle.resolve_order.specs.Needs.{rows}
use Rattle.resolve_analysis.specs.Opening.{marked_reads}
use Rattle.resolve_analysis.proofs.opening.add_marked_reads.Given as goal

abbrev pub invariant-loop-place : goal.invariant-loop-place
invariant-loop-place l = (home : ℕ) → option_map (λ row. row ++ marked_reads home (drop l.place l.recipes) (drop l.place l.marks)) (slice_get (rows l.rows) home) ≡ option_map (λ row. row ++ marked_reads home l.recipes l.marks) (slice_get (rows l.initial.rows) home)
