-- What the rest leads to.
use Rattle.std.proofs.Common.{◌≡◌}
use Rattle.std.specs.BTreeSet.{contains}
use Rattle.std.specs.Ordering.{nat_cmp}
use Rattle.evaluate_variables.specs.Settled.{values_in, excluded_in}
use Rattle.evaluate_variables.proofs.Settling.{SettlesPlaces}
use Rattle.evaluate_variables.proofs.const_evaluator.evaluate_constants.Given as goal

abbrev pub invariant-loop-place : goal.invariant-loop-place
invariant-loop-place l =
    let first = l.initial.constants in
    record {
      lists : l.constants.lists ≡ first.lists;
      around : l.constants.scope.outer ≡ first.scope.outer;
      settles : SettlesPlaces first.lists first.scope.outer l.overrides (contains nat_cmp l.references) l.assignments l.evaluation_order (values_in first) (excluded_in first) l.place-index (values_in l.constants) (excluded_in l.constants);
    }
