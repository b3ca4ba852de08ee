-- What was asked so far, and what the rest leads to.
use Rattle.std.proofs.Common.{◌≡◌}
use Rattle.just_host.specs.Kinds.{AsksQuestions}
use Rattle.evaluate_variables.specs.Opened.{reads}
use Rattle.evaluate_variables.proofs.Opening.{OpensPlaces}
use Rattle.evaluate_variables.proofs.assignments.open_assignments.Given as goal

abbrev pub invariant-loop-place : goal.invariant-loop-place
invariant-loop-place g l = record {
  asks : AsksQuestions g.H.Host.goes l.initial.host l.host;
  around : l.scope.outer ≡ l.initial.scope.outer;
  opens : OpensPlaces l.context l.initial.scope.outer (reads l.references) l.context.module.now.assignments.now l.context.module.now.evaluation_order.now l.initial.scope.own l.initial.host.entries l.place-index l.scope.own l.host.entries;
}
