-- What was asked so far, what the places that are left lead to, and that what begins them begins all.
use Rattle.just_host.specs.Kinds.{AsksRequests}
use Rattle.analyze_calls.specs.Opening.{opened_rows}
use Rattle.analyze_calls.proofs.Beginnings.{BeginsOn}
use Rattle.analyze_calls.proofs.Openings.{OpensOn}
use Rattle.analyze_calls.proofs.opening.open_modules.Given as goal

abbrev pub invariant-loop-place : goal.invariant-loop-place
invariant-loop-place g l = record {
  asks : AsksRequests g.H.Host.goes l.initial.host l.host;
  opens : OpensOn l.opening l.modules l.order l.initial.host.entries l.place-index (opened_rows l.opened.items) l.host.entries;
  begins : BeginsOn l.opening l.modules l.order l.initial.host.entries l.place-index l.host.entries;
}
