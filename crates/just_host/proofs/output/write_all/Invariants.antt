use Rattle.std.proofs.Common.{◌≡◌, length}
use Rattle.just_host.specs.Out.{WentOut}
use Rattle.just_host.proofs.output.write_all.Given as goal

abbrev pub invariant-loop-rest : goal.invariant-loop-rest
invariant-loop-rest g l = record {
  went : WentOut (g.O.Out.written l.initial.out) l.text l.rest (g.O.Out.written l.out);
  quiet : g.O.Out.failed l.out ≡ g.O.Out.failed l.initial.out;
}

abbrev pub decreases-loop-rest : goal.decreases-loop-rest
decreases-loop-rest g l = length l.rest
