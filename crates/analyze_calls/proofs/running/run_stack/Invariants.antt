use Rattle.std.proofs.Common.{◌≡◌, false}
use Rattle.analyze_calls.specs.Asked.{AsksIn}
use Rattle.analyze_calls.specs.Runs.Rest.{Leads, RestBegins}
use Rattle.analyze_calls.specs.Runs.Cut.{parts_cut}
use Rattle.analyze_calls.specs.Runs.Tallies.{HasCounted, tally_of}
use Rattle.analyze_calls.specs.Runs.Weight.{weight}
use Rattle.analyze_calls.proofs.running.run_stack.Given as goal

abbrev pub decreases-loop-frame : goal.decreases-loop-frame
decreases-loop-frame g l = weight l.stack

-- what was asked and counted so far; what the stack does from here, it did from the start; and what was recorded is the beginning of what it does
abbrev pub invariant-loop-frame : goal.invariant-loop-frame
invariant-loop-frame g l = record {
  asked : AsksIn l.runner.contexts.now g.H.Host.goes l.fn.host l.host;
  counted : HasCounted l.fn.tally l.tally;
  leads : l.host.exhausted ≡ false → Leads (parts_cut l.runner) l.fn.stack l.fn.done l.fn.host.entries (tally_of l.fn.tally) l.stack l.done l.host.entries (tally_of l.tally);
  begun : RestBegins (parts_cut l.runner) l.fn.stack l.fn.done l.fn.host.entries (tally_of l.fn.tally) l.host.entries;
}
