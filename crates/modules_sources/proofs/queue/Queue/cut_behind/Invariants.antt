-- The chain is cut as before, and its keys are kept.
use Rattle.std.proofs.Common.{◌≡◌, ◌+◌, length}
use Rattle.modules_sources.specs.Queue.{IsChain, cut_to}
use Rattle.modules_sources.proofs.queue.Queue.cut_behind.Given as goal

abbrev pub invariant-loop : goal.invariant-loop
invariant-loop l = record {
  pending : l.self.pending ≡ l.initial.self.pending;
  shorter : length l.self.chain.items + l.counter ≡ length l.initial.self.chain.items;
  cut : cut_to l.parent l.self.chain.items ≡ cut_to l.parent l.initial.self.chain.items;
  keys : IsChain l.initial.self → IsChain l.self;
}
