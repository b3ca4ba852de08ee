-- The submodules of the files so far wait.
use Rattle.std.proofs.Common.{◌≡◌, ◌≤◌, length, map}
use Rattle.modules_sources.specs.Submodules.{waiting_view}
use Rattle.modules_sources.proofs.Waiting.{AreThere}
use Rattle.modules_sources.proofs.submodules.find_all.Given as goal

abbrev pub invariant-loop-place : goal.invariant-loop-place
invariant-loop-place l = record {
  there : AreThere l.files l.os l.compilation.files.items l.initial.queue.keys l.module l.first l.place (map waiting_view l.initial.queue.pending.items) (map waiting_view l.queue.pending.items);
  early : length l.compilation.files.items ≤ l.first → l.place ≡ l.first;
  chain : l.queue.chain ≡ l.initial.queue.chain;
  keys : l.queue.keys ≡ l.initial.queue.keys;
}
