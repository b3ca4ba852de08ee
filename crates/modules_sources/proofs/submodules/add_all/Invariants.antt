-- The submodules so far wait, and none of them is above.
use Rattle.std.proofs.Common.{◌≡◌, ◌++◌, map, take}
use Rattle.modules_sources.specs.Submodules.{NoneAbove, found_view, waiting, waiting_view}
use Rattle.modules_sources.proofs.submodules.add_all.Given as goal

abbrev pub invariant-loop-submodule : goal.invariant-loop-submodule
invariant-loop-submodule l = record {
  pending : map waiting_view l.queue.pending.items ≡ map waiting_view l.initial.queue.pending.items ++ map (waiting l.file l.module) (map found_view (take l.submodule-index l.found));
  below : NoneAbove l.initial.queue.keys (map found_view (take l.submodule-index l.found));
  chain : l.queue.chain ≡ l.initial.queue.chain;
  keys : l.queue.keys ≡ l.initial.queue.keys;
}
