-- Each turn loads a module, and memory has room for fewer than 2 ^ 63.
use Rattle.std.proofs.Common.{◌^◌, ◌-◌, Bool, vec_len, List, ℕ}
use Rattle.just_text.specs.Numbers.{Numbers}
use Rattle.modules_sources.specs.Loaded.{AreLoadedSoFar}
use Rattle.modules_sources.proofs.load.Loader.load_pending.Given as goal

abbrev pub decreases-loop : goal.decreases-loop
decreases-loop g l = 2 ^ 63 - vec_len l.compilation.modules

abbrev pub invariant-loop : goal.invariant-loop
invariant-loop g l = (start : Numbers) (is_read : Bool) (own : List ℕ)
    → AreLoadedSoFar l.self.files.sources.now (g.E.Expander.expansion l.self.expander.now) l.self.config.now.version l.self.config.now.os start is_read l.self.files own l.initial.compilation l.initial.numerator l.initial.queue.pending.items l.initial.queue
    → AreLoadedSoFar l.self.files.sources.now (g.E.Expander.expansion l.self.expander.now) l.self.config.now.version l.self.config.now.os start is_read l.self.files own l.compilation l.numerator l.queue.pending.items l.queue
