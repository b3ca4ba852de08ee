-- The files so far are read.
use Rattle.std.proofs.Common.{map, take}
use Rattle.modules_files.specs.Chosen.{view}
use Rattle.modules_sources.proofs.Loading.{AreReadSoFar}
use Rattle.modules_sources.proofs.load.Loader.load_new.Given as goal

abbrev pub invariant-loop-source : goal.invariant-loop-source
invariant-loop-source g l =
    AreReadSoFar (g.E.Expander.expansion l.self.expander.now) l.self.config.now.version l.module l.depth (map view (take l.source-index l.new)) l.initial.numerator l.numerator l.initial.files.items l.files.items
