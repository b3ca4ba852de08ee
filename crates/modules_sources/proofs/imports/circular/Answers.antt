-- The first step that doesn't rise is told; there is one.
use Rattle.std.proofs.Common.{arith}
use Rattle.modules_sources.proofs.Circles.{leads_back_on, no_end}
use Rattle.modules_sources.proofs.imports.circular.Goals as goal

pub returns-then-import-current : goal.returns-then-import-current
returns-then-import-current c = leads_back_on c.args.files.now c.args.first _ c.args.places.now c.loop-rest.rest.now c.loop-rest.invariant c.in-len2-up.len_at_least c.if-import-current.true (c.key_behind.ensures, c.key_behind-then-import-current.ensures)

pub returns : goal.returns
returns c = λ imports cycle. let below = c.in_default.len_below in absurd (no_end c.args.places.now c.loop-rest.rest.now c.loop-rest.invariant (omega (arith, below)) imports cycle)
