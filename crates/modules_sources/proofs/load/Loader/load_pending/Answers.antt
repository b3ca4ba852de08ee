-- One module after the other is loaded.
use Rattle.std.proofs.lemmas.Result.{err_from_is_err_and}
use Rattle.modules_sources.proofs.load.Loader.load_pending.Goals as goal

pub loop-init : goal.loop-init
loop-init g c = λ start is_read own so. so

pub loop-preserved : goal.loop-preserved
loop-preserved g c = λ start is_read own so. c.in_ok-load_next.ensures.loaded start is_read own (c.loop.invariant start is_read own so)

pub returns-clause-loaded : goal.returns-clause-loaded
returns-clause-loaded g c = λ start is_read own so. c.in_ok-load_next.ensures.loaded start is_read own (c.loop.invariant start is_read own so)

pub returns-in_err-load_next-clause-refused : goal.returns-in_err-load_next-clause-refused
returns-in_err-load_next-clause-refused g c =
    let p = err_from_is_err_and c.from_residual.result c.from_residual.ensures.1 in
    rw (p.1, p.2) (λ n start is_read own so. c.in_err-load_next.ensures.refused n start is_read own (c.loop.invariant start is_read own so))
