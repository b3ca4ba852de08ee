-- One file more is read, or refused.
use Rattle.std.proofs.Common.{map, subst, take_all}
use Rattle.std.proofs.lemmas.Result.{err_from_is_err_and}
use Rattle.modules_files.specs.Chosen.{view}
use Rattle.modules_sources.proofs.Loading.{AreReadSoFar, none_read, read_further, unread_further}
use Rattle.modules_sources.proofs.load.Loader.load_new.Goals as goal

pub loop-source-init : goal.loop-source-init
loop-source-init g c = none_read (g.E.Expander.expansion c.args.self.now.expander.now) c.args.self.now.config.now.version c.args.module c.args.depth c.args.numerator.now c.args.files.now.items

pub loop-source-preserved : goal.loop-source-preserved
loop-source-preserved g c =
    read_further (g.E.Expander.expansion c.args.self.now.expander.now) c.args.self.now.config.now.version c.args.module c.args.depth c.args.new.now c.loop-source.source-index _ c.args.numerator.now c.loop-source.numerator c.load_file.new.numerator
    c.args.files.now.items c.loop-source.files.items c.load_file.new.files.items c.loop-source-test.true c.loop-source.invariant c.in_ok-load_file.ensures.read

pub returns-in_err-load_file-clause-refused : goal.returns-in_err-load_file-clause-refused
returns-in_err-load_file-clause-refused g c =
    let p = err_from_is_err_and c.from_residual.result c.from_residual.ensures.1 in
    rw (p.1, p.2) (λ n. unread_further (g.E.Expander.expansion c.args.self.now.expander.now) c.args.self.now.config.now.version c.args.module c.args.depth c.args.new.now c.loop-source.source-index _ c.args.numerator.now c.loop-source.numerator
    c.load_file.new.numerator c.args.files.now.items c.loop-source.files.items c.in_err-load_file.field-0.0 c.loop-source-test.true c.loop-source.invariant (c.in_err-load_file.ensures.refused n))

pub returns-clause-read : goal.returns-clause-read
returns-clause-read g c =
    subst (λ new. AreReadSoFar (g.E.Expander.expansion c.args.self.now.expander.now) c.args.self.now.config.now.version c.args.module c.args.depth (map view new) c.args.numerator.now c.loop-source.numerator c.args.files.now.items
    c.loop-source.files.items) (take_all c.loop-source.source-index c.args.new.now c.loop-source-test.false) c.loop-source.invariant
