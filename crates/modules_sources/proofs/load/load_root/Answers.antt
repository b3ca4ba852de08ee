-- What was loaded is the answer.
use Rattle.std.proofs.Common.{true, ◌≢◌}
use Rattle.modules_sources.specs.Loaded.{AreLoaded, first_numbers, IsRefused}
use Rattle.modules_sources.proofs.Outcomes.{on_ok, unless, if_err, refused_so}
use Rattle.modules_compilation.specs.declared.error.Error.TheVariants.{OutOfMemory}
use Rattle.modules_sources.proofs.load.load_root.Goals as goal

pub returns-clause-loaded : goal.returns-clause-loaded
returns-clause-loaded g c =
    unless (AreLoaded c.args.sources.now (g.E.Expander.expansion c.args.expander.now) c.args.config.now.version c.args.config.now.os first_numbers true c.args.root.now) c.load_text-outcome.new.compilation c.load_text-outcome.result c.unless_refused.result c.unless_refused.ensures
    (on_ok c.load_text-outcome.result c.load_text-outcome.ensures.loaded (λ on. on c.new-compilation.ensures.files c.new-compilation.ensures.modules))

pub returns-clause-refused : goal.returns-clause-refused
returns-clause-refused g c = refused_so (λ e. e ≢ OutOfMemory → IsRefused c.args.sources.now (g.E.Expander.expansion c.args.expander.now) c.args.config.now.version c.args.config.now.os first_numbers true c.args.root.now e)
    c.load_text-outcome.new.compilation c.load_text-outcome.result c.unless_refused.result c.unless_refused.ensures
    (if_err c.load_text-outcome.result c.load_text-outcome.ensures.refused (λ e refused n. refused n c.new-compilation.ensures.files c.new-compilation.ensures.modules))
