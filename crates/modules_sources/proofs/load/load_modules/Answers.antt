-- What was loaded is the answer.
use Rattle.std.proofs.Common.{◌≡◌, Bool, true, ◌≢◌}
use Rattle.just_text.specs.Numbers.{Numbers}
use Rattle.modules_compilation.specs.declared.compilation.Compilation.{Compilation}
use Rattle.modules_sources.specs.Loaded.{AreLoaded, IsRootRead, IsRefused}
use Rattle.modules_compilation.specs.declared.error.Error.TheVariants.{OutOfMemory}
use Rattle.modules_sources.proofs.Outcomes.{on_ok, unless, if_err, refused_so}
use Rattle.modules_sources.proofs.load.load_modules.Goals as goal

pub returns-clause-loaded : goal.returns-clause-loaded
returns-clause-loaded g c =
    let sources = c.args.sources.now in
    let expansion = g.E.Expander.expansion c.args.expander.now in
    let version = c.args.config.now.version in
    unless (λ (compilation : Compilation). (start : Numbers) (is_read : Bool) → (is_read ≡ true → IsRootRead sources expansion version start c.args.root.now c.args.parsed) → AreLoaded sources expansion version c.args.config.now.os start is_read c.args.root.now compilation)
    c.load_parsed-outcome.new.compilation c.load_parsed-outcome.result c.unless_refused.result c.unless_refused.ensures
    (on_ok c.load_parsed-outcome.result c.load_parsed-outcome.ensures.loaded (λ on start is_read. on start is_read c.new-compilation.ensures.files c.new-compilation.ensures.modules))

pub returns-clause-refused : goal.returns-clause-refused
returns-clause-refused g c =
    let sources = c.args.sources.now in
    let expansion = g.E.Expander.expansion c.args.expander.now in
    let version = c.args.config.now.version in
    refused_so (λ e. e ≢ OutOfMemory → (start : Numbers) (is_read : Bool) → (is_read ≡ true → IsRootRead sources expansion version start c.args.root.now c.args.parsed) → IsRefused sources expansion version c.args.config.now.os start is_read c.args.root.now e)
    c.load_parsed-outcome.new.compilation c.load_parsed-outcome.result c.unless_refused.result c.unless_refused.ensures
    (if_err c.load_parsed-outcome.result c.load_parsed-outcome.ensures.refused (λ e refused n start is_read. refused n start is_read c.new-compilation.ensures.files c.new-compilation.ensures.modules))
