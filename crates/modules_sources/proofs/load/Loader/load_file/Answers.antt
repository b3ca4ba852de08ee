-- The file that is read stands after the others.
use Rattle.modules_files.specs.Chosen.{view}
use Rattle.modules_sources.specs.Loading.{IsRead, IsUnread}
use Rattle.modules_sources.proofs.Outcomes.{err_holds, if_err, ok_holds, on_ok}
use Rattle.modules_sources.proofs.load.Loader.load_file.Goals as goal

pub returns-clause-read : goal.returns-clause-read
returns-clause-read g c = on_ok c.add_file.result c.add_file.ensures.added (λ added. (
  added.0,
  ok_holds (IsRead (g.E.Expander.expansion c.args.self.now.expander.now) c.args.self.now.config.now.version c.args.module c.args.depth (view c.args.source) c.args.numerator.now c.read_file-read.new.numerator) c.read_file-read.result added.0 added.1
      c.read_file-read.ensures.read,
  added.2,
))

pub returns-clause-refused : goal.returns-clause-refused
returns-clause-refused g c = if_err c.add_file.result c.add_file.ensures.refused (λ e is n.
    err_holds (IsUnread (g.E.Expander.expansion c.args.self.now.expander.now) c.args.self.now.config.now.version c.args.module c.args.depth (view c.args.source) c.read_file-read.new.numerator) c.read_file-read.result e (is n)
    c.read_file-read.ensures.refused)
