use Rattle.std.proofs.Common.{sym, subst, refl}
use Rattle.std.proofs.lemmas.Result.{err_from_is_err_and}
use Rattle.just_host.specs.AskingLaws.{asked_nothing}
use Rattle.just_host.specs.Kinds.{Only}
use Rattle.just_host.specs.KindsLaws.{only_nothing}
use Rattle.just_run.specs.Named.{left_of}
use Rattle.just_run.specs.Passed.{root_fault}
use Rattle.just_run.specs.Root.{IsUnread, given, reader_of}
use Rattle.just_run.specs.Sources.{asked_of, unread}
use Rattle.just_run.specs.declared.root.RootFault.TheVariants as roots
use Rattle.just_run.proofs.Failed.{no_write_fails, root_is_no_write}
use Rattle.just_run.proofs.Sources.{told_of_root}
use Rattle.just_run.proofs.driver.drive_words.Goals as goal

pub returns-in_err-words-clause-asked : goal.returns-in_err-words-clause-asked
returns-in_err-words-clause-asked g c = λ kinds may. asked_nothing (Only kinds g.H.Host.goes) (only_nothing kinds g.H.Host.goes g.met.H.Host.nothing) c.args.host.now

pub returns-in_err-root-clause-asked : goal.returns-in_err-root-clause-asked
returns-in_err-root-clause-asked g c = λ kinds may. asked_nothing (Only kinds g.H.Host.goes) (only_nothing kinds g.H.Host.goes g.met.H.Host.nothing) c.args.host.now

pub returns-clause-asked : goal.returns-clause-asked
returns-clause-asked g c = λ kinds may. c.drive_files.ensures.asks kinds may c.args.host.now (asked_nothing (Only kinds g.H.Host.goes) (only_nothing kinds g.H.Host.goes g.met.H.Host.nothing) c.args.host.now)

pub returns-in_err-root-clause-unfailed : goal.returns-in_err-root-clause-unfailed
returns-in_err-root-clause-unfailed g c =
    let p = err_from_is_err_and c.from_residual-in_err-root.result c.from_residual-in_err-root.ensures.1 in
    rw (p.1, p.2) (no_write_fails (g.O.Out.failed c.args.out.now) (root_fault c.in_err-root.field-0.0) (root_is_no_write c.in_err-root.field-0.0))

pub returns-in_err-words-clause-sources : goal.returns-in_err-words-clause-sources
returns-in_err-words-clause-sources g c =
    let p = err_from_is_err_and c.from_residual.result c.from_residual.ensures.1 in
    rw (p.1, p.2) (unread roots.OutOfMemory refl tt)

pub returns-in_err-root-clause-sources : goal.returns-in_err-root-clause-sources
returns-in_err-root-clause-sources g c =
    let p = err_from_is_err_and c.from_residual-in_err-root.result c.from_residual-in_err-root.ensures.1 in
    rw (p.1, p.2) (unread c.in_err-root.field-0.0 refl
    (subst (λ w. IsUnread (given (reader_of (g.E.Expander.expansion c.args.expander.now) c.args.config.now.version) c.args.sources.now c.args.roots.now w) c.in_err-root.field-0.0) c.in_ok-words.ensures c.in_err-root.ensures.err))

pub returns-clause-sources : goal.returns-clause-sources
returns-clause-sources g c = rw (sym c.in_ok-words.ensures)
    (told_of_root c.args.sources.now c.args.roots.now c.in_ok-words.words (g.E.Expander.expansion c.args.expander.now) c.args.config.now.version (c.worlds_are_given.ensures c.file_law.ensures.files) c.args.config.now.os c.args.config.now.unstable (asked_of c.args.action c.in_ok-words.words c.args.config.now) c.in_ok-root.root.path.now c.in_ok-root.root.parsed
    (left_of c.args.host.now (g.O.Out.written c.args.out.now) (g.O.Out.failed c.args.out.now) c.drive_files.new.host (g.O.Out.written c.drive_files.new.out) (g.O.Out.failed c.drive_files.new.out)) c.drive_files.result c.in_ok-root.ensures.read c.drive_files.ensures.sources)
