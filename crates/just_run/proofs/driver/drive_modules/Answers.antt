use Rattle.std.proofs.Common.{Err, ap, subst}
use Rattle.std.specs.String.{string_bytes}
use Rattle.meaning_rules.specs.Overrides.{overrides_of}
use Rattle.just_resolve.specs.Analysis.{IsAnalysis}
use Rattle.just_resolve.specs.Rules.{BreaksNone, IsNamed}
use Rattle.laws_runs.proofs.Defined.Defined.{analyses_are_defined}
use Rattle.just_run.specs.Named.{left_of}
use Rattle.just_run.specs.Passed.{name_fault}
use Rattle.just_run.specs.Sources.{asked_of, broken, clear}
use Rattle.just_run.proofs.Told.{told_defined}
use Rattle.just_run.proofs.Failed.{name_is_no_write, no_write_fails}
use Rattle.just_run.proofs.driver.drive_modules.Goals as goal

pub returns-in-Err-clause-unfailed : goal.returns-in-Err-clause-unfailed
returns-in-Err-clause-unfailed g c = rw c.from.ensures (no_write_fails (g.O.Out.failed c.args.out.now) (name_fault c.in-Err.error) (name_is_no_write c.in-Err.error))

pub returns-in-Ok-clause-names : goal.returns-in-Ok-clause-names
returns-in-Ok-clause-names g c = λ source w stands same_os none is told.
    let analysis = subst (λ texts. IsAnalysis c.args.compilation.now (string_bytes c.args.config.now.base) texts c.in-Ok.analysis) c.as_slice-overrides.ensures (c.in-Ok.ensures.analysis is.by_name) in
    let clear_of_names = subst (λ texts. BreaksNone w (overrides_of texts)) c.as_slice-overrides.ensures (c.in-Ok.ensures.clear w is) in
    clear clear_of_names
    (told_defined source w stands none c.args.compilation.now is (asked_of c.args.action c.args.words.now c.args.config.now) c.args.root.now (left_of c.args.host.now (g.O.Out.written c.args.out.now) (g.O.Out.failed c.args.out.now) c.drive_analysis-driven.new.host (g.O.Out.written c.drive_analysis-driven.new.out) (g.O.Out.failed c.drive_analysis-driven.new.out)) c.drive_analysis-driven.result c.in-Ok.analysis c.file_law.ensures.texts told same_os clear_of_names analysis
    (analyses_are_defined w c.args.compilation.now is c.args.words.now.overrides (string_bytes c.args.config.now.base) c.in-Ok.analysis analysis (string_bytes c.args.config.now.working_directory) c.args.words.now.arguments)
    (c.drive_analysis-driven.ensures.words analysis.modules_are is.by_name))

pub returns-in-Err-clause-names : goal.returns-in-Err-clause-names
returns-in-Err-clause-names g c = λ source w stands same_os none is told. broken c.in-Err.error (ap Err c.from.ensures) (subst (λ texts. IsNamed w (overrides_of texts) c.in-Err.error) c.as_slice-overrides.ensures (c.in-Err.ensures.broken w is))
