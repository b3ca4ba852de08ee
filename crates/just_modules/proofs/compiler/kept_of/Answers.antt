-- The files break no rule, or one of their items does.
use Rattle.just_modules.specs.Keeping.{IsWhole}
use Rattle.just_modules.proofs.Keeping.{definition_refused, item_refused, kept_by, kept_clear, whole_by}
use Rattle.just_modules.proofs.Outcomes.{err_gives}
use Rattle.just_modules.proofs.compiler.kept_of.Goals as goal

pub returns-in-Ok-clause-kept : goal.returns-in-Ok-clause-kept
returns-in-Ok-clause-kept c =
    let os = c.args.config.now.os in
    let unstable = c.args.config.now.unstable in
    let files = c.args.files.now in
    let own = c.files_of-own.result.now in
    let truths = c.new-truths.result in
    let whole : IsWhole os unstable files c.args.range = whole_by os unstable files c.args.range own truths c.files_of-own.ensures c.new-truths.ensures c.in-Ok.ensures.clear in
    kept_clear c.kept_among.result c.kept_among.ensures.clear c.kept_among.ensures.kept
    (λ kept clear are. kept_by os unstable files c.args.range own truths c.files_of-own.ensures c.new-truths.ensures c.allowed.result c.allowed.ensures c.args.definitions.now whole kept.items clear are)

pub returns-in-Ok-clause-refused : goal.returns-in-Ok-clause-refused
returns-in-Ok-clause-refused c =
    let os = c.args.config.now.os in
    let unstable = c.args.config.now.unstable in
    let files = c.args.files.now in
    let own = c.files_of-own.result.now in
    let truths = c.new-truths.result in
    let whole : IsWhole os unstable files c.args.range = whole_by os unstable files c.args.range own truths c.files_of-own.ensures c.new-truths.ensures c.in-Ok.ensures.clear in
    err_gives c.kept_among.result c.kept_among.ensures.refused (definition_refused os unstable files c.args.range own truths c.files_of-own.ensures c.new-truths.ensures c.allowed.result c.allowed.ensures c.args.definitions.now whole)

pub returns-in-Err-clause-refused : goal.returns-in-Err-clause-refused
returns-in-Err-clause-refused c =
    item_refused c.args.config.now.os c.args.config.now.unstable c.args.files.now c.args.range c.files_of-own.result.now c.new-truths.result c.files_of-own.ensures c.new-truths.ensures c.args.definitions.now c.in-Err.refusal c.in-Err.ensures.broken
