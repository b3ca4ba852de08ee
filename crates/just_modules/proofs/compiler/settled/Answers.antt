-- What was loaded is settled, or refused.
use Rattle.modules_compilation.specs.declared.compilation.Compilation.{Compilation}
use Rattle.resolve_recipes.specs.Named.{AllByName}
use Rattle.just_modules.specs.Aliases.{AllAliasesLead}
use Rattle.just_modules.specs.Keeping.{AreFilled, OrMemory}
use Rattle.std.proofs.Common.{◌≡◌, Ok, sym, subst, ◌∙◌}
use Rattle.just_modules.specs.Refused.{IsUnsettled}
use Rattle.just_modules.proofs.Keeping.{ends_so, kept_gives, ends_refused, no_value, refusal_gives, same_Ok}
use Rattle.just_modules.proofs.compiler.settled.Goals as goal

pub returns-in-Ok-clause-filled : goal.returns-in-Ok-clause-filled
returns-in-Ok-clause-filled c =
    kept_gives c.unless_refused.result (ends_so (AreFilled c.args.config.now.os c.args.config.now.unstable c.in-Ok.compilation) c.settle-outcome.new.compilation c.settle-outcome.result c.unless_refused.result c.unless_refused.ensures c.settle-outcome.ensures.filled)
    (λ compilation filled. (c.in-Ok.compilation, c.in-Ok.is, filled))

pub returns-in-Ok-clause-aliases : goal.returns-in-Ok-clause-aliases
returns-in-Ok-clause-aliases c = ends_so (λ (compilation : Compilation). AllByName compilation → AllAliasesLead compilation) c.settle-outcome.new.compilation c.settle-outcome.result c.unless_refused.result c.unless_refused.ensures c.settle-outcome.ensures.aliases

pub returns-in-Ok-clause-unsettled : goal.returns-in-Ok-clause-unsettled
returns-in-Ok-clause-unsettled c = ends_refused (λ e. (before : Compilation) → c.args.loaded ≡ Ok before → OrMemory (IsUnsettled c.args.config.now.os c.args.config.now.unstable before) e) c.settle-outcome.new.compilation c.settle-outcome.result c.unless_refused.result
    c.unless_refused.ensures (refusal_gives c.settle-outcome.result c.settle-outcome.ensures.refused (λ e r before is. subst (λ b. OrMemory (IsUnsettled c.args.config.now.os c.args.config.now.unstable b) e) (same_Ok c.in-Ok.compilation before (sym c.in-Ok.is ∙ is)) r))

pub returns-in-Err-clause-unsettled : goal.returns-in-Err-clause-unsettled
returns-in-Err-clause-unsettled c = λ before is. absurd (no_value c.in-Err.error before (sym c.in-Err.is ∙ is))
