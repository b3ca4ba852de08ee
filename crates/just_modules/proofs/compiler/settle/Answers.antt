-- Aliases change no list, and lead somewhere.
use Rattle.std.proofs.Common.{inl, inr}
use Rattle.resolve_recipes.specs.Named.{AllByName}
use Rattle.just_modules.specs.Aliases.{IsAliasUnknown}
use Rattle.just_modules.specs.Keeping.{IsFirstRefused}
use Rattle.just_modules.specs.Refused.{IsUnsettled}
use Rattle.just_modules.proofs.Keeping.{ok_says, or_gives, refusal_gives}
use Rattle.just_modules.proofs.compiler.settle.Goals as goal

pub returns-in-Ok-clause-filled : goal.returns-in-Ok-clause-filled
returns-in-Ok-clause-filled c = ok_says c.check_all_aliases.result c.in-Ok.ensures.filled

pub returns-in-Ok-clause-refused : goal.returns-in-Ok-clause-refused
returns-in-Ok-clause-refused c =
    let os = c.args.config.now.os in
    let unstable = c.args.config.now.unstable in
    let filled = c.keep_all.new.compilation in
    refusal_gives c.check_all_aliases.result c.check_all_aliases.ensures.refused (λ e. or_gives (λ e. AllByName filled → IsAliasUnknown filled e) (IsUnsettled os unstable c.args.compilation.now) e (λ unknown. inr (filled, c.in-Ok.ensures.filled, unknown)))

pub returns-in-Err-clause-refused : goal.returns-in-Err-clause-refused
returns-in-Err-clause-refused c =
    let os = c.args.config.now.os in
    let unstable = c.args.config.now.unstable in
    or_gives (IsFirstRefused os unstable c.args.compilation.now) (IsUnsettled os unstable c.args.compilation.now) c.in-Err.refusal (λ first. inl first) c.in-Err.ensures.refused
