-- The texts are given, and what comes of them is refused.
use Rattle.std.proofs.Common.{◌≢◌}
use Rattle.std.proofs.lemmas.Result.{IfErr-weaker}
use Rattle.resolve_recipes.specs.Named.{AllByName}
use Rattle.just_resolve.specs.Analysis.{IsRefused, IsRefusedWith, others}
use Rattle.just_resolve.specs.declared.error.Error.TheVariants.{OutOfMemory}
use Rattle.just_resolve.proofs.analyzer.analyze_words.Goals as goal

pub returns-clause-refused : goal.returns-clause-refused
returns-clause-refused c =
    let compilation = c.args.compilation.now in
    let overrides = c.in_ok-overrides.overrides in
    IfErr-weaker c.analyzed.result (λ error. error ≢ OutOfMemory → AllByName compilation → IsRefusedWith compilation overrides error)
    (λ error. error ≢ OutOfMemory → AllByName compilation → IsRefused compilation c.args.overrides.now error)
    (λ error refused some all. others overrides (c.in_ok-overrides.ensures.given all) (refused some all))
    c.analyzed.ensures.refused
