-- What is refused comes of the lists that modules keep.
use Rattle.std.proofs.Common.{◌≢◌}
use Rattle.std.proofs.lemmas.Result.{IfErr-weaker}
use Rattle.just_resolve.specs.Variables.{AreRefused, AreVariablesRefused}
use Rattle.just_resolve.specs.declared.error.Error.TheVariants.{OutOfMemory}
use Rattle.just_resolve.proofs.module_variables.module_variables.Goals as goal

pub returns-clause-refused : goal.returns-clause-refused
returns-clause-refused c =
    IfErr-weaker c.read_variables.result (λ error. error ≢ OutOfMemory → AreRefused c.args.overrides.now c.in_ok-lists.lists.items error) (λ error. error ≢ OutOfMemory → AreVariablesRefused c.args.overrides.now c.args.compilation.now error)
    (λ error refused some. record { lists = c.in_ok-lists.lists.items; of = c.in_ok-lists.ensures; refused = refused some })
    c.read_variables.ensures.refused
