-- No variable is refused, or this one; then definitions are kept, or one has too many.
use Rattle.just_modules.proofs.Keeping.{refused_export, refused_twice}
use Rattle.just_modules.proofs.Outcomes.{err_gives, ok_gives}
use Rattle.just_modules.proofs.compiler.kept_among.Goals as goal

pub returns-in-Ok-clause-clear : goal.returns-in-Ok-clause-clear
returns-in-Ok-clause-clear c = ok_gives c.kept.result c.kept.ensures.clear (λ single. record { exported = c.in-Ok.ensures.clear; single = single })

pub returns-in-Ok-clause-refused : goal.returns-in-Ok-clause-refused
returns-in-Ok-clause-refused c = err_gives c.kept.result c.kept.ensures.refused (refused_twice c.args.files.now c.args.allowed c.args.definitions.now c.in-Ok.ensures.clear)

pub returns-in-Err-clause-refused : goal.returns-in-Err-clause-refused
returns-in-Err-clause-refused c = refused_export c.args.files.now c.args.allowed c.args.definitions.now c.in-Err.refusal c.in-Err.ensures.broken
