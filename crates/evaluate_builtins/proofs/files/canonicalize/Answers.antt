-- The question is about the placed path.
use Rattle.std.proofs.Common.{ap, codes}
use Rattle.just_host.specs.declared.host.Question.TheVariants.{Canonicalize}
use Rattle.evaluate_context.specs.Surroundings.{surroundings_of}
use Rattle.evaluate_builtins.proofs.Named.{path_goes}
use Rattle.evaluate_builtins.specs.Builtins.{at_path}
use Rattle.evaluate_builtins.proofs.Asking.{may_be_asked_goes, not_asked_goes}
use Rattle.evaluate_builtins.proofs.files.canonicalize.Goals as goal

pub returns-clause-evaluates : goal.returns-clause-evaluates
returns-clause-evaluates g c name reading = path_goes name (λ p. Canonicalize p) (codes "canonicalizing") c.args.path.now (surroundings_of c.args.context.now) (ap (λ p. Canonicalize p) c.in_ok-placed.ensures) c.in_ok-answer.ensures.answered (c.text_behind.ensures name)

pub returns-in_err-placed-clause-evaluates : goal.returns-in_err-placed-clause-evaluates
returns-in_err-placed-clause-evaluates g c name reading = not_asked_goes name (at_path name (λ p. Canonicalize p) (codes "canonicalizing") (surroundings_of c.args.context.now) c.args.path.now) c.args.host.now.entries _ c.from_residual.ensures

pub returns-in_err-answer-clause-evaluates : goal.returns-in_err-answer-clause-evaluates
returns-in_err-answer-clause-evaluates g c name reading = may_be_asked_goes name _ _ c.from_residual-in_err-answer.ensures (ap (λ p. Canonicalize p) c.in_ok-placed.ensures) c.in_err-answer.ensures.begun
