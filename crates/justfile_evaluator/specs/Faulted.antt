-- The printed texts of a run's faults.
use Rattle.std.specs.Prelude.{ℕ, List, [], ◌∷◌, codes}
use Rattle.just_text.specs.Fields.{with_fields}
use Rattle.just_text.specs.Tokens.{lexeme}
use Rattle.just_host.specs.Failures.{status_text, unconfirmed_text}
use Rattle.just_host.specs.declared.host.Status.TheVariants as ends
use Rattle.evaluate_context.specs.Errors.{error_text}
use Rattle.justfile_evaluator.specs.declared.fault.RunFault.{RunFault}
use Rattle.justfile_evaluator.specs.declared.fault.RunFault.TheVariants.{OutOfMemory, Evaluation, Code, Signal, CouldNotStart, NotConfirmed}

abbrev pub fault_text : RunFault → List ℕ
fault_text OutOfMemory = codes "out of memory"
fault_text (Evaluation error) = with_fields (codes "evaluation") (error_text error ∷ [])
fault_text (Code recipe code is_silent) = status_text (lexeme recipe.token) (ends.Code code)
fault_text (Signal recipe signal is_silent) = status_text (lexeme recipe.token) (ends.Signal signal)
fault_text (CouldNotStart recipe) = status_text (lexeme recipe.token) ends.NotStarted
fault_text (NotConfirmed recipe) = unconfirmed_text (lexeme recipe.token)
