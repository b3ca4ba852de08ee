-- The question is about the placed path, where there is one.
use Rattle.std.proofs.Common.{◌≡◌, ◌==◌, true, false, length, ap, rules}
use Rattle.just_host.specs.declared.host.Question.TheVariants.{Exists}
use Rattle.evaluate_context.specs.Surroundings.{surroundings_of}
use Rattle.evaluate_builtins.specs.Builtins.{exists_dialogue}
use Rattle.evaluate_builtins.proofs.Asking.{existence_goes, existence_none, existence_told, no_path, not_asked_goes, some_path}
use Rattle.evaluate_builtins.proofs.files.path_exists.Goals as goal

pub returns-then-is_empty-clause-evaluates : goal.returns-then-is_empty-clause-evaluates
returns-then-is_empty-clause-evaluates g c name reading =
    let none : (length c.args.path.now == 0) ≡ true = search rules in
    existence_none name (surroundings_of c.args.context.now) c.args.path.now _ (no_path c.args.path.now none) c.truth_value.ensures

pub returns-in_err-placed-clause-evaluates : goal.returns-in_err-placed-clause-evaluates
returns-in_err-placed-clause-evaluates g c name reading = not_asked_goes name (exists_dialogue name (surroundings_of c.args.context.now) c.args.path.now) c.args.host.now.entries _ c.from_residual.ensures

pub returns-in_err-answer-clause-evaluates : goal.returns-in_err-answer-clause-evaluates
returns-in_err-answer-clause-evaluates g c name reading =
    let some : (length c.args.path.now == 0) ≡ false = search rules in
    existence_goes name (surroundings_of c.args.context.now) c.args.path.now _ (some_path c.args.path.now some) c.from_residual-in_err-answer.ensures (ap (λ p. Exists p) c.in_ok-placed.ensures) c.in_err-answer.ensures.begun

pub returns-clause-evaluates : goal.returns-clause-evaluates
returns-clause-evaluates g c name reading =
    let some : (length c.args.path.now == 0) ≡ false = search rules in
    existence_told name (surroundings_of c.args.context.now) c.args.path.now _ (some_path c.args.path.now some) (ap (λ p. Exists p) c.in_ok-placed.ensures) c.in_ok-answer.ensures.answered (c.truth_answer.ensures name)
