-- A part that a function leaves is its answer.
use Rattle.std.proofs.Common.{◌∷◌, [], ◌∙◌}
use Rattle.std.specs.Option.{option_or}
use Rattle.evaluate_functions.specs.Functions.{stripped, trimmed}
use Rattle.evaluate_functions.proofs.Tables.{part_answers}
use Rattle.evaluate_functions.proofs.pure.pure_answer.Goals as goal

pub returns-in-Some : goal.returns-in-Some
returns-in-Some c =
    part_answers c.args.lists c.args.function c.args.arguments.now c.in-Some.part.now c.unless_memory.result
    (c.in-Some.ensures ∙ (λ i. option_or (trimmed c.args.function (c.text_at-text.ensures i)) (stripped c.args.function (c.text_at.ensures i) (c.text_at-text.ensures i))))
    (c.unless_memory.ensures (c.in-Some.part.now ∷ []) c.from_text.ensures)
