use Rattle.std.proofs.Common.{rules, [], ◌∷◌, sym, ◌∙◌}
use Rattle.evaluate_variables.proofs.parameters.check_count.Goals as goal

pub returns-then-check-clause-passed : goal.returns-then-check-clause-passed
returns-then-check-clause-passed g c = λ may always.
    let one = always.at ((c.args.parameter, (c.args.found, tt)) ∷ []) c.check.result c.args.check.now (search rules) in
    sym one.0 ∙ (search rules)

pub returns-clause-refused : goal.returns-clause-refused
returns-clause-refused g c = λ may always.
    let one = always.at ((c.args.parameter, (c.args.found, tt)) ∷ []) c.check.result c.args.check.now (search rules) in
    sym one.0 ∙ (search rules)
