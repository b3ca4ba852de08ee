-- Name by name.
use Rattle.std.proofs.Common.{ap, rules, sym, Some, ◌∙◌}
use Rattle.modules_compilation.specs.Modulepaths.{pieces}
use Rattle.resolve_recipes.specs.Leading.{variable_from}
use Rattle.resolve_recipes.proofs.Leading.{leads_in, no_variable}
use Rattle.resolve_recipes.proofs.Pieces.{first_piece, pieces_lacks}
use Rattle.resolve_recipes.proofs.paths.find_variable.Goals as goal

pub returns-in_err-module : goal.returns-in_err-module
returns-in_err-module c all =
    let cases = c.in-Some.ensures.cases in
    let compilation = c.args.compilation.now in
    let module' = c.loop-name.module in
    let others = c.in-Some.others.now in
    let first = first_piece c.loop-name.rest.now c.in-Some.name.now others cases.0 cases.1 cases.2.0 cases.2.1.split cases.3 cases.4 in
    c.from_residual.ensures
    ∙ sym (ap (variable_from compilation (Some module')) first ∙ leads_in compilation module' c.in-Some.name.now others ∙ ap (λ inner. variable_from compilation inner (pieces others)) (sym (c.in_err-module.ensures all)) ∙ no_variable compilation (pieces others))
    ∙ c.loop-name.invariant.1 all

pub loop-name-preserved : goal.loop-name-preserved
loop-name-preserved c =
    let cases = c.in-Some.ensures.cases in
    let compilation = c.args.compilation.now in
    let module' = c.loop-name.module in
    let others = c.in-Some.others.now in
    let first = first_piece c.loop-name.rest.now c.in-Some.name.now others cases.0 cases.1 cases.2.0 cases.2.1.split cases.3 cases.4 in
    (search rules, λ all. ap (λ inner. variable_from compilation inner (pieces others)) (c.in_ok-module.ensures all) ∙ sym (ap (variable_from compilation (Some module')) first ∙ leads_in compilation module' c.in-Some.name.now others) ∙ c.loop-name.invariant.1 all)

pub returns : goal.returns
returns c all =
    let compilation = c.args.compilation.now in
    c.variable.ensures all ∙ sym (ap (variable_from compilation (Some c.loop-name.module)) (pieces_lacks c.loop-name.rest.now c.in_default.ensures.cases)) ∙ c.loop-name.invariant.1 all
