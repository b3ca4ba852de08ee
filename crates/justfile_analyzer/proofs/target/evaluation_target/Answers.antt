-- A name more leads on.
use Rattle.std.proofs.Common.{◌∙◌, ap, rules, sym}
use Rattle.modules_compilation.specs.Modulepaths.{pieces}
use Rattle.resolve_recipes.proofs.Pieces.{first_piece, pieces_lacks}
use Rattle.justfile_analyzer.specs.Targets.{leads_from}
use Rattle.justfile_analyzer.proofs.target.evaluation_target.Goals as goal

pub loop-name-preserved : goal.loop-name-preserved
loop-name-preserved c =
    let cases = c.in-Some.ensures.cases in
    let name = c.in-Some.name.now in
    let others = c.in-Some.others.now in
    let cut = first_piece c.loop-name.rest.now name others cases.0 cases.1 cases.2.0 cases.2.1.split cases.3 cases.4 in (
      search rules,
      λ sorted. ap (λ found. leads_from c.args.modules.now c.args.lists.now found (pieces others)) (c.target-found.ensures sorted) ∙ (ap (leads_from c.args.modules.now c.args.lists.now c.loop-name.found) (sym cut) ∙ c.loop-name.invariant.1 sorted),
    )

pub returns : goal.returns
returns c = λ sorted. c.target.ensures sorted ∙ (ap (leads_from c.args.modules.now c.args.lists.now c.loop-name.found) (sym (pieces_lacks c.loop-name.rest.now c.in_default.ensures.cases)) ∙ c.loop-name.invariant.1 sorted)
