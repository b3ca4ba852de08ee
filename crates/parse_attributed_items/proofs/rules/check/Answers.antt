-- A rule is broken where all before it are kept.
use Rattle.std.proofs.Common.{map}
use Rattle.std.proofs.lemmas.Result.{err_from_is_err_and}
use Rattle.tree_attributes.specs.Attributes.{options_shape}
use Rattle.tree_items.specs.Recipes.{parameter_shapes}
use Rattle.parse_attributed_items.proofs.OptionFaults.{at_default, at_long, at_parameter, at_short}
use Rattle.parse_attributed_items.proofs.rules.check.Goals as goal

pub returns-in_err-check_repeated : goal.returns-in_err-check_repeated
returns-in_err-check_repeated c = λ x all has.
    let os = map options_shape c.args.options.now in
    let ps = parameter_shapes c.args.parameters.now in
    let p = err_from_is_err_and c.from_residual-in_err-check_repeated.result c.from_residual-in_err-check_repeated.ensures.1 in
    rw (p.1, p.2) (at_parameter x.expansion c.args.recipe.now os ps (c.in_default.ensures x all _ has) c.in_err-check_repeated.field-0.0 (c.in_err-check_repeated.ensures x all))

pub returns-in_err-check_repeated-2 : goal.returns-in_err-check_repeated-2
returns-in_err-check_repeated-2 c = λ x all has.
    let os = map options_shape c.args.options.now in
    let ps = parameter_shapes c.args.parameters.now in
    let p = err_from_is_err_and c.from_residual-in_err-check_repeated-2.result c.from_residual-in_err-check_repeated-2.ensures.1 in
    rw (p.1, p.2) (at_long x.expansion c.args.recipe.now os ps (c.in_default.ensures x all _ has) (c.in_ok-check_repeated.ensures x all) c.in_err-check_repeated-2.field-0.0 (c.in_err-check_repeated-2.ensures x all))

pub returns-in_err-check_repeated-3 : goal.returns-in_err-check_repeated-3
returns-in_err-check_repeated-3 c = λ x all has.
    let os = map options_shape c.args.options.now in
    let ps = parameter_shapes c.args.parameters.now in
    let p = err_from_is_err_and c.from_residual-in_err-check_repeated-3.result c.from_residual-in_err-check_repeated-3.ensures.1 in
    rw (p.1, p.2)
    (at_short x.expansion c.args.recipe.now os ps (c.in_default.ensures x all _ has) (c.in_ok-check_repeated.ensures x all) (c.in_ok-check_repeated-2.ensures x all) c.in_err-check_repeated-3.field-0.0 (c.in_err-check_repeated-3.ensures x all))

pub returns : goal.returns
returns c = λ x all has.
    let os = map options_shape c.args.options.now in
    let ps = parameter_shapes c.args.parameters.now in
    at_default x.expansion c.args.recipe.now os ps (c.in_default.ensures x all _ has) (c.in_ok-check_repeated.ensures x all) (c.in_ok-check_repeated-2.ensures x all) c.check_late.result (c.in_ok-check_repeated-3.ensures x all) (c.check_late.ensures x all)
