-- The attributes' own rules come before those of `arg`s.
use Rattle.std.proofs.Common.{subst}
use Rattle.std.proofs.lemmas.Result.{err_from_is_err_and}
use Rattle.tree_items.specs.Files.{item_shape, kind_of}
use Rattle.parse_expressions.proofs.Together.{both_given, second_refused}
use Rattle.parse_attributes.specs.Seen.{read_shapes}
use Rattle.parse_attributed_items.specs.Options.{GivesOrRefuses}
use Rattle.parse_attributed_items.specs.Fitting.{known, name_of}
use Rattle.parse_attributed_items.specs.declared.bare.ItemRead.{ItemRead}
use Rattle.parse_attributed_items.specs.declared.item.PartsRead.{PartsRead}
use Rattle.parse_attributed_items.specs.Refusals.{head_fault}
use Rattle.parse_attributed_items.proofs.Fits.{head_known, head_passed, head_refused}
use Rattle.parse_attributed_items.proofs.item.fitted.Goals as goal

pub returns-in_err-parts-clause-gives : goal.returns-in_err-parts-clause-gives
returns-in_err-parts-clause-gives c = λ x whole.
    let as' = read_shapes c.args.parts.attributes.items in
    let i = item_shape c.args.parts.read.item in
    let refused = second_refused {A = PartsRead} c.args.parts c.ensure_parts_fit-fit.result c.in_err-parts.field-0.0 c.in_err-parts.ensures in
    let told = subst (λ r. GivesOrRefuses r (head_fault (kind_of i) (name_of i) as')) refused c.ensure_parts_fit-fit.ensures in
    let p = err_from_is_err_and c.from_residual.result c.from_residual.ensures.1 in
    rw (p.1, p.2) (head_refused x.expansion as' i (Unit {0}) ItemRead c.in_err-parts.field-0.0 told)

pub returns-clause-gives : goal.returns-clause-gives
returns-clause-gives c = λ x whole.
    let as' = read_shapes c.args.parts.attributes.items in
    let i = item_shape c.args.parts.read.item in
    let given = both_given {A = PartsRead} c.args.parts c.ensure_parts_fit-fit.result (c.in_ok-parts.parts, c.in_ok-parts._fit) c.in_ok-parts.ensures in
    let fits = subst (λ r. GivesOrRefuses r (head_fault (kind_of i) (name_of i) as')) given.1 c.ensure_parts_fit-fit.ensures in
    rw (head_passed x.expansion as' i fits) (rw given.0 at (c.joined.ensures.gives x (rw given.0 whole)))

pub returns-clause-shape : goal.returns-clause-shape
returns-clause-shape c =
    let given = both_given {A = PartsRead} c.args.parts c.ensure_parts_fit-fit.result (c.in_ok-parts.parts, c.in_ok-parts._fit) c.in_ok-parts.ensures in
    rw given.0 at c.joined.ensures.shape

pub returns-clause-numbers : goal.returns-clause-numbers
returns-clause-numbers c = λ old new h.
    let given = both_given {A = PartsRead} c.args.parts c.ensure_parts_fit-fit.result (c.in_ok-parts.parts, c.in_ok-parts._fit) c.in_ok-parts.ensures in
    c.joined.ensures.numbers old new (rw given.0 h)

pub returns-clause-own : goal.returns-clause-own
returns-clause-own c = λ x whole arguments bare.
    let as' = read_shapes c.args.parts.attributes.items in
    let i = item_shape c.args.parts.read.item in
    let given = both_given {A = PartsRead} c.args.parts c.ensure_parts_fit-fit.result (c.in_ok-parts.parts, c.in_ok-parts._fit) c.in_ok-parts.ensures in
    let fits = subst (λ r. GivesOrRefuses r (head_fault (kind_of i) (name_of i) as')) given.1 c.ensure_parts_fit-fit.ensures in
    c.joined.ensures.own x (rw given.0 whole) (rw given.0 (arguments (known as') (head_known (kind_of i) (name_of i) as' fits))) (rw given.0 bare)

pub returns-clause-cooked : goal.returns-clause-cooked
returns-clause-cooked c = λ x whole bare cooked.
    let given = both_given {A = PartsRead} c.args.parts c.ensure_parts_fit-fit.result (c.in_ok-parts.parts, c.in_ok-parts._fit) c.in_ok-parts.ensures in
    c.joined.ensures.cooked x (rw given.0 whole) (rw given.0 bare) (rw given.0 cooked)
