-- The first place that is refused.
use Rattle.std.proofs.Common.{◌+◌, drop, sym}
use Rattle.std.proofs.lemmas.Result.{err_from_is_err_and}
use Rattle.resolve_recipes.proofs.Resolving.{next_at}
use Rattle.resolve_recipes.specs.Refusals.{told}
use Rattle.just_resolve.specs.Table.{first_of, refusal_at}
use Rattle.just_resolve.proofs.Gathering.{one_answers}
use Rattle.just_resolve.proofs.recipe_table.check_module.Goals as goal

pub returns-in_err-check_place : goal.returns-in_err-check_place
returns-in_err-check_place c =
    let p = err_from_is_err_and c.from_residual.result c.from_residual.ensures.1 in
    let refusal = refusal_at c.args.compilation.now c.args.resolver.now c.args.module in
    let places = c.args.disabled.now in
    let i = c.loop-place.place-index in
    rw (p.1, p.2) (λ all. sym (
    one_answers refusal _ (drop i places) (drop (i + 1) places) (next_at places i _ c.loop-place-test.true)
    (told c.in_err-check_place.field-0.0) (first_of refusal places) (sym (c.in_err-check_place.ensures all))
    (c.loop-place.invariant all)))
