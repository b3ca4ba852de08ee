-- A dependency more, and the first that has no place.
use Rattle.std.proofs.Common.{ap, sym, drop, ◌+◌, ◌∙◌, Err}
use Rattle.resolve_recipes.specs.Resolving.{needs_of, places_before}
use Rattle.resolve_recipes.proofs.Resolving.{dependency_goes, dependency_stops}
use Rattle.resolve_recipes.proofs.recipe_resolver.add_places.Goals as goal

pub returns-in-Err-clause-err : goal.returns-in-Err-clause-err
returns-in-Err-clause-err c some all =
    dependency_stops c.args.compilation.now c.args.resolver.now c.args.module c.args.recipe c.args.dependencies.now c.loop-dependency.dependency-index c.dependency-item.result c.in-Err.reason c.loop-dependency.places.items c.args.places.now.items
    c.loop-dependency-test.true c.dependency-item.is (c.in-Err.ensures all) (c.loop-dependency.invariant all)
    ∙ ap Err (sym c.refusal.ensures)

pub loop-dependency-preserved : goal.loop-dependency-preserved
loop-dependency-preserved c all =
    ap (λ places. places_before places (needs_of c.args.compilation.now c.args.resolver.now c.args.module c.args.recipe (drop (c.loop-dependency.dependency-index + 1) c.args.dependencies.now))) c.in_ok-push-in-Ok.ensures.items
    ∙ dependency_goes c.args.compilation.now c.args.resolver.now c.args.module c.args.recipe c.args.dependencies.now c.loop-dependency.dependency-index c.dependency-item.result c.in-Ok.place c.loop-dependency.places.items
    c.loop-dependency-test.true c.dependency-item.is (c.in-Ok.ensures all)
    ∙ c.loop-dependency.invariant all
