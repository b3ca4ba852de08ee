-- Each turn reads a dependency.
use Rattle.std.proofs.Common.{◌≡◌, ◌-◌, ◌++◌, ◌∷◌, [], suc, length, Ok, Some, None, rules, arith}
use Rattle.std.proofs.lemmas.Result.{err_from_is_err_and}
use Rattle.just_text.specs.Tokens.{word_of}
use Rattle.tree_items.specs.Recipes.{dependency_shape}
use Rattle.parse_expressions.specs.Origins.{origin_of}
use Rattle.parse_expressions.specs.Reading.{ahead}
use Rattle.parse_recipes.specs.Cooked.{IsDependencyCooked}
use Rattle.parse_recipes.specs.Reading.{dependency_at, dependencies_at}
use Rattle.parse_recipes.proofs.Shrinks.{dependency_shrinks}
use Rattle.parse_recipes.proofs.Turns.{all_more, all_none, nothing_before, item_fails, one_more, none_left}
use Rattle.parse_recipes.proofs.dependency.dependencies.Goals as goal

pub loop-dependencies-init : goal.loop-dependencies-init
unfolding dependencies_at
loop-dependencies-init g c = let ts = ahead c.args.cursor.now in (suc (length ts), omega arith, nothing_before dependency_shape c.new-dependencies.result.items _ (search rules), all_none (IsDependencyCooked (origin_of g.E.Expander.expansion c.args.context.now)) c.new-dependencies.result.items (search rules))

pub returns-in_err-dependency-clause-gives : goal.returns-in_err-dependency-clause-gives
returns-in_err-dependency-clause-gives g c =
    let l = c.loop-dependencies in
    let p = err_from_is_err_and c.from_residual.result c.from_residual.ensures.1 in
    rw (p.1, p.2) (item_fails dependency_shape (dependency_at word_of (g.E.Expander.expansion c.args.context.now.expander.now)) l.dependencies.items l.invariant.0 (ahead l.cursor) _ l.invariant.1 l.invariant.2 c.in_err-dependency.field-0.0 c.in_err-dependency.ensures.gives)

pub loop-dependencies-smaller : goal.loop-dependencies-smaller
loop-dependencies-smaller g c =
    let l = c.loop-dependencies in
    let x = g.E.Expander.expansion c.args.context.now.expander.now in
    let is : c.in_ok-dependency.field-0 ≡ Some c.in-Some.dependency = cc c.in-Some.is in
    let read : dependency_at word_of x (ahead l.cursor) ≡ Ok (Some (dependency_shape c.in-Some.dependency), ahead c.dependency.new.cursor) = rw is at c.in_ok-dependency.ensures.gives in
    dependency_shrinks word_of x (ahead l.cursor) (Some (dependency_shape c.in-Some.dependency), ahead c.dependency.new.cursor) read

pub loop-dependencies-preserved : goal.loop-dependencies-preserved
loop-dependencies-preserved g c =
    let l = c.loop-dependencies in
    let x = g.E.Expander.expansion c.args.context.now.expander.now in
    let is : c.in_ok-dependency.field-0 ≡ Some c.in-Some.dependency = cc c.in-Some.is in
    let read : dependency_at word_of x (ahead l.cursor) ≡ Ok (Some (dependency_shape c.in-Some.dependency), ahead c.dependency.new.cursor) = rw is at c.in_ok-dependency.ensures.gives in
    let less = dependency_shrinks word_of x (ahead l.cursor) (Some (dependency_shape c.in-Some.dependency), ahead c.dependency.new.cursor) read in
    let pushed : c.push_compact.new.list.items ≡ l.dependencies.items ++ c.in-Some.dependency ∷ [] = search rules in
    (l.invariant.0 - 1, omega (arith, less, l.invariant.1), rw pushed (one_more dependency_shape (dependency_at word_of x) l.dependencies.items l.invariant.0 (ahead l.cursor) _ l.invariant.1 l.invariant.2 c.in-Some.dependency (ahead c.dependency.new.cursor) read), rw pushed (all_more (IsDependencyCooked (origin_of g.E.Expander.expansion c.args.context.now)) l.dependencies.items c.in-Some.dependency l.invariant.3 (rw is at c.in_ok-dependency.ensures.cooked)))

pub returns-clause-gives : goal.returns-clause-gives
returns-clause-gives g c =
    let l = c.loop-dependencies in
    let x = g.E.Expander.expansion c.args.context.now.expander.now in
    let none : c.in_ok-dependency.field-0 ≡ None = c.in_default.is in
    let read : dependency_at word_of x (ahead l.cursor) ≡ Ok (None, ahead c.dependency.new.cursor) = rw none at c.in_ok-dependency.ensures.gives in
    none_left dependency_shape (dependency_at word_of x) l.dependencies.items l.invariant.0 (ahead l.cursor) _ l.invariant.1 l.invariant.2 (ahead c.dependency.new.cursor) read
