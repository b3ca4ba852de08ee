-- A name more.
use Rattle.std.proofs.Common.{map}
use Rattle.justfile_analyzer.proofs.MenuRows.{all_put, none_put, one_put}
use Rattle.justfile_analyzer.proofs.names.put_wanted.Goals as goal

pub loop-name-init : goal.loop-name-init
loop-name-init c = λ by_name. none_put c.args.menu.now _ c.args.wanted.now.keys c.into_iter-name-iterator.ensures.into_iter_gives.0

pub loop-name-preserved : goal.loop-name-preserved
loop-name-preserved c = λ by_name.
    one_put c.args.menu.now c.loop-name.menu c.put_named.new.menu c.loop-name.yielded c.in-Some.name c.loop-name.name-iterator c.next.new.self c.args.wanted.now.keys c.in-Some.ensures.steps (c.loop-name.invariant by_name) (c.in_ok-put_named.ensures by_name)

pub returns : goal.returns
returns c = λ by_name. all_put c.args.menu.now c.loop-name.menu (map (λ k. k.now) c.loop-name.yielded) c.loop-name.name-iterator c.args.wanted.now c.in-None.ensures.steps.0 (c.loop-name.invariant by_name)
