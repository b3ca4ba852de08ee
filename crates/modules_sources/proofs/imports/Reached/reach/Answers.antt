-- The file has its place, or the next one.
use Rattle.modules_sources.proofs.Outcomes.{if_ok, on_ok}
use Rattle.modules_sources.proofs.Reaching.{added_at, added_keys, added_new, known}
use Rattle.modules_sources.proofs.imports.Reached.reach.Goals as goal

pub returns-in-Some-clause-reached : goal.returns-in-Some-clause-reached
returns-in-Some-clause-reached c = λ keys h. (known keys c.args.self.now c.args.key.now c.in-Some.place.now c.in-Some.ensures.value h).0

pub returns-in-Some-clause-place : goal.returns-in-Some-clause-place
returns-in-Some-clause-place c = λ keys h. (known keys c.args.self.now c.args.key.now c.in-Some.place.now c.in-Some.ensures.value h).1

pub returns-in-Some-clause-is_new : goal.returns-in-Some-clause-is_new
returns-in-Some-clause-is_new c = λ keys h. (known keys c.args.self.now c.args.key.now c.in-Some.place.now c.in-Some.ensures.value h).2

pub returns-in-None-clause-reached : goal.returns-in-None-clause-reached
returns-in-None-clause-reached c = on_ok c.add.result c.add.ensures.reached (λ more keys h. added_keys keys c.args.self.now c.add.new.self c.args.key.now c.in-None.ensures.value h (more keys h))

pub returns-in-None-clause-place : goal.returns-in-None-clause-place
returns-in-None-clause-place c = if_ok c.add.result c.add.ensures.reach (λ reach are keys h. added_at keys c.args.self.now c.args.key.now reach.place c.in-None.ensures.value h are.0)

pub returns-in-None-clause-is_new : goal.returns-in-None-clause-is_new
returns-in-None-clause-is_new c = if_ok c.add.result c.add.ensures.reach (λ reach are keys h. added_new keys c.args.self.now c.args.key.now reach.is_new c.in-None.ensures.value h are.1)
