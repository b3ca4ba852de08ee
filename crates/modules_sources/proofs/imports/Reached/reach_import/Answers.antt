-- A file that was reached isn't told again.
use Rattle.std.proofs.Common.{map, ap, ◌∙◌, ◌∷◌, []}
use Rattle.std.proofs.lemmas.List.{map-append}
use Rattle.modules_files.specs.Chosen.{view}
use Rattle.modules_sources.proofs.Reaching.{told_known, told_new, was_false, was_true}
use Rattle.modules_sources.proofs.imports.Reached.reach_import.Goals as goal

pub returns-then-not-reach-clause-place : goal.returns-then-not-reach-clause-place
returns-then-not-reach-clause-place c = λ keys h. (c.in_ok-reach.reach.place, c.in_ok-reach.ensures.place keys h, c.in_ok-push.ensures.items)

pub returns-then-not-reach-clause-told : goal.returns-then-not-reach-clause-told
returns-then-not-reach-clause-told c = λ keys h. told_known keys (view c.args.source) (map view c.args.new.now.items) c.in_ok-reach.reach.is_new (c.in_ok-reach.ensures.is_new keys h) (was_true c.in_ok-reach.reach.is_new c.if-not-reach.true)

pub returns-clause-place : goal.returns-clause-place
returns-clause-place c = λ keys h. (c.in_ok-reach.reach.place, c.in_ok-reach.ensures.place keys h, c.in_ok-push.ensures.items)

pub returns-clause-told : goal.returns-clause-told
returns-clause-told c = λ keys h.
    told_new keys (view c.args.source) (map view c.args.new.now.items) _ c.in_ok-reach.reach.is_new (c.in_ok-reach.ensures.is_new keys h) (was_false c.in_ok-reach.reach.is_new c.if-not-reach.false)
    (ap (map view) c.in_ok-push-2.ensures.items ∙ map-append view c.args.new.now.items (c.args.source ∷ []))
