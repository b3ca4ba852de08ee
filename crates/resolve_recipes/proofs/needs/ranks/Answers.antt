-- A rank more.
use Rattle.std.proofs.Common.{◌≡◌, ◌+◌, ◌∙◌, ap, arith, get_or, length, length-set, subst, sym}
use Rattle.std.specs.List.{slice_set}
use Rattle.resolve_recipes.proofs.Ranking.{AreNoted, all_noted, given_back, none_noted, one_noted}
use Rattle.resolve_recipes.proofs.needs.ranks.Goals as goal

pub loop-rank-init : goal.loop-rank-init
loop-rank-init c = none_noted c.args.order.now c.in_ok-ranks.ranks.items (c.in_ok-ranks.ensures.items_if_clones_equal (λ y e. e))

pub loop-rank-preserved : goal.loop-rank-preserved
loop-rank-preserved c =
    let order = c.args.order.now in
    let rank = c.loop-rank.rank in
    let old = c.loop-rank.ranks.items in
    let new = c.note_rank.new.ranks in
    let set : new ≡ slice_set old (get_or order rank 0) rank = c.note_rank.ensures ∙ ap (λ ranks. slice_set ranks (get_or order rank 0) rank) c.deref_mut.ensures.value in
    let same : length new ≡ length old = ap length set ∙ length-set old (get_or order rank 0) rank in
    let many : c.loop-rank.ranks.len ≡ length old = omega (arith, c.loop-rank.ranks.ok.0) in
    subst (AreNoted order (rank + 1)) (sym (given_back old new c.loop-rank.ranks.len many same ∙ set)) (one_noted order old rank c.loop-rank-test.true c.loop-rank.invariant)

pub returns : goal.returns
returns c = all_noted c.args.order.now c.loop-rank.ranks.items c.loop-rank.rank c.loop-rank-test.false c.loop-rank.invariant
