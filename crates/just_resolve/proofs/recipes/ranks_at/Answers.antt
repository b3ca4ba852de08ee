-- A rank more.
use Rattle.std.proofs.Common.{◌+◌, ◌++◌, ◌∙◌, ap, drop, get_or, length, refl}
use Rattle.std.specs.List.{slice_get}
use Rattle.std.proofs.lemmas.Option.{slice_get_past, slice_get_read}
use Rattle.resolve_recipes.proofs.Resolving.{next_at}
use Rattle.just_resolve.specs.Recipes.{ranks_at}
use Rattle.just_resolve.proofs.Gathering.{listed_more, listed_none}
use Rattle.just_resolve.proofs.recipes.ranks_at.Goals as goal
use Rattle.just_resolve.proofs.recipes.ranks_at.Goals.{in-Some+in_ok-push, in_default}

pub loop-place-preserved : goal.loop-place-preserved
loop-place-preserved c =
    let ranks = c.args.ranks.now in
    let places = c.args.places.now in
    let i = c.loop-place.place-index in
    let x = get_or places i 0 in
    let rest = drop (i + 1) places in
    let next = next_at places i 0 c.loop-place-test.true in
    elim c.match-get.branch [
      | in-Some+in_ok-push w ↦
          ap (λ found. found.items ++ ranks_at ranks rest) w.found-is
          ∙ ap (λ found. found ++ ranks_at ranks rest) w.in_ok-push.ensures.items
          ∙ listed_more (slice_get ranks) x (drop i places) rest c.loop-place.found.items next w.in-Some.rank.now (slice_get_read ranks (length ranks) x w.in-Some.rank.now refl w.in-Some.ensures.lookup.3.0 w.in-Some.ensures.lookup.1)
          ∙ c.loop-place.invariant
      | in_default w ↦
          ap (λ found. found.items ++ ranks_at ranks rest) w.found-is
          ∙ listed_none (slice_get ranks) x (drop i places) rest c.loop-place.found.items next (slice_get_past ranks x w.in_default.ensures.lookup.3)
          ∙ c.loop-place.invariant
    ]
