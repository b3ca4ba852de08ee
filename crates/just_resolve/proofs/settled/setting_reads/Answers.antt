-- A setting more, and the first that is refused.
use Rattle.std.proofs.Common.{◌≡◌, ◌+◌, ◌++◌, ◌∙◌, ◌∷◌, ap, drop, flat_map, sym}
use Rattle.std.specs.List.{cons_option}
use Rattle.std.proofs.lemmas.Result.{err_from_is_err_and}
use Rattle.resolve_references.specs.ItemReferences.{references_of_set}
use Rattle.resolve_references.specs.Places.{places_before, places_of}
use Rattle.resolve_recipes.proofs.Resolving.{next_at}
use Rattle.just_resolve.specs.Settling.{set_of, sets_at}
use Rattle.just_resolve.proofs.Reading.{set_goes, set_stops}
use Rattle.just_resolve.proofs.Standing.{not_set}
use Rattle.just_resolve.proofs.settled.setting_reads.Goals as goal
use Rattle.just_resolve.proofs.settled.setting_reads.Goals.{in-Some+in_ok-more+in_ok-extend_from_slice, in_default}

pub returns-in_err-more-clause-err : goal.returns-in_err-more-clause-err
returns-in_err-more-clause-err c =
    let p = err_from_is_err_and c.from_residual.result c.from_residual.ensures.1 in
    let compilation = c.args.compilation.now in
    let sets = c.args.sets.now in
    let i = c.loop-place.place-index in
    let rest = sets_at compilation (drop (i + 1) sets) in
    let next : sets_at compilation (drop i sets) ≡ c.in-Some.set.now ∷ rest = ap (sets_at compilation) (next_at sets i _ c.loop-place-test.true) ∙ ap (λ o. cons_option o rest) (ap set_of c.in-Some.ensures.found) in
    rw (p.1, p.2) (λ some. set_stops c.args.resolver.now c.in-Some.set.now (sets_at compilation (drop i sets)) rest next c.loop-place.places.items (places_of c.args.resolver.now (flat_map references_of_set (sets_at compilation sets))) c.in_err-more.field-0.0 (c.in_err-more.ensures.err some) c.loop-place.invariant)

pub loop-place-preserved : goal.loop-place-preserved
loop-place-preserved c =
    let resolver = c.args.resolver.now in
    let compilation = c.args.compilation.now in
    let sets = c.args.sets.now in
    let i = c.loop-place.place-index in
    let left = sets_at compilation (drop i sets) in
    let rest = sets_at compilation (drop (i + 1) sets) in
    let old = c.loop-place.places.items in
    elim c.match-set.branch [
      | in-Some+in_ok-more+in_ok-extend_from_slice w ↦
          let next : left ≡ w.in-Some.set.now ∷ rest = ap (sets_at compilation) (next_at sets i _ c.loop-place-test.true) ∙ ap (λ o. cons_option o rest) (ap set_of w.in-Some.ensures.found) in
          ap (λ places. places_before places.items (places_of resolver (flat_map references_of_set rest))) w.places-is
          ∙ ap (λ places. places_before places (places_of resolver (flat_map references_of_set rest))) (w.in_ok-extend_from_slice.ensures.items ∙ ap (λ more. old ++ more) w.as_slice.ensures.value)
          ∙ set_goes resolver w.in-Some.set.now left rest next w.in_ok-more.more.items old w.in_ok-more.ensures.ok
          ∙ c.loop-place.invariant
      | in_default w ↦
          let next : left ≡ rest = ap (sets_at compilation) (next_at sets i _ c.loop-place-test.true) ∙ ap (λ o. cons_option o rest) (not_set _ (sym w.in_default.ensures.there)) in
          ap (λ places. places_before places.items (places_of resolver (flat_map references_of_set rest))) w.places-is
          ∙ ap (λ ss. places_before old (places_of resolver (flat_map references_of_set ss))) (sym next)
          ∙ c.loop-place.invariant
    ]
