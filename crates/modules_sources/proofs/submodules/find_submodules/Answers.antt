-- The file's submodules wait, or one of them is refused.
use Rattle.std.proofs.Common.{map, ap, subst, ◌∙◌, ◌++◌, inl, inr}
use Rattle.std.specs.Prelude.{slice_get}
use Rattle.std.proofs.lemmas.Result.{err_from_is_err_and}
use Rattle.modules_compilation.specs.Places.{items_in}
use Rattle.modules_sources.specs.Items.{key_of}
use Rattle.modules_sources.specs.Submodules.{AreFound, IsBack, IsRefused, NoneAbove, found_view, waiting, waiting_view}
use Rattle.modules_sources.proofs.Outcomes.{both_ok, if_err}
use Rattle.modules_sources.proofs.submodules.find_submodules.Goals as goal

pub returns-in_err-found-clause-refused : goal.returns-in_err-found-clause-refused
returns-in_err-found-clause-refused c =
    let p = err_from_is_err_and c.from_residual.result c.from_residual.ensures.1 in
    rw (p.1, p.2) (λ n. inl (subst (λ fs. IsRefused c.args.files.now c.args.os (key_of (slice_get fs c.args.place)) (items_in fs c.args.place) c.in_err-found.field-0.0) c.as_slice-all.ensures.value (c.in_err-found.ensures.refused n)))

pub returns-clause-pending : goal.returns-clause-pending
returns-clause-pending c = both_ok c.add_all.result c.add_all.ensures.pending c.add_all.ensures.below (λ pending below. (
  map found_view c.in_ok-found.found.items,
  record {
    found_all = subst (λ fs. AreFound c.args.files.now c.args.os (key_of (slice_get fs c.args.place)) (items_in fs c.args.place) (map found_view c.in_ok-found.found.items)) c.as_slice-all.ensures.value c.in_ok-found.ensures.found;
    below = subst (λ found. NoneAbove c.args.queue.now.keys (map found_view found)) c.as_slice.ensures.value below;
  },
  pending ∙ ap (λ found. map waiting_view c.args.queue.now.pending.items ++ map (waiting c.args.place c.args.module) (map found_view found)) c.as_slice.ensures.value,
))

pub returns-clause-refused : goal.returns-clause-refused
returns-clause-refused c = if_err c.add_all.result c.add_all.ensures.refused (λ e back n. inr (record {
  found = map found_view c.in_ok-found.found.items;
  found_all = subst (λ fs. AreFound c.args.files.now c.args.os (key_of (slice_get fs c.args.place)) (items_in fs c.args.place) (map found_view c.in_ok-found.found.items)) c.as_slice-all.ensures.value c.in_ok-found.ensures.found;
  back = subst (λ fs. IsBack c.args.queue.now.keys (key_of (slice_get fs c.args.place)) (map found_view c.in_ok-found.found.items) e) c.as_slice-all.ensures.value
      (subst (λ found. IsBack c.args.queue.now.keys (key_of (slice_get c.as_slice-all.result.now c.args.place)) (map found_view found) e) c.as_slice.ensures.value (back n));
}))
