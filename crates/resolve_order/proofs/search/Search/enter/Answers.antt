-- A new thing on the empty stack keeps the search.
use Rattle.std.proofs.Common.{sym, ◌∙◌, ap, refl, Some}
use Rattle.std.specs.Prelude.{slice_get}
use Rattle.resolve_order.proofs.Places.{on_ok_all}
use Rattle.resolve_order.proofs.Turns.{search_along, new_start}
use Rattle.resolve_order.proofs.search.Search.enter.Goals as goal

pub returns-in-Some-New-clause-search : goal.returns-in-Some-New-clause-search
returns-in-Some-New-clause-search c =
    on_ok_all c.open.result c.open.ensures.marks c.open.ensures.stack c.open.ensures.order
    (λ marks stack order. search_along (new_start c.requires.search c.requires.empty c.args.place
    (sym (ap (λ ms. slice_get ms c.args.place) c.as_slice.ensures.value) ∙ sym c.mark_at.ensures ∙ c.in-Some-New.is ∙ ap (λ m. Some m) c.in-Some-New.field-0-is) marks) refl stack order)
