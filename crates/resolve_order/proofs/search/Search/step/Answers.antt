-- Each turn keeps the search and leaves fewer turns, or has found a cycle.
use Rattle.std.proofs.Common.{◌≡◌, ◌<◌, sym, ◌∙◌, ap, subst, ◌++◌, ◌∷◌, [], drop, map, length, arith, refl}
use Rattle.std.specs.Prelude.{slice_get}
use Rattle.std.proofs.lemmas.Option.{slice_get_within}
use Rattle.std.proofs.lemmas.List.{length-map, drop-map}
use Rattle.resolve_order.specs.Needs.{IsCycle, rows}
use Rattle.resolve_order.specs.Search.{frame_shape, frame_place, stack_of}
use Rattle.resolve_order.specs.Turns.{turn_of}
use Rattle.resolve_order.specs.declared.marks.Mark.TheVariants.{New}
use Rattle.resolve_order.proofs.Steps.{closed_search}
use Rattle.resolve_order.proofs.Work.{closed_nearer, passed_nearer}
use Rattle.resolve_order.proofs.Turns.{none_first, some_first, search_along, nearer_along, top_within, marked_within, descend_is, back_is, new_turn, open_turn, pass_turn}
use Rattle.resolve_order.proofs.search.Search.step.Goals as goal

pub close-requires : goal.close-requires
close-requires c = top_within (stack_of c.args.self.now) (frame_shape c.args.frame) c.requires

pub returns-in_default-clause-search : goal.returns-in_default-clause-search
returns-in_default-clause-search c =
    search_along (closed_search (stack_of c.args.self.now) (frame_shape c.args.frame) c.requires (none_first c.args.frame.rest.now c.in_default.ensures.value) c.in_ok-close.ensures.marks) refl c.in_ok-close.ensures.stack c.in_ok-close.ensures.order

pub returns-in_default-clause-nearer : goal.returns-in_default-clause-nearer
returns-in_default-clause-nearer c =
    nearer_along (closed_nearer (rows c.args.needs.now) (stack_of c.args.self.now) (frame_shape c.args.frame) _ _ c.in_ok-close.ensures.marks) refl c.in_ok-close.ensures.stack

pub descend-requires-clause-within : goal.descend-requires-clause-within
descend-requires-clause-within c =
    let is = descend_is (slice_get c.args.self.now.marks.items c.in-Some.need.now) (sym (ap (λ ms. turn_of (slice_get ms c.in-Some.need.now)) c.as_slice.ensures.value) ∙ sym (ap turn_of c.mark_at.ensures) ∙ sym c.turn_at.ensures ∙ c.in-Descend.is) in
    let lt : c.in-Some.need.now < length (rows c.args.needs.now) = marked_within c.requires c.in-Some.need.now New is in
    omega (arith, lt, length-map c.args.needs.now (λ row. row.items))

pub descend-requires-clause-marked : goal.descend-requires-clause-marked
descend-requires-clause-marked c =
    slice_get_within c.args.self.now.marks.items c.in-Some.need.now New (descend_is (slice_get c.args.self.now.marks.items c.in-Some.need.now) (sym (ap (λ ms. turn_of (slice_get ms c.in-Some.need.now)) c.as_slice.ensures.value) ∙ sym (ap turn_of c.mark_at.ensures) ∙ sym c.turn_at.ensures ∙ c.in-Descend.is))

pub returns-in_ok-descend-in-Descend-clause-search : goal.returns-in_ok-descend-in-Descend-clause-search
returns-in_ok-descend-in-Descend-clause-search c =
    let is = descend_is (slice_get c.args.self.now.marks.items c.in-Some.need.now) (sym (ap (λ ms. turn_of (slice_get ms c.in-Some.need.now)) c.as_slice.ensures.value) ∙ sym (ap turn_of c.mark_at.ensures) ∙ sym c.turn_at.ensures ∙ c.in-Descend.is) in
    let p = new_turn (stack_of c.args.self.now) (frame_shape c.args.frame) c.requires c.in-Some.need.now _ (some_first c.args.frame.rest.now c.in-Some.need.now c.in-Some.ensures.value) is c.in_ok-descend-in-Descend.ensures.marks in
    search_along p.0 refl c.in_ok-descend-in-Descend.ensures.stack c.in_ok-descend-in-Descend.ensures.order

pub returns-in_ok-descend-in-Descend-clause-nearer : goal.returns-in_ok-descend-in-Descend-clause-nearer
returns-in_ok-descend-in-Descend-clause-nearer c =
    let is = descend_is (slice_get c.args.self.now.marks.items c.in-Some.need.now) (sym (ap (λ ms. turn_of (slice_get ms c.in-Some.need.now)) c.as_slice.ensures.value) ∙ sym (ap turn_of c.mark_at.ensures) ∙ sym c.turn_at.ensures ∙ c.in-Descend.is) in
    let p = new_turn (stack_of c.args.self.now) (frame_shape c.args.frame) c.requires c.in-Some.need.now _ (some_first c.args.frame.rest.now c.in-Some.need.now c.in-Some.ensures.value) is c.in_ok-descend-in-Descend.ensures.marks in
    nearer_along p.1 refl c.in_ok-descend-in-Descend.ensures.stack

pub cycle-requires : goal.cycle-requires
cycle-requires c =
    let is = back_is (slice_get c.args.self.now.marks.items c.in-Some.need.now) c.in-Back.from (sym (ap (λ ms. turn_of (slice_get ms c.in-Some.need.now)) c.as_slice.ensures.value) ∙ sym (ap turn_of c.mark_at.ensures) ∙ sym c.turn_at.ensures ∙ c.in-Back.is) in
    let p = open_turn (stack_of c.args.self.now) (frame_shape c.args.frame) c.requires c.in-Some.need.now _ (some_first c.args.frame.rest.now c.in-Some.need.now c.in-Some.ensures.value) c.in-Back.from is in
    let le = p.0 in
    omega (arith, le, length-map c.args.self.now.stack.items frame_shape, ap length c.as_slice-in-Back.ensures.value)

pub returns-in_ok-places-in-Back-clause-reason : goal.returns-in_ok-places-in-Back-clause-reason
returns-in_ok-places-in-Back-clause-reason c =
    let is = back_is (slice_get c.args.self.now.marks.items c.in-Some.need.now) c.in-Back.from (sym (ap (λ ms. turn_of (slice_get ms c.in-Some.need.now)) c.as_slice.ensures.value) ∙ sym (ap turn_of c.mark_at.ensures) ∙ sym c.turn_at.ensures ∙ c.in-Back.is) in
    let p = open_turn (stack_of c.args.self.now) (frame_shape c.args.frame) c.requires c.in-Some.need.now _ (some_first c.args.frame.rest.now c.in-Some.need.now c.in-Some.ensures.value) c.in-Back.from is in
    let frames : map frame_shape (drop c.in-Back.from c.as_slice-in-Back.result.now) ≡ drop c.in-Back.from (stack_of c.args.self.now) =
    ap (λ fs. map frame_shape (drop c.in-Back.from fs)) c.as_slice-in-Back.ensures.value ∙ sym (drop-map frame_shape c.in-Back.from c.args.self.now.stack.items) in
    subst (IsCycle (rows c.args.needs.now)) (sym (c.in_ok-places-in-Back.ensures ∙ ap (λ fs. map frame_place fs ++ c.args.frame.place ∷ c.in-Some.need.now ∷ []) frames)) p.1

pub returns-in_ok-pass-in-Pass-clause-search : goal.returns-in_ok-pass-in-Pass-clause-search
returns-in_ok-pass-in-Pass-clause-search c =
    search_along (pass_turn (stack_of c.args.self.now) (frame_shape c.args.frame) c.requires c.in-Some.need.now _ (some_first c.args.frame.rest.now c.in-Some.need.now c.in-Some.ensures.value) (slice_get c.args.self.now.marks.items c.in-Some.need.now) refl
    (sym (ap (λ ms. turn_of (slice_get ms c.in-Some.need.now)) c.as_slice.ensures.value) ∙ sym (ap turn_of c.mark_at.ensures) ∙ sym c.turn_at.ensures ∙ c.in-Pass.is)) c.pass.ensures.marks c.in_ok-pass-in-Pass.ensures.stack c.pass.ensures.order

pub returns-in_ok-pass-in-Pass-clause-nearer : goal.returns-in_ok-pass-in-Pass-clause-nearer
returns-in_ok-pass-in-Pass-clause-nearer c =
    nearer_along (passed_nearer (rows c.args.needs.now) c.args.self.now.marks.items (stack_of c.args.self.now) (frame_shape c.args.frame) c.in-Some.need.now _ (some_first c.args.frame.rest.now c.in-Some.need.now c.in-Some.ensures.value)) c.pass.ensures.marks c.in_ok-pass-in-Pass.ensures.stack
