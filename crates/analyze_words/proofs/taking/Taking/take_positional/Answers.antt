-- A word by its place goes to the parameter that has room.
use Rattle.std.proofs.Common.{◌≡◌, ◌∙◌, ◌+◌, ◌<◌, ◌-◌, ◌^◌, Some, min, length, ap, refl, arith}
use Rattle.std.specs.List.{slice_get}
use Rattle.std.proofs.lemmas.Option.{slice_get_read}
use Rattle.meaning_runs.specs.Invokes.{placed_words}
use Rattle.analyze_words.proofs.Taken.{no_room, room_there, next_again, next_after, taken_word}
use Rattle.analyze_words.proofs.taking.Taking.take_positional.Goals as goal

pub returns-then-place-len : goal.returns-then-place-len
returns-then-place-len c = λ at others h. (no_room c.args.callable.now.slots.items (length (placed_words at.taken)) c.args.self.now.next h.next (omega (arith, c.if-place-len.true, c.args.callable.now.slots.ok.0)), h)

pub returns-then-not-index : goal.returns-then-not-index
returns-then-not-index c = λ at others h.
    let slots = c.args.callable.now.slots in
    let n = length (placed_words at.taken) in
    let place = c.args.self.now.next in
    let slot = c.index.result.now in
    let put = c.in_ok-put.ensures in
    let first = c.positional_from-self.ensures in
    let there : place < length slots.items = omega (arith, c.if-place-len.false, slots.ok.0) in
    let read : slice_get slots.items place ≡ Some slot = slice_get_read slots.items _ place slot refl there c.index.ensures in (
      room_there slots.items n place h.next there,
      taken_word slots.items c.args.self.now _ at c.args.word.now others h put.put (c.saturating_add-self.ensures ∙ ap (λ m. min (m + 1) (2 ^ 64 - 1)) put.kept.found) put.kept.options put.kept.places
          (next_after slots.items n place c.positional_from-self.result slot h.next read c.if-not-index.true first.within first.before first.found),
    )

pub returns-else-not-index : goal.returns-else-not-index
returns-else-not-index c = λ at others h.
    let slots = c.args.callable.now.slots in
    let n = length (placed_words at.taken) in
    let place = c.args.self.now.next in
    let slot = c.index.result.now in
    let put = c.in_ok-put.ensures in
    let there : place < length slots.items = omega (arith, c.if-place-len.false, slots.ok.0) in
    let read : slice_get slots.items place ≡ Some slot = slice_get_read slots.items _ place slot refl there c.index.ensures in (
      room_there slots.items n place h.next there,
      taken_word slots.items c.args.self.now _ at c.args.word.now others h put.put (c.saturating_add-self.ensures ∙ ap (λ m. min (m + 1) (2 ^ 64 - 1)) put.kept.found) put.kept.options put.kept.places
          (put.kept.next ∙ next_again slots.items n place slot h.next read c.if-not-index.false),
    )
