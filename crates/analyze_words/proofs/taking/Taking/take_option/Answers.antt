-- The option's parameter takes its value.
use Rattle.std.proofs.Common.{◌≡◌, ◌∙◌, ◌<◌, [], Some, None, true, false, not, ◌&&◌, get_or, length, map, ap, refl, sym, arith}
use Rattle.std.specs.List.{slice_get}
use Rattle.std.proofs.lemmas.Bool.{and_from, and_left, and_right}
use Rattle.std.proofs.lemmas.Option.{slice_get_read}
use Rattle.analyze_words.specs.Broken.{rule_of}
use Rattle.analyze_words.specs.Takings.{value_given}
use Rattle.analyze_words.specs.Worded.{slot_of}
use Rattle.meaning_runs.specs.Invokes as spec
use Rattle.meaning_runs.specs.Words.{option_named}
use Rattle.analyze_words.proofs.Taken.{unnamed, option_again, option_unvalued, option_taken}
use Rattle.analyze_words.proofs.taking.Taking.take_option.Goals as goal
use Rattle.analyze_words.proofs.taking.Taking.take_option.Goals.{else-is_used-via-then-is_used+else-not-slot, else-is_used-via-else-is_used}

pub returns-in_default-clause-refused : goal.returns-in_default-clause-refused
returns-in_default-clause-refused c = λ at h some.
    let slots = c.args.callable.now.slots.items in
    let name = spec.before_equals c.args.word.now in
    let none : option_named (map slot_of slots) name ≡ None = sym (c.in_default.ensures slots h.places ∙ ap (option_named (map slot_of slots)) c.split_at_equals.ensures.name) in
    (spec.unknown_option c.args.callable.now.name.now c.args.word.now, (ap rule_of (c.unknown_option.ensures some), (spec.no_option c.args.word.now, refl, unnamed slots at c.args.word.now name (spec.behind_equals c.args.word.now) c.args.others.now none)))

pub returns-then-not-slot-clause-refused : goal.returns-then-not-slot-clause-refused
returns-then-not-slot-clause-refused c = λ at h some.
    let slots = c.args.callable.now.slots in
    let name = spec.before_equals c.args.word.now in
    let place = c.in-Some.place in
    let slot = c.index-slot.result.now in
    let named : option_named (map slot_of slots.items) name ≡ Some place = sym (c.in-Some.ensures slots.items h.places ∙ ap (option_named (map slot_of slots.items)) c.split_at_equals.ensures.name) in
    let there : place < length slots.items = omega (arith, c.if-place-len.false, slots.ok.0) in
    let read : slice_get slots.items place ≡ Some slot = slice_get_read slots.items _ place slot refl there c.index-slot.ensures in
    let used = spec.is_used (get_or c.args.self.now.groups.items place []) in
    let again : (used && not slot.multiple) ≡ true = and_from used (not slot.multiple) (sym c.is_used.ensures ∙ c.if-is_used.true) (ap not c.if-not-slot.true) in (
      spec.option_value c.args.callable.now.name.now c.args.word.now,
      (ap rule_of (c.option_value.ensures some), (spec.wrong_value c.args.word.now, refl, option_again slots.items c.args.self.now at c.args.word.now name place slot (spec.behind_equals c.args.word.now) c.args.others.now h named read again)),
    )

pub returns-in_default-option_value-clause-refused : goal.returns-in_default-option_value-clause-refused
returns-in_default-option_value-clause-refused c = λ at h some.
    let slots = c.args.callable.now.slots in
    let name = spec.before_equals c.args.word.now in
    let place = c.in-Some.place in
    let slot = c.index-slot.result.now in
    let named : option_named (map slot_of slots.items) name ≡ Some place = sym (c.in-Some.ensures slots.items h.places ∙ ap (option_named (map slot_of slots.items)) c.split_at_equals.ensures.name) in
    let there : place < length slots.items = omega (arith, c.if-place-len.false, slots.ok.0) in
    let read : slice_get slots.items place ≡ Some slot = slice_get_read slots.items _ place slot refl there c.index-slot.ensures in
    let used = spec.is_used (get_or c.args.self.now.groups.items place []) in
    let free : (used && not slot.multiple) ≡ false = elim c.else-is_used.branch [
      | else-is_used-via-then-is_used+else-not-slot w ↦ and_right used (not slot.multiple) (ap not w.if-not-slot.false)
      | else-is_used-via-else-is_used w ↦ and_left used (not slot.multiple) (sym c.is_used.ensures ∙ w.if-is_used.false)
    ] in
    let none : value_given slot.takes_value (spec.behind_equals c.args.word.now) c.args.others.now ≡ None = sym (c.in_default-option_value.ensures.given ∙ ap (λ t. value_given slot.takes_value t c.args.others.now) c.split_at_equals.ensures.value) in (
      spec.option_value c.args.callable.now.name.now c.args.word.now,
      (ap rule_of (c.option_value-in_default-option_value.ensures some), (spec.wrong_value c.args.word.now, refl, option_unvalued slots.items c.args.self.now at c.args.word.now name place slot (spec.behind_equals c.args.word.now) c.args.others.now h named read free none)),
    )

pub returns-clause-found : goal.returns-clause-found
returns-clause-found c = λ at h.
    let slots = c.args.callable.now.slots in
    let name = spec.before_equals c.args.word.now in
    let place = c.in-Some.place in
    let slot = c.index-slot.result.now in
    let value = c.in-Some-option_value.value.now in
    let left = c.in-Some-option_value.left.now in
    let named : option_named (map slot_of slots.items) name ≡ Some place = sym (c.in-Some.ensures slots.items h.places ∙ ap (option_named (map slot_of slots.items)) c.split_at_equals.ensures.name) in
    let there : place < length slots.items = omega (arith, c.if-place-len.false, slots.ok.0) in
    let read : slice_get slots.items place ≡ Some slot = slice_get_read slots.items _ place slot refl there c.index-slot.ensures in
    let used = spec.is_used (get_or c.args.self.now.groups.items place []) in
    let free : (used && not slot.multiple) ≡ false = elim c.else-is_used.branch [
      | else-is_used-via-then-is_used+else-not-slot w ↦ and_right used (not slot.multiple) (ap not w.if-not-slot.false)
      | else-is_used-via-else-is_used w ↦ and_left used (not slot.multiple) (sym c.is_used.ensures ∙ w.if-is_used.false)
    ] in
    let given : value_given slot.takes_value (spec.behind_equals c.args.word.now) c.args.others.now ≡ Some (value, left) = sym (c.in-Some-option_value.ensures.given ∙ ap (λ t. value_given slot.takes_value t c.args.others.now) c.split_at_equals.ensures.value) in
    option_taken slots.items c.args.self.now c.put.new.self at c.args.word.now name place slot (spec.behind_equals c.args.word.now) c.args.others.now left value h named read free given c.in_ok-put.ensures.put c.in_ok-put.ensures.kept
